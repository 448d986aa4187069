-- Laws of these words. Each is a statement: it holds where a function's contract names it.
use Rattle.std.specs.Prelude.{◌≡◌, ◌<◌, ℕ, ◌+◌, ◌*◌, ◌/◌, ◌%◌, List, length, slice_get}
use Rattle.jspare.specs.Spare.{without_spare}
use Rattle.jspare.specs.declared.layout.PageLayout.{PageLayout}

-- byte i of the image is byte i % P of page i / P of the dump
abbrev pub ByteOfPage : Type 0
ByteOfPage = (layout : PageLayout) (dump : List ℕ) (i : ℕ) → 0 < layout.page
    → i < length (without_spare layout dump)
    → slice_get (without_spare layout dump) i
    ≡ slice_get dump (i / layout.page * (layout.page + layout.spare) + i % layout.page)
