-- What a source over a dump still gives, page by page.
use Rattle.std.specs.Prelude.{ℕ, ◌-◌, List, ◌++◌, take, drop, Option, None, Some}
use Rattle.jspare.specs.Spare.{without_spare}
use Rattle.jspare.specs.declared.layout.PageLayout.{PageLayout}
use Rattle.jspare.specs.declared.source.PageSource.{PageSource}

-- rule: Blocks and images: A source over a dump with spare bytes gives its image.
--   definitions: jspare.Paging.pages_by, jspare.Paging.pages_left
--   code: jspare::source::PageSource::new
--   laws: jspare::examples::known_left
-- the image of a dump by a layout, if one is given; otherwise the dump
abbrev pub pages_by : Option PageLayout → List ℕ → List ℕ
pages_by None dump = dump
pages_by (Some layout) dump = without_spare layout dump

-- The image of the rest of a dump, of whose first page `left` bytes are left, its spare bytes
-- included.
unfoldable pub pages_left : PageLayout → ℕ → List ℕ → List ℕ
pages_left layout left dump =
    take (left - layout.spare) dump ++ without_spare layout (drop left dump)

-- the same by a layout, if one is given; otherwise all of it
abbrev pub left_by : Option PageLayout → ℕ → List ℕ → List ℕ
left_by None left dump = dump
left_by (Some layout) left dump = pages_left layout left dump

-- the source of the dump
abbrev pub source_below : {S : Type 0} → PageSource S → S
source_below pages = pages.source
