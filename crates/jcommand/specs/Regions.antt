-- The part of a file that is the image, as texts: the layout of its pages, as `2048+64`, an offset
-- and a length.
use Rattle.std.specs.Prelude.{◌==◌, ◌||◌, ℕ, Option, Some, None, if◌then◌else◌, nat_lt, eqb}
use Rattle.std.specs.List.{before_first, after_first}
use Rattle.clap.specs.Words.{Text}
use Rattle.jline.specs.Read.{◌>>=◌}
use Rattle.jspare.specs.declared.layout.PageLayout.{PageLayout}
use Rattle.jspare.specs.declared.region.Region.{Region}
use Rattle.jcommand.specs.Parsed.{decimal_number, if_given}
use Rattle.jcommand.specs.Sizes.{size_number}

-- a page has a byte at least, and of either kind there are 65536 at most
abbrev pub layout_from : ℕ → ℕ → Option PageLayout
layout_from page spare =
    if page == 0 || nat_lt 65536 page || nat_lt 65536 spare then None
    else Some (record { page = page; spare = spare })

-- the bytes of a page, `+`, and the spare bytes behind it, in decimal digits
abbrev pub layout_of : Text → Option PageLayout
layout_of text = decimal_number (before_first (λ b. eqb b 43) text) >>= λ page.
    decimal_number (after_first (λ b. eqb b 43) text) >>= λ spare.
    layout_from page spare

-- a size in bytes, which is not 0
abbrev pub length_of : Text → Option ℕ
length_of text = size_number text >>= λ n. if n == 0 then None else Some n

-- the beginning of the file, if none is given
abbrev pub offset_by : Option Text → Option ℕ
offset_by None = Some 0
offset_by (Some text) = size_number text

-- Each is read if it is given. Otherwise no bytes are spare, and the image goes to the end.
abbrev pub region_by : Option Text → Option Text → Option Text → Option Region
region_by layout offset length =
    if_given layout layout_of >>= λ l. offset_by offset >>= λ o.
    if_given length length_of >>= λ n.
    Some (record { layout = l; offset = o; length = n })
