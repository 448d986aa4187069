-- A dump of NAND flash in which each page has its spare bytes behind it, as a programmer or
-- `nanddump -o` (mtd-utils) reads it.
use Rattle.std.specs.Prelude.{ℕ, zero, suc, ◌+◌, ◌*◌, ◌/◌, List, [], ◌++◌, length, take, drop}
use Rattle.jspare.specs.declared.layout.PageLayout.{PageLayout}

-- the bytes of a page; the last page may be short
abbrev pub page_at : PageLayout → List ℕ → ℕ → List ℕ
page_at layout dump i = take layout.page (drop (i * (layout.page + layout.spare)) dump)

-- the bytes of the first pages, one after another
unfoldable pub first_pages : PageLayout → List ℕ → ℕ → List ℕ
first_pages layout dump zero = []
first_pages layout dump (suc n) = first_pages layout dump n ++ page_at layout dump n

-- rule: Blocks and images: The image of a dump with spare bytes is its pages without them.
--   definitions: jspare.Spare.without_spare
--   code: jspare::dropping::drop_spare
--   laws: jspare::laws::byte_of_a_page, jspare::examples::known_pages
-- the image: the bytes of all pages, of a short last one too
abbrev pub without_spare : PageLayout → List ℕ → List ℕ
without_spare layout dump =
    first_pages layout dump (suc (length dump / (layout.page + layout.spare)))
