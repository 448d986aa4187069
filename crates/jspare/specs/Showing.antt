-- The layout of a dump that is printed.
use Rattle.std.specs.Prelude.{◌≡◌, ℕ, Bool, true, false, ◌&&◌, nat_le, nat_lt, List, [], ◌++◌, length, codes, decimal, Option, Some, None}
use Rattle.jscan.specs.Image.{greatest_image}
use Rattle.jinfo.specs.Infos.{info_of}
use Rattle.jspare.specs.Finding.{IsSpareOf, usual_layouts}
use Rattle.jspare.specs.declared.layout.PageLayout.{PageLayout}

-- a dump that is not too long to be read has a damaged node
unfoldable pub has_damage : List ℕ → Bool
has_damage dump = nat_le (length dump) greatest_image
    && nat_lt 0 (info_of dump).census.nodes.damaged

abbrev pub IsShownIf : Bool → List ℕ → Option PageLayout → Type 0
IsShownIf false dump found = found ≡ None
IsShownIf true dump found = IsSpareOf usual_layouts dump found

-- rule: What is printed: The layout of a dump is sought if a node in it is damaged.
--   definitions: jspare.Showing.IsSpareShown, jspare.Showing.spare_line
--   code: jspare::showing::spare_shown, jspare::line::put_spare
-- The layout of a dump, of the usual ones, where a node is damaged: where pages have spare bytes,
-- a node that goes on in the next page is.
abbrev pub IsSpareShown : List ℕ → Option PageLayout → Type 0
IsSpareShown dump found = IsShownIf (has_damage dump) dump found

unfoldable pub spare_line : PageLayout → List ℕ
spare_line layout = codes "spare " ++ decimal layout.spare ++ codes " after each "
    ++ decimal layout.page ++ codes "\n"

abbrev pub spare_lines : Option PageLayout → List ℕ
spare_lines None = []
spare_lines (Some layout) = spare_line layout
