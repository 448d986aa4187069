-- The layout of a dump of which nobody says it.
use Rattle.std.specs.Prelude.{◌<◌, ◌≤◌, ℕ, ◌+◌, nat_lt, if◌then◌else◌, List, [], ◌∷◌, length, Contains, Option, Some, None}
use Rattle.jscan.specs.Image.{greatest_image}
use Rattle.jinfo.specs.Infos.{info_of}
use Rattle.jinfo.specs.declared.info.Info.{Info}
use Rattle.jspare.specs.Spare.{without_spare}
use Rattle.jspare.specs.declared.layout.PageLayout.{PageLayout}

-- the layouts that chips mostly have
abbrev pub usual_layouts : List PageLayout
usual_layouts = record { page = 512; spare = 16 } ∷ record { page = 2048; spare = 64 }
    ∷ record { page = 4096; spare = 128 } ∷ record { page = 4096; spare = 224 } ∷ []

-- the sound entries and inode nodes among the nodes of an image
abbrev pub sound_in : Info → ℕ
sound_in info = info.census.nodes.entries + info.census.nodes.inodes

-- How many sound entries and inode nodes an image has, in its own byte order; one that is too long
-- to be read has none.
unfoldable pub sound_nodes : List ℕ → ℕ
sound_nodes image = if nat_lt greatest_image (length image) then 0 else sound_in (info_of image)

-- The image by this layout has more sound nodes than the dump as it is, and by no other of these
-- layouts it has more.
pub record IsBestOf (layouts : List PageLayout) (dump : List ℕ) (best : PageLayout) : Type 0 where
  pub listed : Contains layouts best
  pub more : sound_nodes dump < sound_nodes (without_spare best dump)
  pub most : (l : PageLayout) → Contains layouts l
      → sound_nodes (without_spare l dump) ≤ sound_nodes (without_spare best dump)

-- rule: Blocks and images: The layout of a dump is the one by which most nodes are sound, if these
--   are more than without it.
--   definitions: jspare.Finding.IsSpareOf, jspare.Finding.sound_nodes
--   code: jspare::finding::spare_of
-- the layout of a dump, of these; none, if by none of them more nodes are sound than without it
abbrev pub IsSpareOf : List PageLayout → List ℕ → Option PageLayout → Type 0
IsSpareOf layouts dump (Some best) = IsBestOf layouts dump best
IsSpareOf layouts dump None = (l : PageLayout) → Contains layouts l
    → sound_nodes (without_spare l dump) ≤ sound_nodes dump
