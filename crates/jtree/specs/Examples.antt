-- A small tree: a directory, a file and a symlink in it, and a link to the file.
use Rattle.std.specs.Prelude.{◌≡◌, List, [], ◌∷◌, codes}
use Rattle.std.specs.declared.alloc.Global.{Global}
use Rattle.std.specs.declared.string.String.{String}
use Rattle.std.specs.String.{string_bytes}
use Rattle.jfolder.specs.Actions.{FitsListing}
use Rattle.jfolder.specs.Trees.{IsTree}
use Rattle.jfolder.specs.declared.tree.Attributes.{Attributes}
use Rattle.jfolder.specs.declared.tree.Item.{Item}
use Rattle.jfolder.specs.declared.tree.What.TheVariants as what
use Rattle.jtree.specs.Making.{Files, FilesFit, AreFew}

-- its texts
pub record Texts : Type 0 where
  pub directory : String Global
  pub file : String Global
  pub symlink : String Global
  pub link : String Global
  pub source : String Global

pub record AreTexts (t : Texts) : Type 0 where
  pub directory : string_bytes t.directory ≡ codes "/d"
  pub file : string_bytes t.file ≡ codes "/d/f"
  pub symlink : string_bytes t.symlink ≡ codes "/d/l"
  pub link : string_bytes t.link ≡ codes "/k"
  pub source : string_bytes t.source ≡ codes "f"

abbrev pub plain_attributes : Attributes
plain_attributes = record { mode = 0o755; uid = 0; gid = 0; time = 1 }

abbrev pub small_items : Texts → List Item
small_items t =
    record { path = t.directory; attributes = plain_attributes; what = what.Directory }
    ∷ record { path = t.file; attributes = plain_attributes; what = what.Regular t.source }
    ∷ record { path = t.symlink; attributes = plain_attributes; what = what.Symlink t.source }
    ∷ record { path = t.link; attributes = plain_attributes; what = what.Link t.file }
    ∷ []

-- each file of the host has these bytes
abbrev pub each_file : Files
each_file name = codes "text"

-- what the law asks of a tree
pub record SmallTreeIsMade (items : List Item) : Type 0 where
  pub fits : FitsListing plain_attributes items
  pub tree : IsTree items
  pub files : FilesFit each_file items
  pub few : AreFew each_file items

abbrev pub SmallIsMade : Type 0
SmallIsMade = (t : Texts) → AreTexts t → SmallTreeIsMade (small_items t)
