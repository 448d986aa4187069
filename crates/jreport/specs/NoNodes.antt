-- An image in which no node is found.
use Rattle.std.specs.Prelude.{◌≡◌, ℕ, List, [], ◌++◌, codes, length, option_map, Option, Some, None}
use Rattle.flashbase.specs.Bytes.{erased}
use Rattle.jnode.specs.declared.order.Endian.{Endian}
use Rattle.jnode.specs.declared.order.Endian.TheVariants.{Little, Big}
use Rattle.jscan.specs.Image.{sightings}
use Rattle.jscan.specs.Scans.{IsScannable}
use Rattle.jreport.specs.ExtractionNotes.{line_of_count}
use Rattle.jreport.specs.ImageFaults.{image_note}
use Rattle.jreport.specs.Notes.{note_line_of}
use Rattle.jreport.specs.declared.faults.ProgramFault.{ProgramFault}
use Rattle.jreport.specs.declared.faults.ProgramFault.TheVariants as program
use Rattle.jreport.specs.declared.image_fault.ImageFault.{ImageFault}
use Rattle.jreport.specs.declared.image_fault.ImageFault.TheVariants as image

-- how many nodes an image has in a byte order, of whatever kind: each has a good header
abbrev pub node_count : Endian → ℕ → List ℕ → ℕ
node_count e size image = length (sightings e size image)

-- all of its bytes are as erased flash has them; or there are none
abbrev pub IsAllErased : List ℕ → Type 0
IsAllErased image = image ≡ erased (length image)

-- rule: What is printed: An image in which no node is found is refused by `decompress`, `compress`,
--   `extract`, `diff` and `damage`.
--   definitions: jreport.NoNodes.HasNoNode, jreport.NoNodes.IsNoNodes, jedge.Images.HasNodes
--   code: jreport::no_nodes::refuse_no_nodes
-- no node is found in an image that can be read, and that has been written
pub record HasNoNode (e : Endian) (size : ℕ) (image : List ℕ) : Type 0 where
  pub scannable : IsScannable size image
  pub none : sightings e size image ≡ []
  pub written : IsAllErased image → ⊥

abbrev pub other_order : Endian → Endian
other_order Little = Big
other_order Big = Little

-- so many nodes are in the other order of an image, which is told by this name where it has one
abbrev pub TellsOthers : Option (List ℕ) → ℕ → ImageFault → Type 0
TellsOthers name n (image.NoNodes told others) =
    (option_map (λ text. text.now) told ≡ name) × (others ≡ n)
TellsOthers name n (image.Findings told findings) = ⊥
TellsOthers name n image.Part = ⊥
TellsOthers name n (image.NoInode ino) = ⊥
TellsOthers name n (image.NoContent ino) = ⊥

-- That is the fault, with the number of nodes in the other byte order.
pub record IsNoNodes (e : Endian) (size : ℕ) (bytes : List ℕ) (name : Option (List ℕ))
    (fault : ProgramFault) : Type 0 where
  pub none : HasNoNode e size bytes
  pub why : ImageFault
  pub is : fault ≡ program.Image why
  pub told : TellsOthers name (node_count (other_order e) size bytes) why

-- rule: What is printed: The note of `ls`, `cat` and `append` on an image in which no node is
--   found.
--   definitions: jreport.NoNodes.TellsNone, jreport.NoNodes.none_notes_of,
--   jedge.Commands.shown_noted
--   code: jreport::no_nodes::others_if_none, jreport::no_nodes::put_none_notes
-- Of an image in which no node is found it is told how many the other byte order has; of any other
-- nothing is.
abbrev pub TellsNone : Endian → ℕ → List ℕ → Option ℕ → Type 0
TellsNone e size image None = HasNoNode e size image → ⊥
TellsNone e size image (Some others) =
    HasNoNode e size image × (others ≡ node_count (other_order e) size image)

-- the line on standard error that says so
unfoldable pub none_line_of : ℕ → List ℕ
none_line_of others =
    codes "jffs2_image: note: " ++ (image_note (image.NoNodes None others) ++ codes "\n")

-- behind the one on so many findings, where there are any
unfoldable pub none_notes_of : ℕ → ℕ → List ℕ
none_notes_of findings others = line_of_count note_line_of findings ++ none_line_of others
