-- Updates that no stop tears.
use Rattle.std.specs.Prelude.{◌≡◌, ◌≤◌, ◌+◌, ◌⊎◌, ℕ, true, IsTrue, List, length, map, take, Contains, Some, Ok}
use Rattle.std.specs.List.{AllByRecursion}
use Rattle.flashbase.specs.Ranges.{AreBytes}
use Rattle.jnode.specs.Writing.{canonical}
use Rattle.jnode.specs.declared.node.NodeRef.{NodeRef}
use Rattle.jnode.specs.declared.order.Endian.{Endian}
use Rattle.jmount.specs.Find.{find}
use Rattle.jmount.specs.Mounts.{state, MountsAs}
use Rattle.jmount.specs.StateOf.{state_of}
use Rattle.jmount.specs.Tree.{ObjectOf, State, object, named, is_directory, has_bits, regular_bits}
use Rattle.jsteps.specs.Laws.{AllFit, OpFits}
use Rattle.jsteps.specs.Nodes.{index_of}
use Rattle.jscan.specs.Pages.{IsPage}
use Rattle.jsteps.specs.Refusals.{steps_of_first}
use Rattle.jsteps.specs.Steps.{bytes, after}
use Rattle.jsteps.specs.declared.op.Op.{Op}
use Rattle.jsteps.specs.declared.op.Op.TheVariants as op
use Rattle.jlog.specs.Headline.{IsBase, AreAccepted, index_of_image, new_nodes, resume_address}
use Rattle.jlog.specs.Left.{IsLeft}
use Rattle.jlog.specs.LeftLaws.{NoneWeak}
use Rattle.jlog.specs.Output.{output}
use Rattle.jlisting.specs.Listing.{lines_of}
use Rattle.jlisting.specs.declared.line.Line.{Line}
use Rattle.jbuild.specs.Operations.{ops_in}
use Rattle.jfolder.specs.Actions.{FitsListing}
use Rattle.jfolder.specs.Text.{listing_text}
use Rattle.jfolder.specs.declared.tree.Attributes.{Attributes}
use Rattle.jfolder.specs.declared.tree.Item.{Item}
use Rattle.jtree.specs.Making.{Files}

-- rule: Operations as steps: Updates that no stop tears: no path leads to a part of a file.
--   definitions: jtree.Updates.IsUpdate, jtree.Updates.IsWholeFile, jtree.Updates.FilesAreWhole
--   code: jsteps::planning::file, jsteps::planning::replace
--   laws: jtree::laws::updates_are_whole
-- an operation that makes no regular file without its bytes, and neither writes nor cuts one
abbrev pub IsUpdate : Op → Type 0
IsUpdate (op.Create time path mode uid gid) = ⊥
IsUpdate (op.Write time path offset new) = ⊥
IsUpdate (op.Truncate time path size) = ⊥
IsUpdate _ = Unit {0}

-- it makes a regular file with these bytes
abbrev pub MakesFileWith : List ℕ → Op → Type 0
MakesFileWith all (op.File time path mode uid gid new) = new ≡ all
MakesFileWith all (op.Put time path mode uid gid new) = new ≡ all
MakesFileWith all _ = ⊥

-- a path leads to a regular file with these bytes
pub record LeadsToFile (s : State) (path all : List ℕ) : Type 0 where
  pub number : ℕ
  pub file : ObjectOf (List ℕ)
  pub found : find s path ≡ Ok number
  pub there : object s number ≡ Some file
  pub regular : has_bits regular_bits (Some file) ≡ true
  pub body : file.body ≡ all

-- a name of a directory stands for one
pub record NamesFile (s : State) (all : List ℕ) : Type 0 where
  pub directory : ℕ
  pub name : List ℕ
  pub number : ℕ
  pub file : ObjectOf (List ℕ)
  pub entry : named s directory name ≡ Some number
  pub there : object s number ≡ Some file
  pub regular : has_bits regular_bits (Some file) ≡ true
  pub body : file.body ≡ all

-- these are all the bytes of a file that had a name in the base, or of one that an operation makes
abbrev pub IsWholeFile : State → List Op → List ℕ → Type 0
IsWholeFile base ops all = NamesFile base all ⊎ ((o : Op) × Contains ops o × MakesFileWith all o)

-- Each path that leads to a regular file leads to a whole one.
abbrev pub FilesAreWhole : State → List Op → State → Type 0
FilesAreWhole base ops s = (path all : List ℕ) → LeadsToFile s path all → IsWholeFile base ops all

-- So it is after any number of the steps of operations that are updates,
abbrev pub StepsKeepFilesWhole : Type 0
StepsKeepFilesWhole = (page : ℕ) (ns : List NodeRef) (ops : List Op) (n m : ℕ) → IsPage page
    → AllFit ns → IsTrue (is_directory (state_of ns) 1)
    → AllByRecursion OpFits ops → AllByRecursion IsUpdate ops
    → FilesAreWhole (state_of ns) ops
    (after bytes (state_of ns) (take m (steps_of_first page (index_of ns) ops n)))

-- and so in what mounts after a stop at any byte, where no node of them is weak.
abbrev pub UpdatesAreWhole : Type 0
UpdatesAreWhole = (page : ℕ) (e : Endian) (size blocks n : ℕ) (base : List ℕ) (ops : List Op)
    → IsPage page → page + 80 ≤ size → IsBase e size blocks base
    → AreBytes base → AllByRecursion OpFits ops → AllByRecursion IsUpdate ops
    → AreAccepted page e size blocks base ops n
    → let new = new_nodes e size base (steps_of_first page (index_of_image e size base) ops n) in
    let from = resume_address e size blocks base in
    let out = output e size from (map (canonical e) new) in
    NoneWeak e new
    → (k : ℕ) (image : List ℕ) → k ≤ length out → IsLeft e size blocks base from out k image
    → (s : State) × MountsAs e size image s × FilesAreWhole (state e size base) ops s

-- What a tree's text is read as are updates, whatever bytes the files of the host have.
abbrev pub ListingIsUpdate : Type 0
ListingIsUpdate = (e : Endian) (files : Files) (root : Attributes) (items : List Item)
    (lines : List Line) → FitsListing root items → lines_of (listing_text root items) ≡ Ok lines
    → AllByRecursion IsUpdate (ops_in e files lines)
