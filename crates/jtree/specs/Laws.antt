-- The law of trees.
use Rattle.std.specs.Prelude.{◌≡◌, ℕ, List, [], length, Ok}
use Rattle.jnode.specs.declared.order.Endian.{Endian}
use Rattle.jmount.specs.StateOf.{state_of}
use Rattle.jsteps.specs.Nodes.{index_of, nodes_of}
use Rattle.jscan.specs.Pages.{IsPage}
use Rattle.jsteps.specs.Refusals.{plans_of, steps_of_first}
use Rattle.jsteps.specs.Steps.{bytes, after}
use Rattle.jsteps.specs.declared.op.Op.{Op}
use Rattle.jlisting.specs.Listing.{lines_of}
use Rattle.jlisting.specs.declared.line.Line.{Line}
use Rattle.jbuild.specs.Operations.{ops_in}
use Rattle.jfolder.specs.Actions.{actions_of, FitsListing}
use Rattle.jfolder.specs.Text.{listing_text}
use Rattle.jfolder.specs.Trees.{IsTree}
use Rattle.jfolder.specs.declared.tree.Attributes.{Attributes}
use Rattle.jfolder.specs.declared.tree.Item.{Item}
use Rattle.jtree.specs.Holding.{HoldsTree}
use Rattle.jtree.specs.Making.{Files, FilesFit, AreFew, ops_with}
use Rattle.jtree.specs.Numbers.{HaveDeviceNumbers}

-- on the empty file system each operation is accepted, and after them it holds the tree, as the
-- nodes do that are written for them; these have the numbers of its devices
pub record MakesTree (page : ℕ) (e : Endian) (files : Files) (root : Attributes)
    (items : List Item) (ops : List Op) : Type 0 where
  pub accepted : length (plans_of page (index_of []) ops) ≡ length ops
  pub holds : HoldsTree e files root items
      (after bytes (state_of []) (steps_of_first page (index_of []) ops (length ops)))
  pub written : HoldsTree e files root items
      (state_of (nodes_of (index_of []) (steps_of_first page (index_of []) ops (length ops))))
  pub numbered : HaveDeviceNumbers e
      (nodes_of (index_of []) (steps_of_first page (index_of []) ops (length ops)))
      (after bytes (state_of []) (steps_of_first page (index_of []) ops (length ops))) items

-- The actions of a tree make exactly that tree.
abbrev pub ListingMakesTree : Type 0
ListingMakesTree = (page : ℕ) (e : Endian) (files : Files) (root : Attributes) (items : List Item)
    → IsPage page → FitsListing root items → IsTree items
    → FilesFit files items → AreFew files items
    → MakesTree page e files root items (ops_with e files (actions_of root items))

-- The text of a tree is read, and what it is read as makes exactly that tree.
abbrev pub TextMakesTree : Type 0
TextMakesTree = (page : ℕ) (e : Endian) (files : Files) (root : Attributes) (items : List Item)
    → IsPage page → FitsListing root items → IsTree items
    → FilesFit files items → AreFew files items
    → (lines : List Line) × (lines_of (listing_text root items) ≡ Ok lines)
    × MakesTree page e files root items (ops_in e files lines)
