-- The image of a tree.
use Rattle.std.specs.Prelude.{◌≡◌, ◌+◌, ◌≤◌, ℕ, IsTrue, List, [], length, map, Ok}
use Rattle.flashbase.specs.Ranges.{AreBytes}
use Rattle.jnode.specs.Writing.{canonical}
use Rattle.jnode.specs.declared.order.Endian.{Endian}
use Rattle.jmount.specs.Mounts.{MountsAs, plain_nodes}
use Rattle.jmount.specs.Tree.{State}
use Rattle.jscan.specs.Pages.{IsPage}
use Rattle.jsteps.specs.Refusals.{steps_of_first}
use Rattle.jsteps.specs.declared.op.Op.{Op}
use Rattle.jlisting.specs.Listing.{lines_of}
use Rattle.jlisting.specs.declared.line.Line.{Line}
use Rattle.jlog.specs.Headline.{IsBase, is_flash_of, index_of_image, new_nodes, resume_address}
use Rattle.jlog.specs.Left.{IsLeft}
use Rattle.jlog.specs.Output.{output}
use Rattle.jlog.specs.Places.{fit}
use Rattle.jbuild.specs.Operations.{ops_in}
use Rattle.jfolder.specs.Actions.{FitsListing}
use Rattle.jfolder.specs.Text.{listing_text}
use Rattle.jfolder.specs.Trees.{IsTree}
use Rattle.jfolder.specs.declared.tree.Attributes.{Attributes}
use Rattle.jfolder.specs.declared.tree.Item.{Item}
use Rattle.jtree.specs.Holding.{HoldsTree}
use Rattle.jtree.specs.Making.{Files, FilesFit, AreFew}
use Rattle.jtree.specs.Numbers.{HaveDeviceNumbers}

-- the nodes of operations, as they are written on a base
abbrev pub nodes_on : ℕ → Endian → ℕ → List ℕ → List Op → List (List ℕ)
nodes_on page e size base ops = map (canonical e)
    (new_nodes e size base (steps_of_first page (index_of_image e size base) ops (length ops)))

-- what goes out for them
abbrev pub out_for : ℕ → Endian → ℕ → ℕ → List ℕ → List Op → List ℕ
out_for page e size blocks base ops =
    output e size (resume_address e size blocks base) (nodes_on page e size base ops)

-- A base without nodes is there, the nodes of these operations fit the flash behind it, and all
-- that goes out for them is written to it.
pub record IsWrittenFor (page : ℕ) (e : Endian) (size blocks : ℕ) (base : List ℕ) (ops : List Op)
    (image : List ℕ) : Type 0 where
  pub page_is : IsPage page
  pub room : page + 80 ≤ size
  pub base_is : IsBase e size blocks base
  pub are_bytes : AreBytes base
  pub bare : plain_nodes e size base ≡ []
  pub fits : IsTrue
      (fit size blocks (resume_address e size blocks base) (nodes_on page e size base ops))
  pub left : IsLeft e size blocks base (resume_address e size blocks base)
      (out_for page e size blocks base ops) (length (out_for page e size blocks base ops)) image

-- The image that is written for the lines of a tree's text mounts, as a file system that holds the
-- tree and nothing else; its nodes have the numbers of the tree's devices.
abbrev pub ImageHoldsTree : Type 0
ImageHoldsTree = (page : ℕ) (e : Endian) (size blocks : ℕ) (base image : List ℕ) (files : Files)
    (root : Attributes) (items : List Item) (lines : List Line)
    → FitsListing root items → IsTree items → FilesFit files items → AreFew files items
    → lines_of (listing_text root items) ≡ Ok lines
    → IsWrittenFor page e size blocks base (ops_in e files lines) image
    → (s : State) × MountsAs e size image s × HoldsTree e files root items s
    × HaveDeviceNumbers e (plain_nodes e size image) s items

-- The empty image is such a base of any flash that is written.
pub record IsBareBase (e : Endian) (size blocks : ℕ) (base : List ℕ) : Type 0 where
  pub base_is : IsBase e size blocks base
  pub are_bytes : AreBytes base
  pub bare : plain_nodes e size base ≡ []

abbrev pub EmptyIsBare : Type 0
EmptyIsBare = (e : Endian) (size blocks : ℕ) → IsTrue (is_flash_of size blocks [])
    → IsBareBase e size blocks []
