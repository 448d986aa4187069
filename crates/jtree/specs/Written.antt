-- What is written for the text of a tree holds the tree.
use Rattle.std.specs.Prelude.{◌≡◌, ℕ, List, [], Some, None, Ok, IsOk}
use Rattle.jnode.specs.declared.order.Endian.{Endian}
use Rattle.jmount.specs.Mount.{Mount}
use Rattle.jmount.specs.Mounts.{Answers, MountsAs, plain_nodes}
use Rattle.jmount.specs.Tree.{State}
use Rattle.jscan.specs.declared.page.Page.{Page}
use Rattle.jlisting.specs.Listing.{lines_of}
use Rattle.jlisting.specs.declared.line.Line.{Line}
use Rattle.jlog.specs.Resuming.{resumes_by}
use Rattle.jlog.specs.declared.report.Place.{Place}
use Rattle.jbuild.specs.Emitting.{IsEmitted, paged_flash}
use Rattle.jbuild.specs.Operations.{ops_in}
use Rattle.jfolder.specs.Actions.{FitsListing}
use Rattle.jfolder.specs.Text.{listing_text}
use Rattle.jfolder.specs.Trees.{IsTree}
use Rattle.jfolder.specs.declared.tree.Attributes.{Attributes}
use Rattle.jfolder.specs.declared.tree.Item.{Item}
use Rattle.jtree.specs.Holding.{HoldsTree}
use Rattle.jtree.specs.Making.{Files}
use Rattle.jtree.specs.Numbers.{HaveDeviceNumbers}

-- The operations of the lines of a tree's text were put out on the empty image to a sink that had
-- nothing, and nothing stopped them: so many were accepted, and their nodes have these places.
pub record IsPutOut (page : Page) (e : Endian) (size blocks : ℕ) (files : Files)
    (lines : List Line) (image : List ℕ) : Type 0 where
  pub mount : Mount
  pub accepted : ℕ
  pub places : List Place
  pub before : ℕ
  pub now : ℕ
  pub mounts : Answers e size [] (Ok mount)
  pub resumes : IsOk (resumes_by page e size blocks mount)
  pub emitted : IsEmitted (paged_flash page e size blocks) mount.image (ops_in e files lines)
      accepted places None
      (record { old = Some []; new = Some image; before = before; now = now })

-- What the sink then has is an image that mounts, as a file system that holds the tree and nothing
-- else; its nodes have the numbers of the tree's devices.
abbrev pub PutOutHoldsTree : Type 0
PutOutHoldsTree = (page : Page) (e : Endian) (size blocks : ℕ) (image : List ℕ) (files : Files)
    (root : Attributes) (items : List Item) (lines : List Line)
    → FitsListing root items → IsTree items → lines_of (listing_text root items) ≡ Ok lines
    → IsPutOut page e size blocks files lines image
    → (s : State) × MountsAs e size image s × HoldsTree e files root items s
    × HaveDeviceNumbers e (plain_nodes e size image) s items
