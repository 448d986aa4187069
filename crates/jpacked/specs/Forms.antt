-- The forms that are chosen for the nodes of steps.
use Rattle.std.specs.Prelude.{◌≡◌, ◌≢◌, ◌==◌, ◌&&◌, ℕ, ◌+◌, ◌-◌, ◌<◌, ◌≤◌, Bool, true, false, not, nat_lt, List, [], ◌∷◌, length, Some}
use Rattle.std.specs.List.{AllByRecursion}
use Rattle.flashbase.specs.Bytes.{pad4_of}
use Rattle.jcompr.specs.Zlib.{zlib_of}
use Rattle.jnode.specs.Compressed.{canonical_compressed}
use Rattle.jnode.specs.Header.{magic}
use Rattle.jnode.specs.Reading.{inode_len}
use Rattle.jnode.specs.Writing.{canonical}
use Rattle.jnode.specs.declared.node.CompressedNode.{CompressedNode}
use Rattle.jnode.specs.declared.node.Fill.TheVariants.{Data}
use Rattle.jnode.specs.declared.node.InodeNode.{InodeNode}
use Rattle.jnode.specs.declared.node.NodeRef.{NodeRef}
use Rattle.jnode.specs.declared.node.NodeRef.TheVariants as node
use Rattle.jnode.specs.declared.order.Endian.{Endian}
use Rattle.jmount.specs.Tree.{type_bits, regular_bits}
use Rattle.jsteps.specs.Nodes.{Indexed, object_at, nodes_of}
use Rattle.jsteps.specs.declared.step.Step.{Step}
use Rattle.jview.specs.Through.{greatest_contents}
use Rattle.jlog.specs.Packed.{zlib_number, IsNodeForm}
use Rattle.jlog.specs.Running.{node_len}
use Rattle.jlog.specs.SessionAs.{content_len}
use Rattle.jpacked.specs.declared.choice.NodeForms.{NodeForms}
use Rattle.jpacked.specs.declared.choice.NodeForms.TheVariants as forms_in

-- ---- packed data

-- rule: The log: A form is a compressed node only if that has fewer words, and a length that does
--   not spell the magic.
--   definitions: jpacked.Forms.is_worth, jpacked.Forms.IsStreamOf, jlog.Packed.IsNodeForm
--   code: jpacked::packing::pack
-- So many bytes of packed data make a node of fewer words than so many bytes as they are, and of a
-- length that does not spell the magic.
abbrev pub is_worth : ℕ → ℕ → Bool
is_worth packed plain = nat_lt 0 packed
    && nat_lt (pad4_of (inode_len + packed)) (pad4_of (inode_len + plain))
    && not (inode_len + packed == magic)

-- packed data that give these bytes, and are worth it
pub record IsStreamOf (bytes stream : List ℕ) : Type 0 where
  pub some : 0 < length stream
  pub gives : zlib_of (length bytes) stream ≡ Some bytes
  pub shorter : pad4_of (inode_len + length stream) < pad4_of (inode_len + length bytes)
  pub plain : inode_len + length stream ≢ magic

-- ---- nodes of regular files

-- the number is one of a regular file, and no new object takes it
pub record IsFileAt (x : Indexed) (ino : ℕ) : Type 0 where
  pub taken : ino < x.tree.next
  pub regular : type_bits (object_at x ino).mode ≡ regular_bits

-- rule: The log: Only the bytes of regular files are packed.
--   definitions: jpacked.Forms.IsFileNode, jpacked.Forms.IsOfFile
--   code: jpacked::regular::packable
-- the node gives a regular file these bytes
pub record IsFileNode (inode : InodeNode) (bytes : List ℕ) : Type 0 where
  pub fill : inode.fill ≡ Data bytes
  pub long : inode.dsize ≡ length bytes
  pub regular : type_bits inode.mode ≡ regular_bits

abbrev pub IsOfFile : NodeRef → List ℕ → Type 0
IsOfFile n bytes = (inode : InodeNode) × (n ≡ node.Inode inode) × IsFileNode inode bytes

-- rule: The log: A node is packed only while the contents of all compressed nodes stay within the
--   bound of a mount through.
--   definitions: jpacked.Forms.IsChosen, jview.Through.greatest_contents
--   code: jpacked::planning::choose_all, jpacked::content::contents_len
-- What was chosen for a node: no packed data; or some of its bytes, and there was room for these
-- beside the contents that are held.
abbrev pub IsChosen : NodeRef → ℕ → List ℕ → Type 0
IsChosen n held [] = Unit {0}
IsChosen n held (b ∷ stream) = (bytes : List ℕ) × IsOfFile n bytes
    × IsStreamOf bytes (b ∷ stream) × (held + length bytes ≤ greatest_contents)

-- ---- forms

-- the compressed node of the same fields as an inode node, with these data
abbrev pub node_with_stream : InodeNode → List ℕ → CompressedNode
node_with_stream inode stream = record {
  ino = inode.ino;
  version = inode.version;
  mode = inode.mode;
  uid = inode.uid;
  gid = inode.gid;
  isize = inode.isize;
  atime = inode.atime;
  mtime = inode.mtime;
  ctime = inode.ctime;
  offset = inode.offset;
  dsize = inode.dsize;
  compr = zlib_number;
  «data» = stream;
}

-- the form of a node with packed data; and its own where there are none
abbrev pub form_with : Endian → NodeRef → List ℕ → List ℕ
form_with e n [] = canonical e n
form_with e (node.Entry entry) (b ∷ stream) = canonical e (node.Entry entry)
form_with e (node.Inode inode) (b ∷ stream) =
    canonical_compressed e (node_with_stream inode (b ∷ stream))

abbrev pub forms_with : Endian → List NodeRef → List (List ℕ) → List (List ℕ)
forms_with e [] streams = []
forms_with e (n ∷ nodes) [] = []
forms_with e (n ∷ nodes) (stream ∷ streams) = form_with e n stream ∷ forms_with e nodes streams

-- those of the nodes of steps
abbrev pub step_forms : Endian → Indexed → List Step → List (List ℕ) → List (List ℕ)
step_forms e x steps streams = forms_with e (nodes_of x steps) streams

-- Packed data that make a form of a node, or none.
abbrev pub IsMadeOf : Endian → NodeRef → List ℕ → Type 0
IsMadeOf e n [] = Unit {0}
IsMadeOf e (node.Entry entry) (b ∷ stream) = ⊥
IsMadeOf e (node.Inode inode) (b ∷ stream) =
    IsNodeForm e (node.Inode inode) (canonical_compressed e (node_with_stream inode (b ∷ stream)))

-- one for each node
abbrev pub AreMadeOf : Endian → List NodeRef → List (List ℕ) → Type 0
AreMadeOf e [] [] = Unit {0}
AreMadeOf e [] (stream ∷ streams) = ⊥
AreMadeOf e (n ∷ nodes) [] = ⊥
AreMadeOf e (n ∷ nodes) (stream ∷ streams) = IsMadeOf e n stream × AreMadeOf e nodes streams

-- whether nodes are packed
abbrev pub is_packed : NodeForms → Bool
is_packed forms_in.Packed = true
is_packed forms_in.Own = false

-- rule: The log: A session that does not pack puts each node in its own form.
--   definitions: jpacked.Forms.AreNoneUnless, jlog.SessionAs.AreFormsBy
--   code: jpacked::planning::choose_by, jpacked::session::PackingSession
-- where nodes are not packed, none of them has packed data
abbrev pub AreNoneUnless : Bool → List (List ℕ) → Type 0
AreNoneUnless true streams = Unit {0}
AreNoneUnless false streams = AllByRecursion (λ stream. stream ≡ []) streams

-- how long such a form of a step's node is, and how many bytes of content it has
abbrev pub form_len : Step → List ℕ → ℕ
form_len s [] = node_len s
form_len s (b ∷ stream) = inode_len + length (b ∷ stream)

abbrev pub content_chosen : Step → List ℕ → ℕ
content_chosen s [] = 0
content_chosen s (b ∷ stream) = node_len s - inode_len

-- Packed data for steps make forms of their nodes, and so much content is held with these, where so
-- much was before.
pub record ArePacked (e : Endian) (x : Indexed) (steps : List Step) (held : ℕ)
    (streams : List (List ℕ)) (now : ℕ) : Type 0 where
  pub made : AreMadeOf e (nodes_of x steps) streams
  pub now_is : now ≡ held + content_len e (step_forms e x steps streams)
  pub within : now ≤ greatest_contents
