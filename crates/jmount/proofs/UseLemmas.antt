-- Which numbers are in use, and which widths objects have.
use Rattle.std.proofs.Common.{◌≡◌, ◌≢◌, ℕ, ◌<◌, ◌≤◌, List, [], ◌∷◌, Option, Some, None, refl, ap, sym, ◌∙◌, subst, ⊎_elim, arith}
use Rattle.std.specs.Prelude.{Contains, is_some}
use Rattle.std.proofs.lemmas.Bool.{false≢true}
use Rattle.std.proofs.lemmas.Option.{same_Some}
use Rattle.flashbase.specs.Ranges.{IsHalf, IsWord}
use Rattle.jnode.specs.Writing.{FitsInode}
use Rattle.jnode.specs.declared.node.Dirent.{Dirent}
use Rattle.jnode.specs.declared.node.InodeNode.{InodeNode}
use Rattle.jnode.specs.declared.node.NodeRef.{NodeRef}
use Rattle.jnode.specs.declared.node.NodeRef.TheVariants.{Entry, Inode}
use Rattle.flashbase.proofs.MemberLemmas.{Contains-here, Contains-there, Contains-filter_map_from}
use Rattle.jmount.specs.Clash.{NodesClash}
use Rattle.jmount.specs.Tree.{ObjectOf, object, named}
use Rattle.jmount.specs.StateOf.{inode_in, entry_in, inodes, entries, default_root, numbers_in, next_of, owner, version_of, top, state_of}
use Rattle.jmount.specs.Laws as law
use Rattle.jmount.specs.Laws.{IsLatest, HasAttributes, HasNone, IsNewestEntry, ObjectFits}
use Rattle.jmount.proofs.LeastLemmas.{next_is_least, top_is_least}
use Rattle.jmount.proofs.NamesLemmas.{name_is_of_newest}
use Rattle.jmount.proofs.NumbersLemmas.{object-state_of}
use Rattle.jmount.proofs.ObjectsLemmas.{object_is_of_latest}

-- ---- nodes of one kind are nodes

inode_of : (x : NodeRef) (node : InodeNode) → inode_in x ≡ Some node → x ≡ Inode node
inode_of (Inode other) node e = ap Inode (same_Some other node e)
inode_of (Entry entry) node e = absurd (false≢true (ap is_some e))

pub of_inodes : (ns : List NodeRef) (node : InodeNode) → Contains (inodes ns) node → Contains ns (Inode node)
of_inodes ns node c =
    let found = Contains-filter_map_from inode_in ns node c in
    subst (λ x. Contains ns x) (inode_of found.0 node found.2) found.1

entry_of : (x : NodeRef) (entry : Dirent) → entry_in x ≡ Some entry → x ≡ Entry entry
entry_of (Entry other) entry e = ap Entry (same_Some other entry e)
entry_of (Inode node) entry e = absurd (false≢true (ap is_some e))

pub of_entries : (ns : List NodeRef) (entry : Dirent) → Contains (entries ns) entry → Contains ns (Entry entry)
of_entries ns entry c =
    let found = Contains-filter_map_from entry_in ns entry c in
    subst (λ x. Contains ns x) (entry_of found.0 entry found.2) found.1

-- ---- below the next number

below_next : (ns : List NodeRef) (node : NodeRef) (i : ℕ) → Contains ns node → Contains (numbers_in node) i → i < next_of ns
below_next ns node i there named = (next_is_least ns).0.1 node i there named

owner_below : (ns : List NodeRef) (node : NodeRef) → Contains ns node → owner node < next_of ns
owner_below ns (Inode node) there = below_next ns (Inode node) node.ino there (Contains-here node.ino [])
owner_below ns (Entry entry) there = below_next ns (Entry entry) entry.pino there (Contains-here entry.pino (entry.ino ∷ []))

object_below : (ns : List NodeRef) (i : ℕ) (o : ObjectOf (List ℕ)) → object (state_of ns) i ≡ Some o → i < next_of ns
object_below ns i o e =
    ⊎_elim
    (λ (found : (node : InodeNode) × IsLatest (inodes ns) i node × HasAttributes node o).
    let below : found.0.ino < next_of ns = owner_below ns (Inode found.0) (of_inodes ns found.0 found.1.there) in
    let same : found.0.ino ≡ i = found.1.number in
    omega arith)
    (λ (root : HasNone (inodes ns) i × (i ≡ 1) × (o ≡ default_root)). let past : 1 < next_of ns = (next_is_least ns).0.0 in let same : i ≡ 1 = root.1 in omega arith)
    (object_is_of_latest (inodes ns) i o (sym (object-state_of ns i) ∙ e))

directory_below : (ns : List NodeRef) (dir : ℕ) (name : List ℕ) (i : ℕ) → named (state_of ns) dir name ≡ Some i → dir < next_of ns
directory_below ns dir name i e =
    let found = name_is_of_newest ns dir name i e in
    let entry = found.1.0 in
    let below : entry.pino < next_of ns = owner_below ns (Entry entry) (of_entries ns entry found.1.1.there) in
    let same : entry.pino ≡ dir = found.1.1.directory in
    omega arith

linked_below : (ns : List NodeRef) (dir : ℕ) (name : List ℕ) (i : ℕ) → named (state_of ns) dir name ≡ Some i → (0 < i) × (i < next_of ns)
linked_below ns dir name i e =
    let found = name_is_of_newest ns dir name i e in
    let entry = found.1.0 in
    let there : Contains ns (Entry entry) = of_entries ns entry found.1.1.there in
    let below : entry.ino < next_of ns = below_next ns (Entry entry) entry.ino there (Contains-there entry.pino (entry.ino ∷ []) entry.ino (Contains-here entry.ino [])) in
    let same : entry.ino ≡ i = found.1.2 in
    let some : i ≢ 0 = found.0 in
    (omega arith, omega arith)

pub state_is_numbered : law.StateIsNumbered
state_is_numbered ns = record { objects = object_below ns; directories = directory_below ns; linked = linked_below ns }

-- ---- from the next number on

none_of : {X : Type 0} (o : Option X) → ((x : X) → o ≡ Some x → ⊥) → o ≡ None
none_of None h = refl
none_of (Some x) h = absurd (h x refl)

pub fresh_number_is_free : law.FreshNumberIsFree
fresh_number_is_free ns i fresh = (
  none_of (object (state_of ns) i) (λ o e. let below : i < next_of ns = object_below ns i o e in absurd (omega arith)),
  (let none : top ns i ≤ 0 =
      (top_is_least ns i).1 0 (λ node there same. let below : owner node < next_of ns = owner_below ns node there in absurd (omega arith)) in
      omega arith),
  λ name. none_of (named (state_of ns) i name) (λ j e. let below : i < next_of ns = directory_below ns i name j e in absurd (omega arith)),
)

-- ---- a new node

of_one_version : (a b : NodeRef) → NodesClash a b → (owner a ≡ owner b) × (version_of a ≡ version_of b)
of_one_version (Entry a) (Entry b) clash = (clash.directory, clash.version)
of_one_version (Inode a) (Inode b) clash = (clash.ino, clash.version)
of_one_version (Entry a) (Inode b) clash = absurd clash
of_one_version (Inode a) (Entry b) clash = absurd clash

pub new_node_does_not_clash : law.NewNodeDoesNotClash
new_node_does_not_clash ns node other newer there clash =
    let one = of_one_version other node clash in
    let below : version_of other ≤ top ns (owner node) = (top_is_least ns (owner node)).0 other there one.0 in
    let same : version_of other ≡ version_of node = one.1 in
    absurd (omega arith)

-- ---- widths

attributes_fit : (node : InodeNode) (o : ObjectOf (List ℕ)) → HasAttributes node o → FitsInode node → ObjectFits o
attributes_fit node o has fits = record {
  mode = subst IsWord (sym has.mode) fits.mode;
  uid = subst IsHalf (sym has.uid) fits.uid;
  gid = subst IsHalf (sym has.gid) fits.gid;
  atime = subst IsWord (sym has.atime) fits.atime;
  mtime = subst IsWord (sym has.mtime) fits.mtime;
  ctime = subst IsWord (sym has.ctime) fits.ctime;
  size = subst IsWord (sym has.size) fits.isize;
}

root_fits : ObjectFits default_root
root_fits = record { mode = omega arith; uid = omega arith; gid = omega arith; atime = omega arith; mtime = omega arith; ctime = omega arith; size = omega arith }

pub objects_fit : law.ObjectsFit
objects_fit nodes i o fits e =
    ⊎_elim
    (λ (found : (node : InodeNode) × IsLatest nodes i node × HasAttributes node o). attributes_fit found.0 o found.2 (fits found.0 found.1.there))
    (λ (root : HasNone nodes i × (i ≡ 1) × (o ≡ default_root)). subst ObjectFits (sym root.2) root_fits)
    (object_is_of_latest nodes i o e)
