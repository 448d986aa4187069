-- Nodes that clash, their entries and inode nodes apart.
use Rattle.std.proofs.Common.{◌≡◌, ℕ, ◌<◌, ◌≤◌, List, Some, refl, sym, ap, subst, arith}
use Rattle.std.specs.Prelude.{Contains, map}
use Rattle.std.proofs.lemmas.Option.{same_Some, none-some}
use Rattle.jnode.specs.declared.node.Dirent.{Dirent}
use Rattle.jnode.specs.declared.node.InodeNode.{InodeNode}
use Rattle.jnode.specs.declared.node.NodeRef.{NodeRef}
use Rattle.jnode.specs.declared.node.NodeRef.TheVariants.{Entry, Inode}
use Rattle.jname.specs.Clash as names
use Rattle.flashbase.proofs.MemberLemmas.{Contains-map, Contains-map_from, Contains-filter_map, Contains-filter_map_from}
use Rattle.jmount.specs.Clash.{NodesClash, SomeInodeClashesWith, NoInodesClash, IsClashAt, NoneClash}
use Rattle.jmount.specs.Collected.{without_addresses, HasNoClash, ClashesIn}
use Rattle.jmount.specs.StateOf.{inode_in, entry_in, inodes, entries}

-- a clash of these nodes is one of those, if its two nodes are
pub clash_among : (ns ms : List (ℕ × NodeRef)) (at : ℕ) → ((n : ℕ × NodeRef) → Contains ns n → n.0 ≤ at → Contains ms n) → IsClashAt ns at → IsClashAt ms at
clash_among ns ms at moves c =
    let lt : c.1 < at = c.5 in
    (c.0, c.1, c.2, moves (at, c.0) c.3 (omega arith), moves (c.1, c.2) c.4 (omega arith), c.5, c.6)

pub clashes_sym : (a b : NodeRef) → NodesClash a b → NodesClash b a
clashes_sym (Entry a) (Entry b) c = record { directory = sym c.directory; name = sym c.name; version = sym c.version; contents = λ (e : b ≡ a). c.contents (sym e) }
clashes_sym (Inode a) (Inode b) c = record { ino = sym c.ino; version = sym c.version; contents = λ (e : b ≡ a). c.contents (sym e) }
clashes_sym (Entry a) (Inode b) c = c
clashes_sym (Inode a) (Entry b) c = c

-- ---- entries and inode nodes apart

entry_is : (node : NodeRef) (entry : Dirent) → entry_in node ≡ Some entry → node ≡ Entry entry
entry_is (Entry a) entry is = ap Entry (same_Some a entry is)
entry_is (Inode a) entry is = absurd (none-some entry is)

inode_is : (node : NodeRef) (inode : InodeNode) → inode_in node ≡ Some inode → node ≡ Inode inode
inode_is (Entry a) inode is = absurd (none-some inode is)
inode_is (Inode a) inode is = ap Inode (same_Some a inode is)

pub in_entries : (ns : List NodeRef) (entry : Dirent) → Contains ns (Entry entry) → Contains (entries ns) entry
in_entries ns entry h = Contains-filter_map entry_in ns (Entry entry) entry h refl

pub in_inodes : (ns : List NodeRef) (inode : InodeNode) → Contains ns (Inode inode) → Contains (inodes ns) inode
in_inodes ns inode h = Contains-filter_map inode_in ns (Inode inode) inode h refl

pub from_entries : (ns : List NodeRef) (entry : Dirent) → Contains (entries ns) entry → Contains ns (Entry entry)
from_entries ns entry h =
    let found = Contains-filter_map_from entry_in ns entry h in
    subst (λ (node : NodeRef). Contains ns node) (entry_is found.0 entry found.2) found.1

pub from_inodes : (ns : List NodeRef) (inode : InodeNode) → Contains (inodes ns) inode → Contains ns (Inode inode)
from_inodes ns inode h =
    let found = Contains-filter_map_from inode_in ns inode h in
    subst (λ (node : NodeRef). Contains ns node) (inode_is found.0 inode found.2) found.1

-- where no entries clash and no inode nodes, no nodes do
pub plain_apart : (ns : List NodeRef) → names.NoEntriesClash (entries ns) → NoInodesClash (inodes ns) → (a b : NodeRef) → Contains ns a → Contains ns b → NodesClash a b → ⊥
plain_apart ns of_entries of_inodes (Entry a) (Entry b) h g c = of_entries b (in_entries ns b g) a (in_entries ns a h) c
plain_apart ns of_entries of_inodes (Inode a) (Inode b) h g c = of_inodes b (in_inodes ns b g) a (in_inodes ns a h) c
plain_apart ns of_entries of_inodes (Entry a) (Inode b) h g c = c
plain_apart ns of_entries of_inodes (Inode a) (Entry b) h g c = c

pub no_clash_at : (ns : List (ℕ × NodeRef)) → NoneClash (without_addresses ns) → HasNoClash ns
no_clash_at ns none at c =
    none c.0 c.2
    (Contains-map (λ (n : ℕ × NodeRef). n.1) ns (at, c.0) c.3) (Contains-map (λ (n : ℕ × NodeRef). n.1) ns (c.1, c.2) c.4) c.6

pub tables_have_no_clash : (ns : List (ℕ × NodeRef)) → names.NoEntriesClash (entries (map (λ n. n.1) ns)) → NoInodesClash (inodes (map (λ n. n.1) ns)) → HasNoClash ns
tables_have_no_clash ns of_entries of_inodes = no_clash_at ns (plain_apart (without_addresses ns) of_entries of_inodes)

with_address : (ns : List (ℕ × NodeRef)) (node other : NodeRef) → Contains (without_addresses ns) other → NodesClash other node → ClashesIn ns node
with_address ns node other h c =
    let found = Contains-map_from (λ (n : ℕ × NodeRef). n.1) ns other h in (
      found.0.0,
      other,
      subst (λ (m : NodeRef). Contains ns (found.0.0, m)) found.2 found.1,
      clashes_sym other node c,
    )

pub entry_clashes_in : (ns : List (ℕ × NodeRef)) (entry : Dirent) → names.SomeEntryClashesWith (entries (map (λ n. n.1) ns)) entry → ClashesIn ns (Entry entry)
entry_clashes_in ns entry some = with_address ns (Entry entry) (Entry some.0) (from_entries (without_addresses ns) some.0 some.1) some.2

pub inode_clashes_in : (ns : List (ℕ × NodeRef)) (inode : InodeNode) → SomeInodeClashesWith (inodes (map (λ n. n.1) ns)) inode → ClashesIn ns (Inode inode)
inode_clashes_in ns inode some = with_address ns (Inode inode) (Inode some.0) (from_inodes (without_addresses ns) some.0 some.1) some.2
