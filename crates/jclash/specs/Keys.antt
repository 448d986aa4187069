-- What is known of the nodes above an address, by what nodes have in common that may clash.
use Rattle.std.specs.Prelude.{◌≡◌, ◌≢◌, ◌⊎◌, ℕ, List, [], Option, Some, None}
use Rattle.std.specs.Option.{option_or}
use Rattle.std.specs.Cow.{cow_slice_items}
use Rattle.std.specs.declared.borrow.CowSlice.{CowSlice}
use Rattle.std.specs.declared.alloc.Global.{Global}
use Rattle.std.specs.declared.cmp.Ordering.{Ordering}
use Rattle.std.specs.Ordering.{nat_cmp, ordering_then}
use Rattle.std.specs.Cmp.Lexicographic.{slice_cmp}
use Rattle.std.specs.BTreeMap.{BTreeMap, get}
use Rattle.jnode.specs.declared.node.NodeRef.{NodeRef}
use Rattle.jnode.specs.declared.node.NodeRef.TheVariants.{Entry, Inode}
use Rattle.jclash.specs.Parting.{IsClashAmong, IsHighestClash, NoneClashesWith}
use Rattle.jclash.specs.declared.highest.Highest.{Highest}

-- the kind, the number of the directory or object, the version, and the name
abbrev pub NodeKey : Type 0
NodeKey = ℕ × ℕ × ℕ × CowSlice ℕ Global

abbrev pub IsKeyOf : NodeRef → NodeKey → Type 0
IsKeyOf (Entry entry) key = (key.0 ≡ 0) × (key.1 ≡ entry.pino) × (key.2 ≡ entry.version)
    × (cow_slice_items key.3 ≡ entry.name)
IsKeyOf (Inode inode) key = (key.0 ≡ 1) × (key.1 ≡ inode.ino) × (key.2 ≡ inode.version)
    × (cow_slice_items key.3 ≡ [])

-- keys in order
abbrev pub node_key_cmp : NodeKey → NodeKey → Ordering
node_key_cmp a b =
    ordering_then (ordering_then (ordering_then (nat_cmp a.0 b.0) (nat_cmp a.1 b.1))
    (nat_cmp a.2 b.2)) (slice_cmp nat_cmp (cow_slice_items a.3) (cow_slice_items b.3))

-- What a node of these of highest address tells of another of its key: where it says the same, the
-- other address that is known, else its own.
abbrev pub TellsClash : List (ℕ × NodeRef) → NodeRef → Option Highest → Type 0
TellsClash ns node None = NoneClashesWith ns node
TellsClash ns node (Some h) =
    (h.node.now ≡ node → IsClashAmong ns node h.other)
    × (h.node.now ≢ node → IsHighestClash ns node h.addr)

-- what is known tells of each node whether one of these clashes with it
abbrev pub KnowsNodes : List (ℕ × NodeRef) → BTreeMap NodeKey Highest → Type 0
KnowsNodes ns known = (node : NodeRef) (key : NodeKey) → IsKeyOf node key
    → TellsClash ns node (get node_key_cmp known key)

-- what is known of a key with one node more, below all others; and the highest address of one that
-- clashes with it
abbrev pub KnowsOneMore : Option Highest → ℕ → NodeRef → Option ℕ × Highest → Type 0
KnowsOneMore None addr node done = (done.0 ≡ None) × (done.1.addr ≡ addr)
    × (done.1.node.now ≡ node) × (done.1.other ≡ None)
KnowsOneMore (Some h) addr node done = (done.1.addr ≡ h.addr) × (done.1.node ≡ h.node)
    × (((h.node.now ≡ node) × (done.0 ≡ h.other) × (done.1.other ≡ h.other))
    ⊎ ((h.node.now ≢ node) × (done.0 ≡ Some h.addr)
    × (done.1.other ≡ option_or h.other (Some addr))))
