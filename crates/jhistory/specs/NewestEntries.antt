-- The newest entry of each name, while nodes are taken one by one.
use Rattle.std.specs.Prelude.{◌≡◌, ℕ, ◌<◌, ◌≤◌, ◌&&◌, ◌||◌, Bool, true, false, nat_lt, List, Contains, Option, Some, None}
use Rattle.std.specs.BTreeMap.{BTreeMap, get}
use Rattle.std.specs.BTreeSet.{BTreeSet, contains}
use Rattle.std.specs.Ordering.{nat_cmp}
use Rattle.jnode.specs.declared.node.Dirent.{Dirent}
use Rattle.jnode.specs.declared.node.NodeRef.TheVariants.{Entry}
use Rattle.jcompact.specs.Matters.{Placed, is_for_same, is_newest}
use Rattle.jcompact.specs.Taking.{NameKey, is_named, name_key_cmp, node_rank}
use Rattle.jhistory.specs.NodeWords.{stands_for}

-- This is the newest entry of a name: its version and address as one number, and what it stands
-- for.
pub record IsNewestOf (ns : List Placed) (key : NameKey) (top : ℕ × ℕ) : Type 0 where
  pub node : Placed
  pub there : Contains ns node
  pub same : is_named key node.1 ≡ true
  pub rank : node_rank node ≡ top.0
  pub number : stands_for top.1 node.1 ≡ true
  pub most : (m : Placed) → Contains ns m → is_named key m.1 ≡ true → node_rank m ≤ top.0

-- the newest entries of all names of some nodes, whose addresses fit 32 bits
pub record HasNewest (ns : List Placed) (newest : BTreeMap NameKey (ℕ × ℕ)) : Type 0 where
  pub some : (key : NameKey) (top : ℕ × ℕ) → get name_key_cmp newest key ≡ Some top
      → IsNewestOf ns key top
  pub none : (key : NameKey) → get name_key_cmp newest key ≡ None
      → (m : Placed) → Contains ns m → is_named key m.1 ≡ false
  pub small : (m : Placed) → Contains ns m → m.0 < 4294967296

-- none is known of a name, or an older one
abbrev pub is_newer_than : Option (ℕ × ℕ) → ℕ → Bool
is_newer_than None rank = true
is_newer_than (Some top) rank = nat_lt top.0 rank

-- the newest entry of the name of an entry that is one of these
pub record IsNewestFor (ns : List Placed) (entry : Dirent) (top : ℕ × ℕ) : Type 0 where
  pub node : Placed
  pub there : Contains ns node
  pub same : is_for_same node.1 (Entry entry) ≡ true
  pub rank : node_rank node ≡ top.0
  pub number : stands_for top.1 node.1 ≡ true
  pub most : (m : Placed) → Contains ns m → is_for_same m.1 (Entry entry) ≡ true
      → node_rank m ≤ top.0

abbrev pub IsNewestIf : List Placed → Dirent → Option (ℕ × ℕ) → Type 0
IsNewestIf ns entry None =
    (m : Placed) → Contains ns m → is_for_same m.1 (Entry entry) ≡ false
IsNewestIf ns entry (Some top) = IsNewestFor ns entry top

-- what a node stands for is added, if it is the newest entry of a name
abbrev pub AddsNamed : List Placed → Placed → BTreeSet ℕ → BTreeSet ℕ → Type 0
AddsNamed ns n old new = (i : ℕ) → contains nat_cmp new i
    ≡ ((is_newest ns n && stands_for i n.1) || contains nat_cmp old i)
