-- Which nodes matter, found from the highest version down, and of one version from the highest
-- address.
use Rattle.std.specs.Prelude.{◌≡◌, ⊤, ℕ, ◌+◌, ◌*◌, ◌<◌, ◌≤◌, ◌==◌, ◌&&◌, ◌||◌, Bool, true, false, not, nat_lt, nat_le, min, List, length, Contains, Option, Some, None, is_some}
use Rattle.std.specs.List.{list_any}
use Rattle.std.specs.Borrow.{Bor}
use Rattle.std.specs.Cow.{cow_slice_items}
use Rattle.std.specs.declared.borrow.CowSlice.{CowSlice}
use Rattle.std.specs.declared.alloc.Global.{Global}
use Rattle.std.specs.declared.cmp.Ordering.{Ordering}
use Rattle.std.specs.Ordering.{nat_cmp, ordering_then, is_eq}
use Rattle.std.specs.Cmp.Lexicographic.{slice_cmp}
use Rattle.std.specs.BTreeMap.{BTreeMap, get}
use Rattle.std.specs.BTreeSet.{BTreeSet, contains}
use Rattle.jnode.specs.declared.node.Dirent.{Dirent}
use Rattle.jnode.specs.declared.node.InodeNode.{InodeNode}
use Rattle.jnode.specs.declared.node.NodeRef.{NodeRef}
use Rattle.jnode.specs.declared.node.NodeRef.TheVariants.{Entry, Inode}
use Rattle.jfrag.specs.Pieces.{end_of}
use Rattle.jname.specs.Live.{is_at}
use Rattle.jmount.specs.StateOf.{piece_of, version_of}
use Rattle.jmount.specs.Tree.{ObjectOf, State, object, is_directory, is_there}
use Rattle.jcompact.specs.Matters.{Placed, matters}
use Rattle.jcompact.specs.declared.taken.Taken.{Taken}

-- ---- the order

-- version and address as one number
abbrev pub node_rank : Placed → ℕ
node_rank n = version_of n.1 * 4294967296 + n.0

-- some node of these whose rank is this one or above passes a test
abbrev pub among : List Placed → ℕ → (Placed → Bool) → Bool
among ns floor test = list_any (λ n. nat_le floor (node_rank n) && test n) ns

-- the nodes of lower ranks are those that are left, by their ranks
pub record AreUntaken (ns : List Placed) (floor : ℕ) (left : BTreeMap ℕ (Bor Placed)) : Type 0 where
  pub each : (n : Placed) → Contains ns n → node_rank n < floor
      → is_some (get nat_cmp left (node_rank n)) ≡ true
  pub only : (k : ℕ) (n : Bor Placed) → get nat_cmp left k ≡ Some n
      → Contains ns n.now × (node_rank n.now ≡ k) × (k < floor)

-- a node is the one of highest rank below this one
pub record IsNext (ns : List Placed) (floor : ℕ) (x : Placed) : Type 0 where
  pub there : Contains ns x
  pub lower : node_rank x < floor
  pub only : (n : Placed) → Contains ns n → node_rank x ≤ node_rank n → node_rank n < floor → n ≡ x

-- ---- what nodes have

-- one number for a place of an object
abbrev pub spot_of : ℕ → ℕ → ℕ
spot_of ino place = ino * 4294967296 + place

-- the spots from which on and up to which a node has bytes are among these
abbrev pub HasEnds : BTreeSet ℕ → NodeRef → Type 0
HasEnds spots (Entry entry) = ⊤
HasEnds spots (Inode node) = (contains nat_cmp spots (spot_of node.ino node.offset) ≡ true)
    × (contains nat_cmp spots (spot_of node.ino (end_of (piece_of node))) ≡ true)

abbrev pub covers_spot : ℕ → NodeRef → Bool
covers_spot c (Entry entry) = false
covers_spot c (Inode node) = nat_le (spot_of node.ino node.offset) c
    && nat_lt c (spot_of node.ino (end_of (piece_of node)))

-- a version of the object
abbrev pub is_of : ℕ → NodeRef → Bool
is_of i (Entry entry) = false
is_of i (Inode node) = node.ino == i

-- an entry of the name
abbrev pub NameKey : Type 0
NameKey = ℕ × CowSlice ℕ Global

abbrev pub name_key_cmp : NameKey → NameKey → Ordering
name_key_cmp a b = ordering_then (nat_cmp a.0 b.0)
    (slice_cmp nat_cmp (cow_slice_items a.1) (cow_slice_items b.1))

abbrev pub is_named : NameKey → NodeRef → Bool
is_named key (Entry entry) = is_at (key.0, cow_slice_items key.1) entry
is_named key (Inode node) = false

-- ---- what is known

-- Of the nodes of these ranks: the spots that none has, the numbers and the names that one has, and
-- the addresses of those that matter.
pub record KnowsTaken (ns : List Placed) (reached : ℕ → Bool) (spots : BTreeSet ℕ) (floor : ℕ)
    (taken : Taken) : Type 0 where
  pub bare : (c : ℕ) → contains nat_cmp taken.bare c
      ≡ (contains nat_cmp spots c && not (among ns floor (λ n. covers_spot c n.1)))
  pub numbers : (i : ℕ) → contains nat_cmp taken.numbers i ≡ among ns floor (λ n. is_of i n.1)
  pub names : (key : NameKey) → contains name_key_cmp taken.names key
      ≡ among ns floor (λ n. is_named key n.1)
  pub kept : (a : ℕ) → contains nat_cmp taken.kept a
      ≡ among ns floor (λ n. (n.0 == a) && matters ns reached n)

-- ---- one more

-- of each number whether names lead to it, where these are the objects that none lead to
abbrev pub reached_by : State → BTreeSet ℕ → ℕ → Bool
reached_by s unreached i = is_there s i && not (contains nat_cmp unreached i)

-- an entry stands for an object, in a directory that is reached
abbrev pub stands : State → (ℕ → Bool) → Dirent → Bool
stands s reached entry = not (entry.ino == 0)
    && (reached entry.pino && (is_directory s entry.pino && is_there s entry.ino))

-- the size of an object, 0 where there is none
abbrev pub size_if_there : Option (ObjectOf (List ℕ)) → ℕ
size_if_there None = 0
size_if_there (Some o) = length o.body

abbrev pub size_there : State → ℕ → ℕ
size_there s i = size_if_there (object s i)

-- an address is added, if it is said so
abbrev pub AddsIf : BTreeSet ℕ → BTreeSet ℕ → ℕ → Bool → Type 0
AddsIf old new addr also =
    (a : ℕ) → contains nat_cmp new a ≡ (((addr == a) && also) || contains nat_cmp old a)

-- whether one of these spots is bare
pub record SaysBare (bare : BTreeSet ℕ) (from to : ℕ) (says : Bool) : Type 0 where
  pub yes : says ≡ true → (c : ℕ) × (from ≤ c) × (c < to) × (contains nat_cmp bare c ≡ true)
  pub no : says ≡ false → (c : ℕ) → from ≤ c → c < to → contains nat_cmp bare c ≡ false

-- A version is taken: it covers its range, its number is known, and its address is kept if names
-- lead to its object and it is the first of it or shows a byte.
pub record TakesInode (s : State) (reached : ℕ → Bool) (addr : ℕ) (node : InodeNode)
    (old new : Taken) : Type 0 where
  pub shows : Bool
  pub says : SaysBare old.bare (spot_of node.ino node.offset)
      (spot_of node.ino (min (end_of (piece_of node)) (size_there s node.ino))) shows
  pub bare : (c : ℕ) → contains nat_cmp new.bare c
      ≡ (contains nat_cmp old.bare c && not (covers_spot c (Inode node)))
  pub numbers : AddsIf old.numbers new.numbers node.ino true
  pub names : new.names ≡ old.names
  pub kept : AddsIf old.kept new.kept addr
      (reached node.ino && (not (contains nat_cmp old.numbers node.ino) || shows))

-- An entry is taken: its name is known, and its address is kept if it is the first of it and stands
-- for an object.
pub record TakesEntry (s : State) (reached : ℕ → Bool) (addr : ℕ) (entry : Dirent)
    (old new : Taken) : Type 0 where
  pub key : NameKey
  pub number : key.0 ≡ entry.pino
  pub name : cow_slice_items key.1 ≡ entry.name
  pub bare : new.bare ≡ old.bare
  pub numbers : new.numbers ≡ old.numbers
  pub names : (other : NameKey) → contains name_key_cmp new.names other
      ≡ (is_eq (name_key_cmp key other) || contains name_key_cmp old.names other)
  pub kept : AddsIf old.kept new.kept addr
      (not (contains name_key_cmp old.names key) && stands s reached entry)

abbrev pub TakesNode : State → (ℕ → Bool) → Placed → Taken → Taken → Type 0
TakesNode s reached (addr, Inode node) old new = TakesInode s reached addr node old new
TakesNode s reached (addr, Entry entry) old new = TakesEntry s reached addr entry old new
