-- Which nodes of an image matter: those that its tree is made of (Woodhouse 2001, JFFS: of the
-- nodes of an object or a name that of highest version counts; garbage collection copies the nodes
-- that still count and drops the others).
use Rattle.std.specs.Prelude.{◌≡◌, ℕ, ◌==◌, ◌&&◌, ◌||◌, Bool, false, not, nat_lt, is_some, List, filter, Option, Some, None, Ok, Decides}
use Rattle.std.specs.List.{list_any}
use Rattle.flashbase.specs.Lists.{below}
use Rattle.jnode.specs.declared.node.InodeNode.{InodeNode}
use Rattle.jnode.specs.declared.node.NodeRef.{NodeRef}
use Rattle.jnode.specs.declared.node.NodeRef.TheVariants.{Entry, Inode}
use Rattle.jfrag.specs.Pieces.{covers}
use Rattle.jname.specs.Live.{is_at, key_of}
use Rattle.jmount.specs.Collected.{without_addresses}
use Rattle.jmount.specs.Find.{walk}
use Rattle.jmount.specs.StateOf.{inodes, latest, object_of, piece_of, state_of, version_of, versions_of}
use Rattle.jmount.specs.Tree.{Tree, has_bits, directory_bits}

-- a node with its address
abbrev pub Placed : Type 0
Placed = ℕ × NodeRef

-- ---- reached

-- rule: The file system that nodes make: Which objects names lead to.
--   definitions: jcompact.Matters.NamesLeadTo
--   code: jcompact::reaching::unreached
--   laws: jcompact::laws::nothing_is_left_over
-- names lead to an object from the root; any bytes are a name, as in a directory
abbrev pub NamesLeadTo : {B : Type 0} → Tree B → ℕ → Type 0
NamesLeadTo t i = (names : List (List ℕ)) × (walk t names (Ok 1) ≡ Ok i)

-- of each number whether names lead to it in the tree that nodes make
abbrev pub SaysReached : List Placed → (ℕ → Bool) → Type 0
SaysReached ns reached =
    (i : ℕ) → Decides (reached i) (NamesLeadTo (state_of (without_addresses ns)) i)

-- ---- which of two nodes counts

-- whether both are entries of one name of one directory, or inode nodes of one object
abbrev pub is_for_same : NodeRef → NodeRef → Bool
is_for_same (Entry a) (Entry b) = is_at (key_of b) a
is_for_same (Inode a) (Inode b) = a.ino == b.ino
is_for_same (Entry a) (Inode b) = false
is_for_same (Inode a) (Entry b) = false

-- the first is of the higher version, or of the same at the higher address
abbrev pub is_above : Placed → Placed → Bool
is_above m n = nat_lt (version_of n.1) (version_of m.1)
    || ((version_of m.1 == version_of n.1) && nat_lt n.0 m.0)

-- the first counts, and the second does not, where both say something
abbrev pub counts_above : Placed → Placed → Bool
counts_above m n = is_for_same m.1 n.1 && is_above m n

-- none counts more
abbrev pub is_newest : List Placed → Placed → Bool
is_newest ns n = not (list_any (λ m. counts_above m n) ns)

-- ---- bytes

abbrev pub has_byte : ℕ → NodeRef → Bool
has_byte place (Inode node) = covers place (piece_of node)
has_byte place (Entry entry) = false

-- a byte of a file is read from this node
abbrev pub shows_at : List Placed → Placed → ℕ → Bool
shows_at ns n place =
    has_byte place n.1 && not (list_any (λ m. counts_above m n && has_byte place m.1) ns)

abbrev pub size_if : Option InodeNode → ℕ
size_if None = 0
size_if (Some node) = node.isize

-- the size of an object, 0 where it has no node
abbrev pub latest_size : List Placed → ℕ → ℕ
latest_size ns i = size_if (latest (versions_of (inodes (without_addresses ns)) i))

-- some byte below the size is
abbrev pub shows : List Placed → ℕ → Placed → Bool
shows ns size n = list_any (shows_at ns n) (below size)

-- ---- what matters

abbrev pub is_object : List Placed → ℕ → Bool
is_object ns i = is_some (object_of (inodes (without_addresses ns)) i)

abbrev pub is_folder : List Placed → ℕ → Bool
is_folder ns i = has_bits directory_bits (object_of (inodes (without_addresses ns)) i)

-- An entry matters that is live, in a directory that is reached, for an object that is there. An
-- inode node matters whose object is reached, if it is the newest of it or shows a byte.
abbrev pub matters : List Placed → (ℕ → Bool) → Placed → Bool
matters ns reached (addr, Entry entry) =
    is_newest ns (addr, Entry entry) && (not (entry.ino == 0)
    && (reached entry.pino && (is_folder ns entry.pino && is_object ns entry.ino)))
matters ns reached (addr, Inode node) = reached node.ino
    && (is_newest ns (addr, Inode node) || shows ns (latest_size ns node.ino) (addr, Inode node))

-- rule: The file system that nodes make: Which nodes matter to it.
--   definitions: jcompact.Matters.AreWhatMatters, jcompact.Matters.matters
--   code: jcompact::keeping::kept, jcompact::image::kept_in
--   laws: jcompact::laws::objects_are_kept, jcompact::laws::paths_are_kept,
--   jcompact::laws::nothing_is_left_over, jcompact::laws::all_still_matter,
--   jcompact::laws::each_is_missed, jcompact::examples::names_kept, jcompact::examples::bytes_kept
-- these are the nodes that matter, in the order in which they stand
abbrev pub AreWhatMatters : List Placed → List Placed → Type 0
AreWhatMatters ns kept =
    (reached : ℕ → Bool) × SaysReached ns reached × (kept ≡ filter (matters ns reached) ns)
