-- Which word stands for each node of an image: what became of what it says (Woodhouse 2001, JFFS:
-- of the nodes of an object or a name that of highest version counts; an entry whose inode number
-- is 0 says that its name is gone).
use Rattle.std.specs.Prelude.{◌≡◌, ℕ, ◌==◌, ◌&&◌, Bool, true, false, List, Contains, Option, Some, if◌then◌else◌}
use Rattle.std.specs.BTreeMap.{BTreeMap, get}
use Rattle.std.specs.List.{list_any}
use Rattle.std.specs.Ordering.{nat_cmp}
use Rattle.jnode.specs.declared.node.Dirent.{Dirent}
use Rattle.jnode.specs.declared.node.InodeNode.{InodeNode}
use Rattle.jnode.specs.declared.node.NodeRef.{NodeRef}
use Rattle.jnode.specs.declared.node.NodeRef.TheVariants.{Entry, Inode}
use Rattle.jcompact.specs.Matters.{Placed, SaysReached, is_for_same, is_newest, matters}
use Rattle.jhistory.specs.declared.word.NodeWord.{NodeWord}
use Rattle.jhistory.specs.declared.word.NodeWord.TheVariants.{Live, Superseded, Deleted, Deletion, Unreached}

-- ---- names

-- an entry by which its name stands for a number; for 0 it says that the name is gone
abbrev pub stands_for : ℕ → NodeRef → Bool
stands_for i (Entry entry) = entry.ino == i
stands_for i (Inode node) = false

-- the newest entry of some name stands for a number
abbrev pub has_name : List Placed → ℕ → Bool
has_name ns i = list_any (λ m. is_newest ns m && stands_for i m.1) ns

-- the newest entry of an entry's name says that it is gone
abbrev pub is_gone : List Placed → Dirent → Bool
is_gone ns entry =
    list_any (λ m. is_newest ns m && (stands_for 0 m.1 && is_for_same m.1 (Entry entry))) ns

-- ---- words

-- An entry that is not live is a deletion if it says that its name is gone. If it is the newest of
-- its name, its directory is not reached or its object is not there. Else a newer one took its
-- place, or deleted the name.
abbrev pub word_beside : Bool → Bool → Bool → NodeWord
word_beside none newest gone =
    if none then Deletion else
    if newest then Unreached else
    if gone then Deleted else Superseded

abbrev pub entry_word : List Placed → ℕ → Dirent → NodeWord
entry_word ns addr entry =
    word_beside (entry.ino == 0) (is_newest ns (addr, Entry entry)) (is_gone ns entry)

-- An inode node that is not live has newer ones above it, if its object is reached. Else a name
-- that is itself not reached stands for the object, or none does.
abbrev pub object_word : Bool → Bool → NodeWord
object_word reached named = if reached then Superseded else if named then Unreached else Deleted

abbrev pub inode_word : List Placed → (ℕ → Bool) → InodeNode → NodeWord
inode_word ns reached node = object_word (reached node.ino) (has_name ns node.ino)

abbrev pub other_word : List Placed → (ℕ → Bool) → Placed → NodeWord
other_word ns reached (addr, Entry entry) = entry_word ns addr entry
other_word ns reached (addr, Inode node) = inode_word ns reached node

-- rule: The file system that nodes make: What became of each node.
--   definitions: jhistory.NodeWords.node_word, jhistory.NodeWords.AreWordsOf
--   code: jhistory::words::words_of
--   laws: jhistory::laws::live_is_kept, jhistory::examples::names_have_words,
--   jhistory::examples::objects_have_words
-- the word of one of some nodes
abbrev pub node_word : List Placed → (ℕ → Bool) → Placed → NodeWord
node_word ns reached n = if matters ns reached n then Live else other_word ns reached n

-- ---- the words of all

-- words by the addresses of nodes
abbrev pub Words : Type 0
Words = BTreeMap ℕ NodeWord

-- just these nodes have words, each the one that a function gives
pub record AreWordsBy (ns : List Placed) (word : Placed → NodeWord) (words : Words) : Type 0 where
  pub each : (n : Placed) → Contains ns n → get nat_cmp words n.0 ≡ Some (word n)
  pub only : (a : ℕ) (w : NodeWord) → get nat_cmp words a ≡ Some w
      → (n : Placed) × Contains ns n × (n.0 ≡ a)

-- these nodes have words, each its own
abbrev pub AreWordsOf : List Placed → Words → Type 0
AreWordsOf ns words =
    (reached : ℕ → Bool) × SaysReached ns reached × AreWordsBy ns (node_word ns reached) words

-- ---- while they are found

-- the nodes at these addresses are live, and the others as they were
abbrev pub word_or_live : Bool → Option NodeWord → Option NodeWord
word_or_live true word = Some Live
word_or_live false word = word

abbrev pub MarksLive : List Placed → Words → Words → Type 0
MarksLive kept old new = (a : ℕ) → get nat_cmp new a
    ≡ word_or_live (list_any (λ n. n.0 == a) kept) (get nat_cmp old a)
