-- The text that `history` prints of an image, and what a call puts. The words for fields are those
-- of Linux, include/uapi/linux/jffs2.h: `struct jffs2_raw_dirent`, `struct jffs2_raw_inode`.
use Rattle.std.specs.Prelude.{◌≡◌, ℕ, ◌<◌, ◌&&◌, nat_le, Bool, true, false, IsTrue, List, [], ◌++◌, length, filter_map, codes, decimal, Option, Some, None, is_none, option_map, Result, Ok, Err, if◌then◌else◌}
use Rattle.std.specs.Borrow.{Bor}
use Rattle.std.specs.BTreeMap.{get}
use Rattle.std.specs.BTreeSet.{BTreeSet, contains}
use Rattle.std.specs.Io.KnownBytes.{Appends}
use Rattle.std.specs.List.{count_by, flat_map}
use Rattle.std.specs.Ordering.{nat_cmp}
use Rattle.flashbase.specs.Device.{PutsPart, next_count}
use Rattle.flashbase.specs.Sinks.{SinkChange}
use Rattle.jnode.specs.Compressed.{inode_with}
use Rattle.jnode.specs.declared.node.Dirent.{Dirent}
use Rattle.jnode.specs.declared.node.Fill.{Fill}
use Rattle.jnode.specs.declared.node.Fill.TheVariants as fill
use Rattle.jnode.specs.declared.node.InodeNode.{InodeNode}
use Rattle.jnode.specs.declared.node.Seen.{Seen}
use Rattle.jnode.specs.declared.node.Seen.TheVariants as seen
use Rattle.jnode.specs.declared.order.Endian.{Endian}
use Rattle.jscan.specs.Image.{is_block_size, greatest_image}
use Rattle.jscan.specs.Scans.{IsScannable, image_extents}
use Rattle.jscan.specs.declared.extent.Extent.{Extent}
use Rattle.jscan.specs.declared.extent.ExtentKind.{ExtentKind}
use Rattle.jscan.specs.declared.extent.ExtentKind.TheVariants.{Tiled}
use Rattle.jexpand.specs.Expanded.{compressed_node_at}
use Rattle.jline.specs.Words.{escaped, hex, octal}
use Rattle.jhistory.specs.NodeWords.{Words}
use Rattle.jhistory.specs.declared.fault.HistoryFault.{HistoryFault}
use Rattle.jhistory.specs.declared.fault.HistoryFault.TheVariants as fault
use Rattle.jhistory.specs.declared.period.Period.{Period}
use Rattle.jhistory.specs.declared.totals.Totals.{Totals}
use Rattle.jhistory.specs.declared.word.NodeWord.{NodeWord}
use Rattle.jhistory.specs.declared.word.NodeWord.TheVariants.{Live, Superseded, Deleted, Deletion, Unreached, Obsolete}

-- ---- fields

abbrev pub word_text : NodeWord → List ℕ
word_text Live = codes "live"
word_text Superseded = codes "superseded"
word_text Deleted = codes "deleted"
word_text Deletion = codes "deletion"
word_text Unreached = codes "unreached"
word_text Obsolete = codes "obsolete"

-- the word for a field, and its number
abbrev pub field_text : List ℕ → ℕ → List ℕ
field_text name n = name ++ decimal n

unfoldable pub entry_owner : Dirent → List ℕ
entry_owner d =
    field_text (codes " entry pino ") d.pino ++ field_text (codes " version ") d.version
    ++ field_text (codes " ino ") d.ino

unfoldable pub entry_rest : Dirent → List ℕ
entry_rest d =
    field_text (codes " mctime ") d.mctime ++ field_text (codes " type ") d.kind
    ++ codes " name " ++ escaped d.name

abbrev pub entry_fields : Dirent → List ℕ
entry_fields d = entry_owner d ++ entry_rest d

unfoldable pub inode_version : InodeNode → List ℕ
inode_version i =
    field_text (codes " inode ino ") i.ino ++ field_text (codes " version ") i.version

unfoldable pub inode_owner : InodeNode → List ℕ
inode_owner i =
    codes " mode " ++ octal i.mode
    ++ field_text (codes " uid ") i.uid ++ field_text (codes " gid ") i.gid

unfoldable pub inode_times : InodeNode → List ℕ
inode_times i =
    field_text (codes " isize ") i.isize ++ field_text (codes " atime ") i.atime
    ++ field_text (codes " mtime ") i.mtime ++ field_text (codes " ctime ") i.ctime

unfoldable pub inode_range : InodeNode → ℕ → List ℕ
inode_range i compr =
    field_text (codes " offset ") i.offset ++ field_text (codes " dsize ") i.dsize
    ++ field_text (codes " compr ") compr

-- an inode node, whose data are compressed by the method of this number
abbrev pub inode_fields : InodeNode → ℕ → List ℕ
inode_fields i compr =
    inode_version i ++ (inode_owner i ++ (inode_times i ++ inode_range i compr))

-- the number of the method of data that are read as they are
abbrev pub compr_of_fill : Fill → ℕ
compr_of_fill fill.Zero = 1
compr_of_fill (fill.Data bytes) = 0

-- the fields of a node that is marked obsolete are not believed, so its length alone is told
abbrev pub obsolete_fields : ℕ → List ℕ
obsolete_fields len = field_text (codes " length ") len

-- ---- lines

unfoldable pub history_line : ℕ → NodeWord → List ℕ → List ℕ
history_line addr word fields =
    hex 8 addr ++ codes " " ++ word_text word ++ fields ++ codes "\n"

-- the numbers of the objects whose nodes are told, or all of them
abbrev pub Subjects : Type 0
Subjects = Option (BTreeSet ℕ)

abbrev pub is_subject : Subjects → ℕ → Bool
is_subject None i = true
is_subject (Some numbers) i = contains nat_cmp numbers i

-- at a time or later, and at a time or earlier
abbrev pub is_since : Option ℕ → ℕ → Bool
is_since None time = true
is_since (Some first) time = nat_le first time

abbrev pub is_until : Option ℕ → ℕ → Bool
is_until None time = true
is_until (Some last) time = nat_le time last

abbrev pub is_in_period : Period → ℕ → Bool
is_in_period period time = is_since period.since time && is_until period.until time

-- no time is left out, so it is not asked for
abbrev pub is_always : Period → Bool
is_always period = is_none period.since && is_none period.until

-- whose nodes are told, and of which times
pub record Selection : Type 0 where
  pub subjects : Subjects
  pub period : Period

-- as a call is lent it
abbrev pub selection : Option (Bor (BTreeSet ℕ)) → Period → Selection
selection subjects period =
    record { subjects = option_map (λ numbers. numbers.now) subjects; period = period }

-- a node of an object and of a time is told
abbrev pub is_selected : Selection → ℕ → ℕ → Bool
is_selected selected i time =
    is_in_period selected.period time && is_subject selected.subjects i

-- all nodes are told
abbrev pub is_of_all : Selection → Bool
is_of_all selected = is_always selected.period && is_none selected.subjects

-- a word and its line
abbrev pub WordLine : Type 0
WordLine = NodeWord × List ℕ

abbrev pub line_by : ℕ → List ℕ → Bool → Option NodeWord → Option WordLine
line_by addr fields true word = option_map (λ w. (w, history_line addr w fields)) word
line_by addr fields false word = None

-- A node is told if it has a word, if the object that it is of, or that its name stands for, is a
-- subject, and if its time is in the period: `mtime` of an inode node, `mctime` of an entry.
abbrev pub node_told : Words → Selection → ℕ → ℕ → ℕ → List ℕ → Option WordLine
node_told words selected addr ino time fields =
    line_by addr fields (is_selected selected ino time) (get nat_cmp words addr)

-- of a node that is marked obsolete it is not known which object it was of, nor its time
abbrev pub obsolete_told : Selection → ℕ → ℕ → Option WordLine
obsolete_told selected addr len = if is_of_all selected
    then Some (Obsolete, history_line addr Obsolete (obsolete_fields len)) else None

abbrev pub seen_told : Endian → ℕ → List ℕ → Words → Selection → ℕ → ℕ → Seen → Option WordLine
seen_told e size image words selected addr len (seen.Entry d) =
    node_told words selected addr d.ino d.mctime (entry_fields d)
seen_told e size image words selected addr len (seen.Inode i) =
    node_told words selected addr i.ino i.mtime (inode_fields i (compr_of_fill i.fill))
seen_told e size image words selected addr len (seen.Compressed compr) =
    let node = inode_with (compressed_node_at e size image addr) fill.Zero in
    node_told words selected addr node.ino node.mtime (inode_fields node compr)
seen_told e size image words selected addr len seen.Obsolete = obsolete_told selected addr len
seen_told e size image words selected addr len _ = None

abbrev pub kind_told : Endian → ℕ → List ℕ → Words → Selection → ℕ → ℕ → ExtentKind
    → Option WordLine
kind_told e size image words selected addr len (Tiled what) =
    seen_told e size image words selected addr len what
kind_told e size image words selected addr len _ = None

-- what is told of an extent
abbrev pub extent_told : Endian → ℕ → List ℕ → Words → Selection → Extent → Option WordLine
extent_told e size image words selected s =
    kind_told e size image words selected s.addr s.len s.kind

abbrev pub word_line_if : Option WordLine → List ℕ
word_line_if None = []
word_line_if (Some t) = t.1

abbrev pub told_line : Endian → ℕ → List ℕ → Words → Selection → Extent → List ℕ
told_line e size image words selected s = word_line_if (extent_told e size image words selected s)

-- ---- totals

abbrev pub word_told : Option WordLine → Option NodeWord
word_told t = option_map (λ x. x.0) t

-- the words of these extents, as far as they are told
abbrev pub words_told : Endian → ℕ → List ℕ → Words → Selection → List Extent → List NodeWord
words_told e size image words selected ss =
    filter_map (λ s. word_told (extent_told e size image words selected s)) ss

abbrev pub is_live_word : NodeWord → Bool
is_live_word Live = true
is_live_word _ = false

abbrev pub is_superseded_word : NodeWord → Bool
is_superseded_word Superseded = true
is_superseded_word _ = false

abbrev pub is_deleted_word : NodeWord → Bool
is_deleted_word Deleted = true
is_deleted_word _ = false

abbrev pub is_deletion_word : NodeWord → Bool
is_deletion_word Deletion = true
is_deletion_word _ = false

abbrev pub is_unreached_word : NodeWord → Bool
is_unreached_word Unreached = true
is_unreached_word _ = false

abbrev pub is_obsolete_word : NodeWord → Bool
is_obsolete_word Obsolete = true
is_obsolete_word _ = false

abbrev pub word_totals : List NodeWord → Totals
word_totals ws = record {
  live = count_by is_live_word ws;
  superseded = count_by is_superseded_word ws;
  deleted = count_by is_deleted_word ws;
  deletion = count_by is_deletion_word ws;
  unreached = count_by is_unreached_word ws;
  obsolete = count_by is_obsolete_word ws;
}

unfoldable pub word_totals_line : Totals → List ℕ
word_totals_line t =
    codes "total" ++ field_text (codes " live ") t.live
    ++ field_text (codes " superseded ") t.superseded ++ field_text (codes " deleted ") t.deleted
    ++ field_text (codes " deletion ") t.deletion ++ field_text (codes " unreached ") t.unreached
    ++ field_text (codes " obsolete ") t.obsolete ++ codes "\n"

-- rule: What is printed: What was there: each node of an image, and what became of it.
--   definitions: jhistory.HistoryText.history_text, jhistory.HistoryText.extent_told
--   code: jhistory::history::put_history
--   laws: jhistory::laws::totals_are_all, jhistory::examples::entry_is_told
-- what `history` prints of an image whose nodes have these words, of these alone
unfoldable pub history_text : Endian → ℕ → List ℕ → Words → Selection → List ℕ
history_text e size image words selected =
    let ss = image_extents e size image in
    flat_map (told_line e size image words selected) ss
    ++ word_totals_line (word_totals (words_told e size image words selected ss))

-- ---- what a call puts

-- It puts the whole text; if the sink fails, a beginning of it went out. An image that cannot be
-- scanned is refused before anything is put, its block size first. No memory is taken.
abbrev pub PutsHistory : {T : Type 0} → ℕ → List ℕ → List ℕ → SinkChange → Result T HistoryFault
    → Type 0
PutsHistory size image text sink (Ok _) =
    IsScannable size image × Appends sink.old sink.new text × (sink.now ≡ sink.before)
PutsHistory size image text sink (Err fault.Output) =
    IsScannable size image × PutsPart sink.old sink.new text × (sink.now ≡ next_count sink.before)
PutsHistory size image text sink (Err fault.BlockSize) =
    (is_block_size size ≡ false) × (sink.new ≡ sink.old) × (sink.now ≡ sink.before)
PutsHistory size image text sink (Err fault.TooLarge) =
    IsTrue (is_block_size size) × (greatest_image < length image) × (sink.new ≡ sink.old)
    × (sink.now ≡ sink.before)
