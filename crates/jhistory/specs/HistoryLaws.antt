-- Laws of histories. Each is a statement: it holds since a public function's contract names it.
use Rattle.std.specs.Prelude.{◌≡◌, ◌↔◌, ℕ, ◌+◌, List, length, Contains, Some}
use Rattle.std.specs.BTreeMap.{get}
use Rattle.std.specs.Ordering.{nat_cmp}
use Rattle.jcompact.specs.Matters.{Placed, AreWhatMatters}
use Rattle.jhistory.specs.HistoryText.{word_totals}
use Rattle.jhistory.specs.NodeWords.{AreWordsOf, Words}
use Rattle.jhistory.specs.declared.word.NodeWord.{NodeWord}
use Rattle.jhistory.specs.declared.word.NodeWord.TheVariants.{Live}

-- Each node that is told has one word, so the totals sum to them all.
abbrev pub TotalsAreAll : Type 0
TotalsAreAll = (ws : List NodeWord)
    → let t = word_totals ws in
    t.live + t.superseded + t.deleted + t.deletion + t.unreached + t.obsolete ≡ length ws

-- The live nodes are just those that matter.
abbrev pub LiveIsKept : Type 0
LiveIsKept = (ns kept : List Placed) (words : Words) → AreWordsOf ns words
    → AreWhatMatters ns kept
    → (n : Placed) → Contains ns n → (get nat_cmp words n.0 ≡ Some Live) ↔ Contains kept n
