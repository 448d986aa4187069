use Rattle.std.proofs.Common.{◌≡◌, ℕ, ◌+◌, ◌<◌, ◌≤◌, length, get_or}
use Rattle.jfrag.specs.Overlays.{byte_at}
use Rattle.jfrag.specs.IntervalMap.{interval_at, interval_from, seen}
use Rattle.jfrag.proofs.Walk.{Ascends}
use Rattle.jfrag.proofs.interval_map.walk.Given as goal

abbrev pub invariant-loop-key : goal.invariant-loop-key
invariant-loop-key l = record {
  within : l.done < length l.out;
  read_to : l.from + l.done ≤ l.last;
  so_far : (j : ℕ) → j < l.done → get_or l.out j 0 ≡ byte_at (seen (interval_at l.intervals.entries (l.from + j)) (l.from + j));
  ahead : (j : ℕ) → l.from + l.done ≤ j → j ≤ l.last → interval_at l.intervals.entries j ≡ interval_from l.interval l.key-iterator j;
  up : Ascends (l.from + l.done) l.last l.key-iterator;
}
