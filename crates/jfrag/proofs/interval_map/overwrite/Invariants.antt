use Rattle.std.proofs.Common.{◌≡◌, ℕ, ◌-◌, ◌<◌, ◌≤◌, true, Some, None, ◌+◌}
use Rattle.std.specs.Prelude.{nat_lt, if◌then◌else◌}
use Rattle.std.specs.Ordering.{nat_cmp}
use Rattle.std.specs.BTreeMap.{ContainsKey, IsOrdered, get, btree_map_len}
use Rattle.jfrag.specs.IntervalMap.{interval_at, is_under, overwritten, won}
use Rattle.jfrag.proofs.interval_map.overwrite.Given as goal

abbrev pub invariant-loop-at : goal.invariant-loop-at
invariant-loop-at l = record {
  from_offset : l.piece.offset ≤ l.at;
  up_to_end : l.at ≤ l.end;
  so_far : (i : ℕ) → interval_at l.intervals.entries i ≡ (if nat_lt i l.at then overwritten l.piece i (interval_at l.initial.intervals.entries i) else interval_at l.initial.intervals.entries i);
  key : l.at < l.end → is_under l.piece.version (interval_at l.intervals.entries l.at) ≡ true → ContainsKey nat_cmp l.intervals l.at;
  stop : is_under l.piece.version (interval_at l.initial.intervals.entries (l.end - 1)) ≡ true → ContainsKey nat_cmp l.intervals l.end;
  joins : l.joined ≡ true → (l.piece.offset < l.at) × (interval_at l.intervals.entries (l.at - 1) ≡ Some l.piece);
  no_new : (q : ℕ) → get nat_cmp l.initial.intervals q ≡ None → get nat_cmp l.intervals q ≡ None;
  joined : (k : ℕ) → k + 1 < l.at → won l.piece l.initial.intervals.entries k ≡ true → won l.piece l.initial.intervals.entries (k + 1) ≡ true → get nat_cmp l.intervals (k + 1) ≡ None;
  ends : (k : ℕ) → k + 1 ≡ l.at → won l.piece l.initial.intervals.entries k ≡ true → l.joined ≡ true;
  ordered : l.piece.offset < l.at → IsOrdered nat_cmp l.intervals;
  few : btree_map_len l.intervals ≤ btree_map_len l.initial.intervals;
}

abbrev pub decreases-loop-at : goal.decreases-loop-at
decreases-loop-at l = l.end - l.at
