use Rattle.std.proofs.Common.{◌≡◌, ℕ, ◌<◌, ◌≤◌, true, false, get_or, length}
use Rattle.jregions.proofs.touched.mark_from.Given as goal

abbrev pub invariant-loop-unit : goal.invariant-loop-unit
invariant-loop-unit l = record {
  long : length l.units ≡ length l.initial.units;
  inside : (u : ℕ) → u < length l.units → l.first ≤ u → u < l.unit → get_or l.units u false ≡ true;
  below : (u : ℕ) → u < l.first → get_or l.units u false ≡ get_or l.initial.units u false;
  above : (u : ℕ) → l.last < u → get_or l.units u false ≡ get_or l.initial.units u false;
}
