use Rattle.std.proofs.Common.{◌≡◌, ◌≤◌, ◌-◌, map, take, length}
use Rattle.jcuts.specs.Standing.{standing_in}
use Rattle.jcuts.proofs.standing.standings_in.Given as goal

abbrev pub invariant-loop-i : goal.invariant-loop-i
invariant-loop-i g l = record {
  within : l.i ≤ length l.places;
  told : l.told.items ≡ map (standing_in g.E.Order.order l.from l.out) (take l.i l.places);
}

abbrev pub decreases-loop-i : goal.decreases-loop-i
decreases-loop-i g l = length l.places - l.i
