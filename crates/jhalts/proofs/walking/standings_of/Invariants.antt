use Rattle.std.proofs.Common.{◌≡◌, ◌≤◌, ◌-◌, ℕ, List, drop, length}
use Rattle.jhalts.specs.Walk.{ArePutIn, row_of_walk}
use Rattle.jhalts.proofs.WalkLemmas.{Walked}
use Rattle.jhalts.proofs.walking.standings_of.Given as goal

abbrev pub invariant-loop-i : goal.invariant-loop-i
invariant-loop-i g l = record {
  within : l.i ≤ length l.places;
  start : l.start ≤ length l.out;
  flash : l.walk.flash ≡ l.fn.walk.flash;
  walked : (forms : List (List ℕ)) → ArePutIn g.E.Order.order l.fn.walk.flash (row_of_walk l.stretches l.fn.walk) forms l.out l.places
      → Walked g.E.Order.order l.fn.walk.flash (row_of_walk l.stretches l.fn.walk) forms (row_of_walk l.stretches l.walk) (drop l.start l.out) (drop l.i l.places) l.told.items;
}

abbrev pub decreases-loop-i : goal.decreases-loop-i
decreases-loop-i g l = length l.places - l.i
