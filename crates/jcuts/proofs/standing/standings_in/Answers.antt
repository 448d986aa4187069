use Rattle.std.proofs.Common.{ℕ, zero, suc, ◌<◌, List, [], ◌∷◌, length, get_or, arith}
use Rattle.std.specs.List.{AllByRecursion}
use Rattle.jcuts.specs.Standing.{IsNodeIn}
use Rattle.jcuts.proofs.standing.standings_in.Goals as goal

each : {X : Type 0} (P : X → Type 0) (xs : List X) (i : ℕ) (d : X) → AllByRecursion P xs → i < length xs → P (get_or xs i d)
each P [] i d all below = absurd (omega arith)
each P (x ∷ xs) zero d all below = all.0
each P (x ∷ xs) (suc i) d all below = each P xs i d all.1 (omega arith)

pub standing_in-requires : goal.standing_in-requires
standing_in-requires g c =
    each (IsNodeIn g.E.Order.order c.args.from c.args.out.now) c.args.places.now c.loop-i.i _ c.requires c.loop-i-test.true
