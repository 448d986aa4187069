use Rattle.std.proofs.Common.{arith, get_or, false}
use Rattle.jregions.proofs.TouchedLemmas.{marked_is}
use Rattle.jregions.proofs.touched.mark_from.Goals as goal

pub returns-clause-each : goal.returns-clause-each
returns-clause-each c = λ u in_old.
    let inv = c.loop-unit.invariant in
    marked_is (get_or c.loop-unit.units u false) (get_or c.args.units.now u false) c.args.first c.args.last u
    (λ from within. inv.inside u (omega (arith, inv.long, in_old)) from (omega (arith, from, within, in_old, c.loop-unit-test.false, c.min-end.ensures)))
    (inv.below u)
    (inv.above u)
