use Rattle.std.proofs.Common.{◌≤◌, ◌+◌, ℕ, ap, arith}
use Rattle.std.proofs.lemmas.Bool.{leb-true}
use Rattle.files_tests.proofs.clash.RowLemmas.{below_pushed, ordered_pushed}
use Rattle.files_tests.proofs.clash.rows.placed.Goals as goal

pub loop-addr-preserved : goal.loop-addr-preserved
loop-addr-preserved g c =
    let most : c.loop-addr.least ≤ c.from.result = leb-true _ _ c.expect.ensures in
    record {
      order = ordered_pushed _ _ _ c.loop-addr.least c.in_ok-push.ensures.items c.loop-addr.invariant.order c.loop-addr.invariant.below (omega (arith, most, c.from.ensures));
      below = below_pushed _ _ _ c.loop-addr.least _ c.in_ok-push.ensures.items c.loop-addr.invariant.below (omega (arith, most, c.from.ensures)) (ap (λ (k : ℕ). k + 1) c.from-least.ensures);
    }
