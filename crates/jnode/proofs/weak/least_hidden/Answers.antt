use Rattle.std.proofs.Common.{◌≡◌, ℕ, arith, subst}
use Rattle.jnode.specs.Tails.{IsLeastFrom}
use Rattle.jnode.proofs.CutLemmas.{walk_start, least_all, least_within}
use Rattle.jnode.proofs.weak.least_hidden.Goals as goal

pub loop-place-init : goal.loop-place-init
loop-place-init c = walk_start c.args.bytes.now

pub returns-clause-least : goal.returns-clause-least
returns-clause-least c =
    let none : c.loop-place-2.place ≡ 0 = omega arith in
    least_all c.args.bytes.now c.loop-place-2.tail.least
    (subst (λ (k : ℕ). IsLeastFrom c.args.bytes.now k c.loop-place-2.tail.least) none c.loop-place-2.invariant.least_is)

pub returns-clause-within : goal.returns-clause-within
returns-clause-within c =
    let none : c.loop-place-2.place ≡ 0 = omega arith in
    least_within c.args.bytes.now c.loop-place-2.tail.least
    (least_all c.args.bytes.now c.loop-place-2.tail.least
    (subst (λ (k : ℕ). IsLeastFrom c.args.bytes.now k c.loop-place-2.tail.least) none c.loop-place-2.invariant.least_is))
