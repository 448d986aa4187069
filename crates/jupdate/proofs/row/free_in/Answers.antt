use Rattle.std.proofs.Common.{rules, refl, ◌≡◌, ◌+◌, ◌*◌, ◌<◌, ◌≤◌, ◌∙◌, suc, length, ℕ, List, drop, arith, subst, sym, ap}
use Rattle.std.specs.List.{AllByRecursion}
use Rattle.jlog.specs.Places.{free}
use Rattle.jrests.specs.declared.opening.Opening.{Opening}
use Rattle.jupdate.specs.Rows.{IsOpen, ends_of, free_in, left_at}
use Rattle.jupdate.proofs.FreeLemmas.{free_end, free_small, free_step}
use Rattle.jupdate.proofs.RowLemmas.{head_is, tail_is}
use Rattle.jupdate.proofs.StretchLemmas.{many_ends}
use Rattle.jupdate.proofs.row.free_in.Goals as goal

first : Opening
first = record { block = 0; place = 0 }

pub free-sum-requires-clause-within : goal.free-sum-requires-clause-within
free-sum-requires-clause-within c =
    let at = c.loop-next.next in
    let it = head_is (IsOpen c.args.flash.size c.args.flash.count) (ends_of c.args.stretches.now) at.passed at.place first (omega (arith, many_ends c.args.stretches.now)) c.loop-next.invariant.openings in
    omega (arith, it.inside)

pub overflow_add-sum : goal.overflow_add-sum
overflow_add-sum c =
    let a = c.args in
    let at = c.loop-next.next in
    let below : at.passed < length (ends_of a.stretches.now) = omega (arith, many_ends a.stretches.now) in
    let step = free_step a.flash.size (ends_of a.stretches.now) at.passed at.place first (free_in a.flash.size (left_at (ends_of a.stretches.now) a.cursor)) c.loop-next.sum (drop (suc at.passed) (ends_of a.stretches.now)) below c.loop-next.invariant.sum_is refl in
    let most = free_small a.flash.size a.flash.count (left_at (ends_of a.stretches.now) a.cursor) c.requires.flash c.requires.few in
    let small : c.loop-next.sum + c.free-sum.result ≤ 268435456 = omega (arith, step, most, c.free-sum.ensures) in
    search (rules, small)

pub loop-next-preserved : goal.loop-next-preserved
loop-next-preserved c =
    let a = c.args in
    let at = c.loop-next.next in
    let below : at.passed < length (ends_of a.stretches.now) = omega (arith, many_ends a.stretches.now) in
    let next : suc at.passed ≡ at.passed + 1 = omega arith in
    let left : left_at (ends_of a.stretches.now) c.begin_of-next.result ≡ drop (suc at.passed) (ends_of a.stretches.now) = c.begin_of-next.ensures.left ∙ ap (λ (n : ℕ). drop n (ends_of a.stretches.now)) (sym next) in
    let step = free_step a.flash.size (ends_of a.stretches.now) at.passed at.place first (free_in a.flash.size (left_at (ends_of a.stretches.now) a.cursor)) c.loop-next.sum (left_at (ends_of a.stretches.now) c.begin_of-next.result) below c.loop-next.invariant.sum_is left in
    record {
      openings = subst (AllByRecursion (IsOpen a.flash.size a.flash.count)) (sym left) (tail_is (IsOpen a.flash.size a.flash.count) (ends_of a.stretches.now) at.passed at.place first below c.loop-next.invariant.openings);
      sum_is = ap (λ (n : ℕ). c.loop-next.sum + n + free_in a.flash.size (left_at (ends_of a.stretches.now) c.begin_of-next.result)) c.free-sum.ensures ∙ step;
    }
