use Rattle.std.proofs.Common.{ℕ, ◌-◌, ◌∙◌, length, take, drop, arith, subst, ap, length-drop}
use Rattle.std.proofs.lemmas.List.{take_rest}
use Rattle.jscan.specs.Runs.{BeginsRun, EndsRun}
use Rattle.jscan.proofs.ExtentLemmas.{goes_on, run_extent}
use Rattle.jscan.proofs.extents.run_end.Goals as goal

pub dirt_on-end-requires-clause-within : goal.dirt_on-end-requires-clause-within
dirt_on-end-requires-clause-within g c =
    let left = c.slice.ensures ∙ ap (λ (n : ℕ). take (n - c.loop-len.end) (drop c.loop-len.end c.args.rest.now)) c.len.ensures ∙ take_rest c.args.rest.now c.loop-len.end in
    omega (arith, c.loop-len.invariant.within, c.in-Some.ensures.within, ap length left, length-drop c.loop-len.end c.args.rest.now)

pub dirt_on-end-requires-clause-begins : goal.dirt_on-end-requires-clause-begins
dirt_on-end-requires-clause-begins g c =
    let left = c.slice.ensures ∙ ap (λ (n : ℕ). take (n - c.loop-len.end) (drop c.loop-len.end c.args.rest.now)) c.len.ensures ∙ take_rest c.args.rest.now c.loop-len.end in
    goes_on _ _ _ _ _ c.in-Some.ensures.one_kind c.loop-len.invariant.begins
    (subst (λ l. BeginsRun g.E.Order.order l c.in-Some.len c.args.kind.now) left c.in-Some.ensures.goes_on)

pub returns-clause-extent : goal.returns-clause-extent
returns-clause-extent g c =
    let left = c.slice.ensures ∙ ap (λ (n : ℕ). take (n - c.loop-len.end) (drop c.loop-len.end c.args.rest.now)) c.len.ensures ∙ take_rest c.args.rest.now c.loop-len.end in
    run_extent _ _ _ _ c.loop-len.invariant.begins (subst (λ l. EndsRun g.E.Order.order l c.args.kind.now) left c.in_default.ensures.ends)
