use Rattle.std.proofs.Common.{rules, ◌≡◌, Err, sym, subst, ◌∙◌}
use Rattle.std.specs.Prelude.{IfErr}
use Rattle.jversions.specs.Taking.{IsUntaken}
use Rattle.jversions.proofs.TakingLemmas.{taking_skip, taking_next, taking_refused}
use Rattle.jversions.proofs.taking.take_tiles.Goals as goal

pub loop-addr-preserved-in-Continue-branch-2 : goal.loop-addr-preserved-in-Continue-branch-2
loop-addr-preserved-in-Continue-branch-2 g c =
    taking_next c.args.revision g.E.Order.order c.args.geometry.block c.args.image.now _ _ _ _ (c.in-Some.addr, c.in-Some.seen) _ _ c.loop-addr.invariant c.in-Some.ensures.steps
    (sym c.takes.ensures ∙ c.if-takes.true) c.in_ok-hold_tile.ensures.ok

pub returns-in_err-hold_tile-clause-err : goal.returns-in_err-hold_tile-clause-err
returns-in_err-hold_tile-clause-err g c =
    let same : c.from_residual-in_err-hold_tile.result ≡ Err c.in_err-hold_tile.field-0.0 = search rules in
    subst (λ r. IfErr r (IsUntaken c.args.revision g.E.Order.order c.args.geometry.block c.args.image.now)) (sym same)
    (taking_refused c.args.revision g.E.Order.order c.args.geometry.block c.args.image.now _ _ _ (c.in-Some.addr, c.in-Some.seen) _ c.in_err-hold_tile.field-0.0
    c.in_ok-items.ensures.scannable c.loop-addr.invariant c.in-Some.ensures.steps (sym c.takes.ensures ∙ c.if-takes.true) c.in_err-hold_tile.ensures.err)

pub loop-addr-preserved : goal.loop-addr-preserved
loop-addr-preserved g c =
    taking_skip c.args.revision g.E.Order.order c.args.geometry.block c.args.image.now _ _ _ (c.in-Some.addr, c.in-Some.seen) _ c.loop-addr.invariant c.in-Some.ensures.steps
    (sym c.takes.ensures ∙ c.if-takes.false)
