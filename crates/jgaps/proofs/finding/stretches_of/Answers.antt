use Rattle.std.proofs.Common.{◌++◌, ap, ◌∙◌, Option}
use Rattle.std.specs.Prelude.{option_to_list}
use Rattle.jgaps.specs.Fields.{stretch_sighted}
use Rattle.jgaps.specs.declared.fields.Stretch.{Stretch}
use Rattle.jgaps.proofs.NodeLemmas.{one_more, none_left}
use Rattle.jgaps.proofs.finding.stretches_of.Goals as goal

pub loop-addr-preserved : goal.loop-addr-preserved
loop-addr-preserved g c =
    one_more (stretch_sighted g.E.Order.order c.args.image.now) _ _ _ _ (c.in-Some.addr, c.in-Some.seen) _ c.loop-addr.invariant c.in-Some.ensures.steps
    (c.in_ok-push_stretch.ensures ∙ ap (λ (o : Option Stretch). c.loop-addr.found.items ++ option_to_list o) c.stretch_sighted.ensures)

pub returns : goal.returns
returns g c =
    none_left (stretch_sighted g.E.Order.order c.args.image.now) _ _ _ c.loop-addr.invariant c.in-None.ensures.steps.0
