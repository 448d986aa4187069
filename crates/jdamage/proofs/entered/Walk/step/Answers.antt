use Rattle.std.proofs.Common.{sym, ◌∙◌}
use Rattle.jdamage.proofs.EnteredLemmas.{also_ok, step_none, step_met, step_entered}
use Rattle.jdamage.proofs.entered.Walk.step.Goals as goal

pub returns-in_default : goal.returns-in_default
returns-in_default c = λ met held. step_none c.args.mounted.now.state met c.args.names.now c.args.self.now c.next.new.self held (c.next.ensures.none c.in_default.is)

pub returns-then-not-is_unmet : goal.returns-then-not-is_unmet
returns-then-not-is_unmet c = λ met held.
    step_met c.args.mounted.now.state met c.args.names.now c.args.self.now c.next.new.self c.in-Some.name held c.in-Some.ensures.some
    (sym (c.is_unmet.ensures met held) ∙ c.if-not-is_unmet.true)

pub returns : goal.returns
returns c =
    also_ok c.enter.result
    (λ below met held.
    step_entered c.args.mounted.now.state met c.args.names.now c.insert.new.self c.args.self.now c.next.new.self c.enter.new.self c.in-Some.name held c.in-Some.ensures.some
    (sym (c.is_unmet.ensures met held) ∙ c.if-not-is_unmet.false) c.in_ok-insert.ensures.updates.0 below)
    c.enter.ensures
