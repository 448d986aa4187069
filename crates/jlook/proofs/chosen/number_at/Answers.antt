use Rattle.std.proofs.Common.{sym, ◌∙◌}
use Rattle.jlook.proofs.ChosenLemmas.{one_object, no_object}
use Rattle.jlook.proofs.chosen.number_at.Goals as goal

pub returns-in_ok-insert-in-Ok : goal.returns-in_ok-insert-in-Ok
returns-in_ok-insert-in-Ok c =
    one_object c.args.path.now c.args.mounted.now.state c.in-Ok.ino c.new-numbers.result c.insert.new.self c.new-numbers.ensures.empty c.in_ok-insert-in-Ok.ensures.updates.0
    (sym c.find.ensures ∙ c.in-Ok.is)

pub returns-in-Err : goal.returns-in-Err
returns-in-Err c =
    no_object c.args.path.now c.args.mounted.now.state c.in-Err.field-0 c.new-numbers.result c.new-numbers.ensures.empty (sym c.find.ensures ∙ c.in-Err.is)
