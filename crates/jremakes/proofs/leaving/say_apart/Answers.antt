use Rattle.std.proofs.Common.{◌∙◌, sym}
use Rattle.std.proofs.lemmas.Bool.{eqb-false, eqb-true}
use Rattle.jedge.specs.Acts.{says}
use Rattle.jedge.proofs.Steps.{does_at}
use Rattle.jremakes.proofs.LeavingLemmas.{none_left_found, some_left_found}
use Rattle.jremakes.proofs.leaving.say_apart.Goals as goal

pub returns-then-is_empty : goal.returns-then-is_empty
returns-then-is_empty g c = does_at says (none_left_found c.args.left.now c.args.found
    (eqb-true _ _ (sym c.is_empty.ensures ∙ c.if-is_empty.true))) c.say_remade.ensures

pub returns-else-is_empty : goal.returns-else-is_empty
returns-else-is_empty g c = does_at says (some_left_found c.args.left.now c.args.found
    (eqb-false _ _ (sym c.is_empty.ensures ∙ c.if-is_empty.false))) c.say_left_out.ensures
