use Rattle.std.proofs.Common.{◌∙◌, sym}
use Rattle.jedge.specs.Acts.{says}
use Rattle.jedge.proofs.Steps.{does_at}
use Rattle.jremakes.proofs.LeavingLemmas.{none_found, some_found}
use Rattle.jremakes.proofs.leaving.say_remade.Goals as goal

pub returns-then-leaves_none : goal.returns-then-leaves_none
returns-then-leaves_none g c = does_at says
    (none_found c.args.found (sym c.leaves_none.ensures ∙ c.if-leaves_none.true))
    c.say_noted.ensures

pub returns-else-leaves_none : goal.returns-else-leaves_none
returns-else-leaves_none g c = does_at says
    (some_found c.args.found (sym c.leaves_none.ensures ∙ c.if-leaves_none.false))
    c.say_found.ensures
