use Rattle.std.proofs.Common.{List, ℕ, Option, Some, refl, sym}
use Rattle.jedge.specs.Acts.{says}
use Rattle.jedge.proofs.Steps.{answered, does_at, then_ok}
use Rattle.jauto.specs.Looking.{takes_options}
use Rattle.jauto.specs.declared.taking.Taking.{Taking}
use Rattle.jauto.proofs.looking.take.Goals as goal

pub returns-in-Nothing : goal.returns-in-Nothing
returns-in-Nothing g c = does_at (λ (what : Taking). takes_options c.args.image.now what) (sym c.in-Nothing.is)
    (then_ok (does_at (λ (text : Option (List ℕ)). says text) c.container_noted.ensures c.say_noted.ensures)
    (answered refl))

pub returns-in-Unclear : goal.returns-in-Unclear
returns-in-Unclear g c = does_at (λ (what : Taking). takes_options c.args.image.now what) (sym c.in-Unclear.is)
    (then_ok c.say_unclear.ensures (answered refl))

pub returns-in-Taken : goal.returns-in-Taken
returns-in-Taken g c = does_at (λ (what : Taking). takes_options c.args.image.now what) (sym c.in-Taken.is)
    (then_ok c.say_taken.ensures (answered refl))
