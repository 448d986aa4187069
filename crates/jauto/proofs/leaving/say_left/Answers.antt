use Rattle.std.proofs.Common.{ℕ, List, Some, ◌∙◌}
use Rattle.jedge.specs.Acts.{says}
use Rattle.jedge.proofs.Steps.{does_at}
use Rattle.jauto.proofs.leaving.say_left.Goals as goal

pub returns : goal.returns
returns g c = does_at (λ (text : List ℕ). says (Some text))
    (c.as_slice.ensures ∙ c.write_left.ensures) c.say_line.ensures
