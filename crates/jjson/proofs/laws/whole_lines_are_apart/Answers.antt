use Rattle.std.proofs.Common.{ℕ, List, [], ◌++◌, ap, ap₂, sym, ◌∙◌}
use Rattle.jjson.specs.Texts.{json_after}
use Rattle.jjson.proofs.TextLemmas.{json_after-append, json_from_start}
use Rattle.jjson.proofs.laws.whole_lines_are_apart.Goals as goal

pub returns : goal.returns
returns c lines front text whole =
    sym (json_from_start lines (front ++ text)) ∙ json_after-append lines [] front text
    ∙ ap₂ (λ (a b : List ℕ). a ++ b) (json_from_start lines front)
    (ap (λ (begun : List ℕ). json_after lines begun text) whole ∙ json_from_start lines text)
