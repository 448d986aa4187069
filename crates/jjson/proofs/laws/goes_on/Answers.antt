use Rattle.std.proofs.Common.{ℕ, List, [], ◌++◌, ap, sym, ◌∙◌}
use Rattle.jjson.specs.Texts.{json_after, unfinished}
use Rattle.jjson.proofs.TextLemmas.{json_after-append, json_from_start}
use Rattle.jjson.proofs.laws.goes_on.Goals as goal

pub returns : goal.returns
returns c lines front text =
    sym (json_from_start lines (front ++ text)) ∙ json_after-append lines [] front text
    ∙ ap (λ (l : List ℕ). l ++ json_after lines (unfinished [] front) text) (json_from_start lines front)
