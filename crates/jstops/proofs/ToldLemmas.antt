-- What is told of forms, by the steps of each operation.
use Rattle.std.proofs.Common.{◌≡◌, ℕ, suc, ◌+◌, ◌-◌, ◌<◌, ◌≤◌, List, [], ◌∷◌, ◌++◌, length, map, take, drop, get_or, refl, sym, ap, ap₂, ◌∙◌, arith, append_assoc, length-append}
use Rattle.std.specs.Prelude.{flat_map}
use Rattle.std.proofs.lemmas.List.{append-nil, drop-append-le, length-drop, map-append, take-append-drop, take-append-le, take_all}
use Rattle.jsteps.specs.declared.step.Step.{Step}
use Rattle.jcuts.specs.Lines.{step_nodes}
use Rattle.jcuts.specs.declared.lines.StepNode.{StepNode}
use Rattle.jcuts.specs.declared.standing.Standing.{Standing}
use Rattle.jcuts.proofs.StepLemmas.{step_nodes_are}
use Rattle.jstops.specs.FormLines.{forms_told}

-- all steps
abbrev pub joined : List (List Step) → List Step
joined plans = flat_map (λ steps. steps) plans

-- one more plan
pub told_more : (plans : List (List Step)) (steps : List Step) (lines : List ℕ) (told more : List Standing) → length plans < length lines → length told ≡ length (joined plans) → length more ≡ length steps
    → forms_told (plans ++ steps ∷ []) lines (told ++ more) ≡ forms_told plans lines told ++ step_nodes (get_or lines (length plans) 0) (length steps) 1 more
told_more [] steps [] told more below long same = absurd (omega (arith, below))
told_more [] steps (line ∷ lines) [] more below long same =
    append-nil (step_nodes line (length steps) 1 (take (length steps) more)) ∙ ap (step_nodes line (length steps) 1) (take_all (length steps) more (omega (arith, same)))
told_more [] steps (line ∷ lines) (standing ∷ told) more below long same = absurd (omega (arith, long))
told_more (first ∷ plans) steps [] told more below long same = absurd (omega (arith, below))
told_more (first ∷ plans) steps (line ∷ lines) told more below long same =
    let k : ℕ = length first in
    let sum : length told ≡ k + length (joined plans) = long ∙ length-append first (joined plans) in
    let within : k ≤ length told = omega (arith, sum) in
    let rest : length (drop k told) ≡ length (joined plans) = omega (arith, length-drop k told, sum) in
    let here : List StepNode = step_nodes line k 1 (take k told) in
    ap₂ (λ (a b : List Standing). step_nodes line k 1 a ++ forms_told (plans ++ steps ∷ []) lines b) (take-append-le k told more within) (drop-append-le k told more within)
    ∙ (ap (λ (l : List StepNode). here ++ l) (told_more plans steps lines (drop k told) more (omega (arith, below)) rest same)
    ∙ sym (append_assoc here (forms_told plans lines (drop k told)) (step_nodes (get_or lines (length plans) 0) (length steps) 1 more)))

-- the forms that are told are all of them
pub told_are : (plans : List (List Step)) (lines : List ℕ) (told : List Standing) → length plans ≤ length lines → length told ≡ length (joined plans)
    → map (λ told. told.standing) (forms_told plans lines told) ≡ told
told_are [] lines [] within long = refl
told_are [] lines (standing ∷ told) within long = absurd (omega (arith, long))
told_are (steps ∷ plans) [] told within long = absurd (omega (arith, within))
told_are (steps ∷ plans) (line ∷ lines) told within long =
    let k : ℕ = length steps in
    let sum : length told ≡ k + length (joined plans) = long ∙ length-append steps (joined plans) in
    let rest : length (drop k told) ≡ length (joined plans) = omega (arith, length-drop k told, sum) in
    map-append (λ (told : StepNode). told.standing) (step_nodes line k 1 (take k told)) (forms_told plans lines (drop k told))
    ∙ (ap₂ (λ (a b : List Standing). a ++ b) (step_nodes_are line k 1 (take k told)) (told_are plans lines (drop k told) (omega (arith, within)) rest)
    ∙ take-append-drop k told)
