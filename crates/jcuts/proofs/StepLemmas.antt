-- The nodes of an operation, step by step.
use Rattle.std.proofs.Common.{◌≡◌, ℕ, zero, suc, ◌+◌, ◌<◌, List, [], ◌∷◌, length, map, get_or, refl, ap, ◌∙◌, arith}
use Rattle.jcuts.specs.Lines.{step_nodes}
use Rattle.jcuts.specs.declared.standing.Standing.{Standing}
use Rattle.jcuts.specs.declared.lines.StepNode.{StepNode}

pub step_nodes_long : (line steps step : ℕ) (nodes : List Standing) → length (step_nodes line steps step nodes) ≡ length nodes
step_nodes_long line steps step [] = refl
step_nodes_long line steps step (node ∷ nodes) = ap suc (step_nodes_long line steps (step + 1) nodes)

pub step_nodes_at : (line steps step : ℕ) (nodes : List Standing) (i : ℕ) (d : StepNode) (s : Standing) → i < length nodes
    → get_or (step_nodes line steps step nodes) i d ≡ record { line = line; step = step + i; steps = steps; standing = get_or nodes i s }
step_nodes_at line steps step [] i d s below = absurd (omega arith)
step_nodes_at line steps step (node ∷ nodes) zero d s below =
    let same : step ≡ step + 0 = omega arith in
    let told : ℕ → StepNode = λ n. record { line = line; step = n; steps = steps; standing = node } in
    ap told same
step_nodes_at line steps step (node ∷ nodes) (suc i) d s below =
    let same : step + 1 + i ≡ step + suc i = omega arith in
    let told : ℕ → StepNode = λ n. record { line = line; step = n; steps = steps; standing = get_or nodes i s } in
    step_nodes_at line steps (step + 1) nodes i d s (omega arith) ∙ ap told same

pub step_nodes_are : (line steps step : ℕ) (nodes : List Standing) → map (λ told. told.standing) (step_nodes line steps step nodes) ≡ nodes
step_nodes_are line steps step [] = refl
step_nodes_are line steps step (node ∷ nodes) = ap (λ (l : List Standing). node ∷ l) (step_nodes_are line steps (step + 1) nodes)
