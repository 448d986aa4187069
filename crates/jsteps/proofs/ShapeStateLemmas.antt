-- The plans of operations that follow one another keep the shape, of an outline and of a file system.
use Rattle.std.proofs.Common.{◌≡◌, ℕ, suc, zero, List, [], ◌∷◌, ◌++◌, take, Result, Ok, Err, refl, ap, sym, ◌∙◌, subst}
use Rattle.std.specs.Prelude.{flat_map}
use Rattle.jmount.specs.Tree.{outline}
use Rattle.jmount.specs.StateOf.{state_of}
use Rattle.jmount.proofs.ShapePathLemmas.{shape_is_of_outline}
use Rattle.jsteps.specs.Steps.{sizes, after}
use Rattle.jsteps.specs.Nodes.{Indexed, index_of, nodes_of, advanced_all}
use Rattle.jscan.specs.Pages.{IsPage}
use Rattle.jsteps.specs.Refusals.{planned_by, plans_of, steps_of_first}
use Rattle.jsteps.specs.Laws.{IsConsistent, OpFits}
use Rattle.jmount.specs.Shape.{HasShape}
use Rattle.jsteps.specs.ShapeLaws as law
use Rattle.jsteps.specs.declared.fault.OpFault.{OpFault}
use Rattle.jsteps.specs.declared.op.Op.{Op}
use Rattle.jsteps.specs.declared.step.Step.{Step}
use Rattle.jsteps.proofs.ConsistentLemmas.{index_is_consistent}
use Rattle.jsteps.proofs.SeveralLemmas.{nodes_are_steps}
use Rattle.jsteps.proofs.TakenLemmas.{taken_ready}
use Rattle.jsteps.proofs.PlanLemmas.{planned_is_ready}
use Rattle.jsteps.proofs.GoesOnLemmas.{first_taken}
use Rattle.jsteps.proofs.ShapeStepLemmas.{after-append, tree_advanced}
use Rattle.jsteps.proofs.ShapePlanLemmas.{shape_is_kept}

-- ---- several plans

-- what follows from one result of a plan
abbrev plans_behind : ℕ → Indexed → List Op → Result (List Step) OpFault → List (List Step)
plans_behind page x ops (Ok steps) = steps ∷ plans_of page (advanced_all x steps) ops
plans_behind page x ops (Err f) = []

stays_behind : (page : ℕ) (x : Indexed) (o : Op) (ops : List Op) (n : ℕ) → IsPage page → IsConsistent x → OpFits o → HasShape x.tree
    → ((y : Indexed) → IsConsistent y → HasShape y.tree → HasShape (after sizes y.tree (steps_of_first page y ops n)))
    → (r : Result (List Step) OpFault) → planned_by page x o ≡ r → HasShape (after sizes x.tree (flat_map (λ steps. steps) (take (suc n) (plans_behind page x ops r))))
stays_behind page x o ops n is_page same fits has rest (Ok steps) e =
    let y = advanced_all x steps in
    let more = steps_of_first page y ops n in
    let one : HasShape y.tree = subst HasShape (sym (tree_advanced x steps)) (shape_is_kept page x o steps same e has) in
    subst HasShape (ap (λ t. after sizes t more) (tree_advanced x steps) ∙ sym (after-append x.tree steps more))
    (rest y (planned_is_ready page x o steps is_page same fits e).consistent one)
stays_behind page x o ops n is_page same fits has rest (Err f) e = has

pub shape_stays : law.ShapeStays
shape_stays page x ops zero is_page same fits has = has
shape_stays page x [] (suc n) is_page same fits has = has
shape_stays page x (o ∷ ops) (suc n) is_page same fits has =
    stays_behind page x o ops n is_page same fits.0 has (λ y same_y has_y. shape_stays page y ops n is_page same_y fits.1 has_y) (planned_by page x o) refl

-- ---- a file system

pub state_keeps_shape : law.StateKeepsShape
state_keeps_shape page ns ops n is_page fit root fits has =
    let x = index_of ns in
    let same = index_is_consistent ns fit root in
    let steps = steps_of_first page x ops n in
    let are = nodes_are_steps ns steps (taken_ready page x steps (first_taken page x ops n is_page same fits)) in
    let kept = shape_stays page x ops n is_page same fits ((shape_is_of_outline (state_of ns)).1 has) in
    let tree : outline (state_of (ns ++ nodes_of x steps)) ≡ after sizes x.tree steps = ap (λ (y : Indexed). y.tree) are.index ∙ tree_advanced x steps in
    subst HasShape are.state ((shape_is_of_outline (state_of (ns ++ nodes_of x steps))).0 (subst HasShape (sym tree) kept))
