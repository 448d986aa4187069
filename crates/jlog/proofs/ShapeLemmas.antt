-- What is applied keeps the shape of the tree.
use Rattle.std.proofs.Common.{◌≡◌, ◌≤◌, ℕ, Bool, List, Option, Some, None, Result, Ok, Err, ap, sym, ◌∙◌, subst, length, take}
use Rattle.std.specs.Prelude.{IsFalse}
use Rattle.std.specs.List.{AllByRecursion}
use Rattle.jnode.specs.declared.order.Endian.{Endian}
use Rattle.jmount.specs.Shape.{HasShape}
use Rattle.jsteps.specs.Steps.{sizes, after}
use Rattle.jsteps.specs.Nodes.{Indexed, advanced_all}
use Rattle.jscan.specs.Pages.{IsPage}
use Rattle.jsteps.specs.Refusals.{plans_of, steps_of_first}
use Rattle.jsteps.specs.Laws.{IsConsistent, OpFits}
use Rattle.jsteps.specs.declared.op.Op.{Op}
use Rattle.jsteps.specs.declared.step.Step.{Step}
use Rattle.jsteps.proofs.ShapePlanLemmas.{shape_is_kept}
use Rattle.jsteps.proofs.ShapeStateLemmas.{shape_stays}
use Rattle.jsteps.proofs.ShapeStepLemmas.{tree_advanced}
use Rattle.jlog.proofs.DoneLemmas.{first_ops}
use Rattle.jlog.proofs.Parts.{AppliesBy, RunsBy, stopped_by}
use Rattle.jlog.specs.declared.report.Place.{Place}
use Rattle.jlog.specs.declared.fault.SessionFault.{SessionFault}
use Rattle.jlog.proofs.RunLemmas.{stopped_still, broken_before}

advanced_has : (x y : Indexed) (steps : List Step) → y ≡ advanced_all x steps → HasShape (after sizes x.tree steps) → HasShape y.tree
advanced_has x y steps is has = subst HasShape (sym (ap (λ (y : Indexed). y.tree) is ∙ tree_advanced x steps)) has

pub apply_keeps_shape : {T : Type 0} (page : ℕ) (e : Endian) (size blocks from : ℕ) (x : Indexed) (o : Op) (was : Bool) (end : ℕ) (y : Indexed) (is : Bool) (old new : Option (List ℕ)) (failures now : ℕ) (before after : List Place) (r : Result T SessionFault)
    → (IsFalse was → IsConsistent x) → AppliesBy page e size blocks from x o was end y is old new failures now before after r → IsFalse is → HasShape x.tree → HasShape y.tree
apply_keeps_shape page e size blocks from x o was end y is old new failures now before after (Ok v) same a whole has =
    let steps = a.2.0 in
    advanced_has x y steps a.2.2.index (shape_is_kept page x o steps (same a.0) a.2.1.planned has)
apply_keeps_shape {T} page e size blocks from x o was end y is old new failures now before after (Err f) same a whole has =
    subst (λ (x : Indexed). HasShape x.tree) (sym (stopped_still T page e size blocks from x o was end y is old new failures now before after f a whole).1) has

-- The first operations keep it, whatever those behind them are.
pub first_keep_shape : (page : ℕ) (x : Indexed) (ops : List Op) (n : ℕ) → IsPage page → IsConsistent x → AllByRecursion OpFits (take n ops) → n ≤ length (plans_of page x ops) → HasShape x.tree
    → HasShape (after sizes x.tree (steps_of_first page x ops n))
first_keep_shape page x ops n is_page same fits planned has =
    subst (λ (l : List Step). HasShape (after sizes x.tree l)) (first_ops page x ops n planned).steps_are (shape_stays page x (take n ops) n is_page same fits has)

pub run_keeps_shape : (page : ℕ) (e : Endian) (size blocks from : ℕ) (x : Indexed) (ops : List Op) (was : Bool) (n end : ℕ) (y : Indexed) (is : Bool) (old new : Option (List ℕ)) (failures now : ℕ) (places : List Place) (stopped : Option SessionFault)
    → IsPage page → (IsFalse was → IsConsistent x) → AllByRecursion OpFits (take n ops) → RunsBy page e size blocks from x ops was n end y is old new failures now places stopped → IsFalse is → HasShape x.tree → HasShape y.tree
run_keeps_shape page e size blocks from x ops was n end y is old new failures now places None is_page same fits runs whole has =
    advanced_has x y (steps_of_first page x ops n) runs.2.wrote.index (first_keep_shape page x ops n is_page (same (sym runs.1 ∙ whole)) fits runs.2.planned has)
run_keeps_shape page e size blocks from x ops was n end y is old new failures now places (Some f) is_page same fits runs whole has =
    let mid = runs.mid.cursor in
    let z = runs.mid.index in
    let between = runs.between in
    let stops = stopped_by runs in
    let left = broken_before (Unit {0}) page e size blocks mid z runs.op was end y is between new failures now runs.mid.places places f stops.stop whole in
    let stays = advanced_has x z (steps_of_first page x ops n) stops.run.wrote.index (first_keep_shape page x ops n is_page (same left) fits stops.run.planned has) in
    subst (λ (x : Indexed). HasShape x.tree) (sym (stopped_still (Unit {0}) page e size blocks mid z runs.op was end y is between new failures now runs.mid.places places f stops.stop whole).1) stays
