-- Operations that are planned one after the other, from one state to another.
use Rattle.std.proofs.Common.{◌≡◌, ℕ, ◌+◌, ◌<◌, ◌≤◌, true, List, [], ◌∷◌, ◌++◌, length, take, Option, Some, None, Result, Ok, Err, refl, ap, sym, ◌∙◌, subst, length-append, append_assoc, arith}
use Rattle.std.specs.Prelude.{flat_map, option_map, is_some}
use Rattle.std.proofs.lemmas.Bool.{false≢true}
use Rattle.std.proofs.lemmas.List.{append-nil}
use Rattle.std.specs.List.{AllByRecursion}
use Rattle.jmount.specs.Tree.{ObjectOf, State, Outline, outline, sized, named, object, is_directory, is_there}
use Rattle.jmount.specs.Find.{walk}
use Rattle.jmount.specs.Shape.{HasShape}
use Rattle.jmount.proofs.OutlineLemmas.{object-outline, is_directory-outline, is_there-outline, walk-outline}
use Rattle.jmount.proofs.ShapePathLemmas.{shape_is_of_outline}
use Rattle.jsteps.specs.Steps.{bytes, sizes, do_step, after, IsDefined}
use Rattle.jsteps.specs.Nodes.{Indexed, advanced, advanced_all}
use Rattle.jscan.specs.Pages.{IsPage}
use Rattle.jsteps.specs.Ready.{AllReady}
use Rattle.jsteps.specs.Refusals.{planned_by, plans_of}
use Rattle.jsteps.specs.Laws.{IsConsistent, OpFits}
use Rattle.jsteps.specs.declared.fault.OpFault.{OpFault}
use Rattle.jsteps.specs.declared.op.Op.{Op}
use Rattle.jsteps.specs.declared.step.Step.{Step}
use Rattle.jsteps.proofs.PlanLemmas.{planned_is_ready}
use Rattle.jsteps.proofs.ShapePlanLemmas.{shape_is_kept}
use Rattle.jsteps.proofs.ShapeStepLemmas.{tree_advanced}
use Rattle.jsteps.proofs.StepsLemmas.{outline_of_step}
use Rattle.jsteps.proofs.TakenLemmas.{advanced_all-append}
use Rattle.jtree.proofs.AppendLemmas.{after-append}
use Rattle.jtree.proofs.CountLemmas.{IsCounted, counted_all}
use Rattle.jtree.proofs.NodesLemmas.{Writes, writes_none, writes_then}
use Rattle.jtree.proofs.StandLemmas.{Made, Stands}

-- ---- a state with its index, after so many steps

pub record IsAt (n : ℕ) (x : Indexed) (s : State) : Type 0 where
  pub tree : x.tree ≡ outline s
  pub same : IsConsistent x
  pub counted : IsCounted n x
  pub shape : HasShape s

pub tree_after : (x : Indexed) (s : State) (steps : List Step) → x.tree ≡ outline s → AllReady x steps → (advanced_all x steps).tree ≡ outline (after bytes s steps)
tree_after x s [] tree ready = tree
tree_after x s (a ∷ steps) tree ready =
    let one : (advanced x a).tree ≡ outline (do_step bytes s a) =
    ap (λ t. do_step sizes t a) tree ∙ sym (outline_of_step s a (subst (λ t. IsDefined t a) tree ready.0.defined)) in
    tree_after (advanced x a) (do_step bytes s a) steps one ready.1

pub go_on : (page n : ℕ) (x : Indexed) (s : State) (o : Op) (steps : List Step) → IsPage page → IsAt n x s → OpFits o → planned_by page x o ≡ Ok steps
    → IsAt (n + length steps) (advanced_all x steps) (after bytes s steps)
go_on page n x s o steps is_page at fits e =
    let ready = planned_is_ready page x o steps is_page at.same fits e in
    let tree = tree_after x s steps at.tree ready.ready in
    let has : HasShape x.tree = subst HasShape (sym at.tree) ((shape_is_of_outline s).1 at.shape) in
    let kept : HasShape (outline (after bytes s steps)) = subst HasShape (sym (tree_advanced x steps) ∙ tree) (shape_is_kept page x o steps at.same e has) in
    record {
      tree = tree;
      same = ready.consistent;
      counted = counted_all n x steps at.counted;
      shape = (shape_is_of_outline (after bytes s steps)).0 kept;
    }

pub at_walk : (n : ℕ) (x : Indexed) (s : State) → IsAt n x s → (names : List (List ℕ)) → walk x.tree names (Ok 1) ≡ walk s names (Ok 1)
at_walk n x s at names = ap (λ t. walk t names (Ok 1)) at.tree ∙ walk-outline s names (Ok 1)

pub at_named : (n : ℕ) (x : Indexed) (s : State) → IsAt n x s → (dir : ℕ) (name : List ℕ) → named x.tree dir name ≡ named s dir name
at_named n x s at dir name = ap (λ (t : Outline). named t dir name) at.tree

pub at_object : (n : ℕ) (x : Indexed) (s : State) → IsAt n x s → (i : ℕ) → object x.tree i ≡ option_map sized (object s i)
at_object n x s at i = ap (λ (t : Outline). object t i) at.tree ∙ object-outline s i

pub at_directory : (n : ℕ) (x : Indexed) (s : State) → IsAt n x s → (i : ℕ) → is_directory x.tree i ≡ is_directory s i
at_directory n x s at i = ap (λ (t : Outline). is_directory t i) at.tree ∙ is_directory-outline s i

pub at_next : (n : ℕ) (x : Indexed) (s : State) → IsAt n x s → x.tree.next ≡ s.next
at_next n x s at = ap (λ (t : Outline). t.next) at.tree

some_of : {X : Type 0} {P : Type 0} (o : Option X) → ((x : X) → o ≡ Some x → P) → is_some o ≡ true → P
some_of None k e = absurd (false≢true e)
some_of (Some x) k e = k x refl

-- an object that is there has a number below the next
pub at_numbered : (n : ℕ) (x : Indexed) (s : State) → IsAt n x s → (i : ℕ) → is_there s i ≡ true → i < s.next
at_numbered n x s at i there =
    let next : x.tree.next ≡ s.next = at_next n x s at in
    some_of (object x.tree i) (λ o e. let below : i < x.tree.next = at.same.numbered i o e in omega arith)
    (ap (λ (t : Outline). is_there t i) at.tree ∙ is_there-outline s i ∙ there)

-- ---- plans that follow one another

abbrev pub Runs : ℕ → Indexed → List Op → List Step → Type 0
Runs page x [] steps = steps ≡ []
Runs page x (o ∷ ops) steps = (first : List Step) × (rest : List Step) × (planned_by page x o ≡ Ok first) × (steps ≡ first ++ rest) × Runs page
    (advanced_all x first) ops rest

pub runs_append : (page : ℕ) (x : Indexed) (xs ys : List Op) (front back : List Step) → Runs page x xs front → Runs page (advanced_all x front) ys back
    → Runs page x (xs ++ ys) (front ++ back)
runs_append page x [] ys front back none then = subst (λ front. Runs page (advanced_all x front) ys back → Runs page x ys (front ++ back)) (sym none)
    (λ h. h) then
runs_append page x (o ∷ xs) ys front back run then = (
  run.0,
  run.1 ++ back,
  run.2,
  ap (λ front. front ++ back) run.3 ∙ append_assoc run.0 run.1 back,
  runs_append page (advanced_all x run.0) xs ys run.1 back run.4 (subst (λ y. Runs page y ys back)
      (ap (advanced_all x) run.3 ∙ advanced_all-append x run.0 run.1) then),
)

-- what follows from one result of a plan
abbrev plans_behind : ℕ → Indexed → List Op → Result (List Step) OpFault → List (List Step)
plans_behind page x ops (Ok steps) = steps ∷ plans_of page (advanced_all x steps) ops
plans_behind page x ops (Err f) = []

pub runs_all : (page : ℕ) (x : Indexed) (ops : List Op) (steps : List Step) → Runs page x ops steps → length (plans_of page x ops) ≡ length ops
runs_all page x [] steps run = refl
runs_all page x (o ∷ ops) steps run =
    let more : length (plans_of page (advanced_all x run.0) ops) ≡ length ops = runs_all page (advanced_all x run.0) ops run.1 run.4 in
    ap (λ r. length (plans_behind page x ops r)) run.2 ∙ omega arith

pub runs_steps : (page : ℕ) (x : Indexed) (ops : List Op) (steps : List Step) → Runs page x ops steps
    → flat_map (λ steps. steps) (take (length ops) (plans_of page x ops)) ≡ steps
runs_steps page x [] steps run = sym run
runs_steps page x (o ∷ ops) steps run =
    ap (λ r. flat_map (λ steps. steps) (take (length (o ∷ ops)) (plans_behind page x ops r))) run.2
    ∙ ap (λ rest. run.0 ++ rest) (runs_steps page (advanced_all x run.0) ops run.1 run.4)
    ∙ sym run.3

-- ---- operations that lead from one state to another

pub record Reaches (page n : ℕ) (x : Indexed) (s : State) (ops : List Op) (root : ObjectOf (List ℕ)) (made : List Made) (most : ℕ) : Type 0 where
  pub steps : List Step
  pub runs : Runs page x ops steps
  pub ready : AllReady x steps
  pub op_fits : AllByRecursion OpFits ops
  pub is_at : IsAt (n + length steps) (advanced_all x steps) (after bytes s steps)
  pub stands : Stands root made (after bytes s steps)
  pub few : length steps ≤ most
  pub writes : Writes x s (after bytes s steps) steps

pub fits_append : (xs ys : List Op) → AllByRecursion OpFits xs → AllByRecursion OpFits ys → AllByRecursion OpFits (xs ++ ys)
fits_append [] ys front back = back
fits_append (x ∷ xs) ys front back = (front.0, fits_append xs ys front.1 back)

pub ready_append : (x : Indexed) (xs ys : List Step) → AllReady x xs → AllReady (advanced_all x xs) ys → AllReady x (xs ++ ys)
ready_append x [] ys ready then = then
ready_append x (a ∷ xs) ys ready then = (ready.0, ready_append (advanced x a) xs ys ready.1 then)

pub reaches_none : (page n : ℕ) (x : Indexed) (s : State) (root : ObjectOf (List ℕ)) (made : List Made) → IsAt n x s → Stands root made s
    → Reaches page n x s [] root made 0
reaches_none page n x s root made at stands = let same : n ≡ n + 0 = omega arith in
    record { steps = []; runs = refl; ready = tt; op_fits = tt; is_at = subst (λ m. IsAt m x s) same at; stands = stands; few = omega arith; writes = writes_none x s }

abbrev pub reaches_one : (page n : ℕ) (x : Indexed) (s : State) (o : Op) (steps : List Step) (root : ObjectOf (List ℕ)) (made : List Made) (most : ℕ)
    → IsPage page → IsAt n x s → OpFits o
    → planned_by page x o ≡ Ok steps → Stands root made (after bytes s steps) → length steps ≤ most → Writes x s (after bytes s steps) steps → Reaches page n x s (o ∷ []) root made most
reaches_one page n x s o steps root made most is_page at fits e stands few writes =
    record {
      steps = steps;
      runs = (steps, [], e, sym (append-nil steps), refl);
      ready = (planned_is_ready page x o steps is_page at.same fits e).ready;
      op_fits = (fits, tt);
      is_at = go_on page n x s o steps is_page at fits e;
      stands = stands;
      few = few;
      writes = writes;
    }

abbrev pub reaches_then : (page n : ℕ) (x : Indexed) (s : State) (xs ys : List Op) (root : ObjectOf (List ℕ)) (made more : List Made) (a b : ℕ)
    → (r : Reaches page n x s xs root made a)
    → Reaches page (n + length r.steps) (advanced_all x r.steps) (after bytes s r.steps) ys root more b → Reaches page n x s (xs ++ ys) root more (a + b)
reaches_then page n x s xs ys root made more a b r q =
    let count : n + length r.steps + length q.steps ≡ n + length (r.steps ++ q.steps) = omega (arith, length-append r.steps q.steps) in
    let state : after bytes (after bytes s r.steps) q.steps ≡ after bytes s (r.steps ++ q.steps) = sym (after-append s r.steps q.steps) in
    let index : advanced_all (advanced_all x r.steps) q.steps ≡ advanced_all x (r.steps ++ q.steps) = sym (advanced_all-append x r.steps q.steps) in
    let first : length r.steps ≤ a = r.few in
    let second : length q.steps ≤ b = q.few in
    record {
      steps = r.steps ++ q.steps;
      runs = runs_append page x xs ys r.steps q.steps r.runs q.runs;
      ready = ready_append x r.steps q.steps r.ready q.ready;
      op_fits = fits_append xs ys r.op_fits q.op_fits;
      is_at = subst (λ m. IsAt m (advanced_all x (r.steps ++ q.steps)) (after bytes s (r.steps ++ q.steps))) count
          (subst (λ y. IsAt (n + length r.steps + length q.steps) y (after bytes s (r.steps ++ q.steps))) index
          (subst (λ t. IsAt (n + length r.steps + length q.steps) (advanced_all (advanced_all x r.steps) q.steps) t) state q.is_at));
      stands = subst (Stands root more) state q.stands;
      few = omega (arith, length-append r.steps q.steps);
      writes = subst (λ t. Writes x s t (r.steps ++ q.steps)) state
          (writes_then x s (after bytes s r.steps) (after bytes (after bytes s r.steps) q.steps) r.steps q.steps r.writes q.writes);
    }

abbrev pub reaches_weaker : (page n : ℕ) (x : Indexed) (s : State) (ops : List Op) (root : ObjectOf (List ℕ)) (made : List Made) (few most : ℕ) → few ≤ most
    → Reaches page n x s ops root made few → Reaches page n x s ops root made most
reaches_weaker page n x s ops root made few most le r = let here : length r.steps ≤ few = r.few in
    record { steps = r.steps; runs = r.runs; ready = r.ready; op_fits = r.op_fits; is_at = r.is_at; stands = r.stands; few = omega arith; writes = r.writes }
