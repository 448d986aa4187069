-- The plan that the refusals leave.
use Rattle.std.proofs.Common.{◌≡◌, ℕ, Bool, true, false, cond, List, [], ◌∷◌, ◌++◌, Option, Some, None, Result, Ok, Err, refl, ap, ◌∙◌}
use Rattle.std.specs.Prelude.{is_some}
use Rattle.std.proofs.lemmas.Bool.{true≢false, false≢true}
use Rattle.jsteps.specs.Nodes.{Indexed}
use Rattle.jsteps.specs.Planning.{steps_of}
use Rattle.jsteps.specs.Refusals.{has_bad_path, is_exhausted, unless_refused, planned_by}
use Rattle.jsteps.specs.Tests.{listed, first_refusal, tests_of, plan_from}
use Rattle.jsteps.specs.declared.fault.OpFault.{OpFault}
use Rattle.jsteps.specs.declared.fault.OpFault.TheVariants as refused
use Rattle.jsteps.specs.declared.op.Op.{Op}
use Rattle.jsteps.specs.declared.refusal.Tests.{Tests}
use Rattle.jsteps.specs.declared.step.Step.{Step}

if_true : {X : Type 0} (b : Bool) (x y : X) → b ≡ true → cond b x y ≡ x
if_true true x y e = refl
if_true false x y e = absurd (false≢true e)

if_false : {X : Type 0} (b : Bool) (x y : X) → b ≡ false → cond b x y ≡ y
if_false true x y e = absurd (true≢false e)
if_false false x y e = refl

found_here : {X : Type 0} (b : Bool) (here f : OpFault) (more : Option OpFault) (rest : Result X OpFault) → cond b (Some here) more ≡ Some f → (more ≡ Some f → rest ≡ Err f) → cond b (Err here) rest ≡ Err f
found_here true here f more rest e h = ap Err (same e)
  where
    same : ◌≡◌ {A = Option OpFault} (Some here) (Some f) → here ≡ f
    same e = cc
found_here false here f more rest e h = h e

first_some : {X : Type 0} (rs last : List (Bool × OpFault)) (answer : X) (f : OpFault) → first_refusal rs ≡ Some f → unless_refused (rs ++ last) answer ≡ Err f
first_some [] last answer f e = absurd (false≢true (ap is_some e))
first_some (r ∷ rs) last answer f e = found_here r.0 r.1 f (first_refusal rs) (unless_refused (rs ++ last) answer) e (first_some rs last answer f)

found_none : {X : Type 0} (b : Bool) (here : OpFault) (more : Option OpFault) (rest left : Result X OpFault) → cond b (Some here) more ≡ None → (more ≡ None → rest ≡ left) → cond b (Err here) rest ≡ left
found_none true here more rest left e h = absurd (true≢false (ap is_some e))
found_none false here more rest left e h = h e

first_none : {X : Type 0} (rs last : List (Bool × OpFault)) (answer : X) → first_refusal rs ≡ None → unless_refused (rs ++ last) answer ≡ unless_refused last answer
first_none [] last answer e = refl
first_none (r ∷ rs) last answer e = found_none r.0 r.1 (first_refusal rs) (unless_refused (rs ++ last) answer) (unless_refused last answer) e (first_none rs last answer)

-- ---- each answer

pub from_bad : (bad : Bool) (tests : Tests) (spent : Bool) (steps : List Step) → bad ≡ true → plan_from bad tests spent steps ≡ Err refused.BadPath
from_bad bad tests spent steps e = if_true bad (Err refused.BadPath) (unless_refused (listed tests ++ (spent, refused.Exhausted) ∷ []) steps) e

pub from_refused : (bad : Bool) (tests : Tests) (spent : Bool) (steps : List Step) (f : OpFault) → bad ≡ false → first_refusal (listed tests) ≡ Some f → plan_from bad tests spent steps ≡ Err f
from_refused bad tests spent steps f e is =
    if_false bad (Err refused.BadPath) (unless_refused (listed tests ++ (spent, refused.Exhausted) ∷ []) steps) e
    ∙ first_some (listed tests) ((spent, refused.Exhausted) ∷ []) steps f is

pub from_spent : (bad : Bool) (tests : Tests) (spent : Bool) (steps : List Step) → bad ≡ false → first_refusal (listed tests) ≡ None → spent ≡ true → plan_from bad tests spent steps ≡ Err refused.Exhausted
from_spent bad tests spent steps e none is =
    if_false bad (Err refused.BadPath) (unless_refused (listed tests ++ (spent, refused.Exhausted) ∷ []) steps) e
    ∙ first_none (listed tests) ((spent, refused.Exhausted) ∷ []) steps none
    ∙ if_true spent (Err refused.Exhausted) (Ok steps) is

pub from_none : (bad : Bool) (tests : Tests) (spent : Bool) (steps : List Step) → bad ≡ false → first_refusal (listed tests) ≡ None → spent ≡ false → plan_from bad tests spent steps ≡ Ok steps
from_none bad tests spent steps e none is =
    if_false bad (Err refused.BadPath) (unless_refused (listed tests ++ (spent, refused.Exhausted) ∷ []) steps) e
    ∙ first_none (listed tests) ((spent, refused.Exhausted) ∷ []) steps none
    ∙ if_false spent (Err refused.Exhausted) (Ok steps) is

-- and the plan of an operation is such
pub planned_from : (page : ℕ) (x : Indexed) (o : Op) → planned_by page x o ≡ plan_from (has_bad_path o) (tests_of x.tree o) (is_exhausted page x o) (steps_of page x.tree o)
unfolding planned_by
planned_from page x o = refl
