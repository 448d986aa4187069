-- The plan of a name that takes the place of another.
use Rattle.std.proofs.Common.{◌≡◌, ℕ, ◌≤◌, Bool, true, false, cond, List, [], ◌∷◌, Option, Result, refl, ap, sym, ◌∙◌, subst}
use Rattle.std.specs.Prelude.{◌&&◌, ◌||◌, ◌==◌, bytes_eq, unwrap_or, option_and_then}
use Rattle.std.specs.List.{list_any}
use Rattle.jmount.specs.Tree.{Outline, object, has_bits, directory_bits}
use Rattle.jmount.specs.declared.fault.FindFault.{FindFault}
use Rattle.jsteps.specs.Nodes.{Indexed, nodes_of}
use Rattle.jsteps.specs.Planning.{move_steps, steps_of}
use Rattle.jsteps.specs.Refusals.{paths, is_bad_path, is_long, is_exhausted, is_past, planned_by, meets_nothing, meets_other}
use Rattle.jsteps.specs.Site.{IsSiteOf}
use Rattle.jsteps.specs.Tests.{spent_by, tests_of, replaced_tests, missing_at}
use Rattle.jsteps.specs.Where.{above, number_there, end_or_zero, parent, last_name, number_or_zero, is_one_entry}
use Rattle.jsteps.specs.declared.fault.OpFault.{OpFault}
use Rattle.jsteps.specs.declared.op.Op.TheVariants as op
use Rattle.jsteps.specs.declared.refusal.Tests.{Tests}
use Rattle.jsteps.specs.declared.site.Site.{Site}
use Rattle.jsteps.specs.declared.step.Step.{Step}
use Rattle.jsteps.specs.declared.step.Step.TheVariants as step
use Rattle.jsteps.proofs.ChoiceLemmas.{planned_from}
use Rattle.jsteps.proofs.PlannedLemmas.{or_none, plan_same, good_both, renamed_spent, IsFrom}

-- what applies to it, by the parts of both its paths
abbrev replaced_parts : Outline → Bool → Result ℕ FindFault → Option ℕ → Bool → Result ℕ FindFault → Option ℕ → Tests
replaced_parts t long at number new_long new_at new_number = record {
  is_long = long || new_long;
  is_not_found = (meets_nothing at || meets_nothing new_at) || missing_at t at number;
  is_not_directory = meets_other t at || meets_other t new_at;
  exists = has_bits directory_bits (option_and_then (object t) new_number);
  is_wrong_kind = has_bits directory_bits (option_and_then (object t) number);
  is_not_empty = false;
  is_into_itself = false;
  is_too_large = false;
  is_bad_mode = false;
  is_bad_target = false;
}

replaced_same : (t : Outline) (old new : List ℕ) (time : ℕ)
    → tests_of t (op.Replace time old new) ≡ replaced_parts t (is_long old) (above t old) (number_there t old) (is_long new) (above t new) (number_there t new)
replaced_same t old new time = simp (or_none) refl

replaced_sites : (t : Outline) (old new : List ℕ) (from to : Site) → IsSiteOf t old from → IsSiteOf t new to
    → replaced_parts t (is_long old) (above t old) (number_there t old) (is_long new) (above t new) (number_there t new) ≡ replaced_tests t from to
replaced_sites t old new from to is_from is_to =
    ap (λ b. replaced_parts t b (above t old) (number_there t old) (is_long new) (above t new) (number_there t new)) (sym is_from.long)
    ∙ ap (λ r. replaced_parts t from.is_long r (number_there t old) (is_long new) (above t new) (number_there t new)) (sym is_from.above)
    ∙ ap (λ n. replaced_parts t from.is_long from.above n (is_long new) (above t new) (number_there t new)) (sym is_from.number)
    ∙ ap (λ b. replaced_parts t from.is_long from.above from.number b (above t new) (number_there t new)) (sym is_to.long)
    ∙ ap (λ r. replaced_parts t from.is_long from.above from.number to.is_long r (number_there t new)) (sym is_to.above)
    ∙ ap (λ n. replaced_parts t from.is_long from.above from.number to.is_long to.above n) (sym is_to.number)

-- whether both lead to one entry
one_entry : (t : Outline) (old new : List ℕ) (from to : Site) (one : Bool) → IsSiteOf t old from → IsSiteOf t new to
    → one ≡ ((end_or_zero from.above == end_or_zero to.above) && bytes_eq from.last.now to.last.now) → is_one_entry t old new ≡ one
one_entry t old new from to one is_from is_to e =
    ap (λ p. (end_or_zero p == parent t new) && bytes_eq (last_name old) (last_name new)) (sym is_from.above)
    ∙ ap (λ p. (end_or_zero from.above == end_or_zero p) && bytes_eq (last_name old) (last_name new)) (sym is_to.above)
    ∙ ap (λ l. (end_or_zero from.above == end_or_zero to.above) && bytes_eq l (last_name new)) (sym is_from.last)
    ∙ ap (λ l. (end_or_zero from.above == end_or_zero to.above) && bytes_eq from.last.now l) (sym is_to.last)
    ∙ sym e

-- the steps of both names
moved : (t : Outline) (time : ℕ) (old new : List ℕ) (from to : Site) (dir left ino : ℕ) → IsSiteOf t old from → IsSiteOf t new to
    → dir ≡ end_or_zero to.above → left ≡ end_or_zero from.above → ino ≡ unwrap_or from.number 0
    → move_steps t time old new ≡ step.SetName time dir to.last.now ino ∷ step.ClearName time left from.last.now ∷ []
moved t time old new from to dir left ino is_from is_to e e_left ino_is =
    ap (λ p. step.SetName time p (last_name new) (number_or_zero t old) ∷ step.ClearName time (parent t old) (last_name old) ∷ []) (ap end_or_zero (sym is_to.above) ∙ sym e)
    ∙ ap (λ p. step.SetName time dir (last_name new) (number_or_zero t old) ∷ step.ClearName time p (last_name old) ∷ []) (ap end_or_zero (sym is_from.above) ∙ sym e_left)
    ∙ ap (λ l. step.SetName time dir l (number_or_zero t old) ∷ step.ClearName time left (last_name old) ∷ []) (sym is_to.last)
    ∙ ap (λ l. step.SetName time dir to.last.now (number_or_zero t old) ∷ step.ClearName time left l ∷ []) (sym is_from.last)
    ∙ ap (λ i. step.SetName time dir to.last.now i ∷ step.ClearName time left from.last.now ∷ []) (ap (λ (n : Option ℕ). unwrap_or n 0) (sym is_from.number) ∙ sym ino_is)

-- no versions are needed where both lead to one entry
unless_one : (x : Indexed) (time dir left ino : ℕ) (name last : List ℕ) (one : Bool) → dir ≤ 0xFFFFFFFF → left ≤ 0xFFFFFFFF
    → list_any is_past (nodes_of x (cond one [] (step.SetName time dir name ino ∷ step.ClearName time left last ∷ []))) ≡ cond one false (spent_by x dir left)
unless_one x time dir left ino name last true le le_left = refl
unless_one x time dir left ino name last false le le_left = renamed_spent x dir left le le_left

pub replace_from : (page : ℕ) (x : Indexed) (time : ℕ) (old new : List ℕ) (from to : Site) (one : Bool) (dir left ino : ℕ) → IsSiteOf x.tree old from → IsSiteOf x.tree new to
    → one ≡ ((end_or_zero from.above == end_or_zero to.above) && bytes_eq from.last.now to.last.now)
    → dir ≡ end_or_zero to.above → dir ≤ 0xFFFFFFFF → left ≡ end_or_zero from.above → left ≤ 0xFFFFFFFF → ino ≡ unwrap_or from.number 0
    → IsFrom (planned_by page x (op.Replace time old new)) (replaced_tests x.tree from to) (cond one false (spent_by x dir left))
    (cond one [] (step.SetName time dir to.last.now ino ∷ step.ClearName time left from.last.now ∷ []))
replace_from page x time old new from to one dir left ino is_from is_to one_is e le e_left le_left ino_is =
    let o = op.Replace time old new in
    let two : List Step = step.SetName time dir to.last.now ino ∷ step.ClearName time left from.last.now ∷ [] in
    let steps : steps_of page x.tree o ≡ cond one [] two =
    ap (λ b. cond b [] (move_steps x.tree time old new)) (one_entry x.tree old new from to one is_from is_to one_is)
    ∙ ap (λ steps. cond one [] steps) (moved x.tree time old new from to dir left ino is_from is_to e e_left ino_is) in
    record {
      is = planned_from page x o
          ∙ plan_same (list_any is_bad_path (paths o)) false (tests_of x.tree o) (replaced_tests x.tree from to)
          (is_exhausted page x o) (cond one false (spent_by x dir left)) (steps_of page x.tree o) (cond one [] two)
          (good_both old new is_from.good is_to.good)
          (replaced_same x.tree old new time ∙ replaced_sites x.tree old new from to is_from is_to)
          (ap (λ steps. list_any is_past (nodes_of x steps)) steps ∙ unless_one x time dir left ino to.last.now from.last.now one le le_left)
          steps;
    }

-- ---- where both lead to one entry, and where not

pub from_one : {plan : Result (List Step) OpFault} {tests : Tests} (spent : Bool) (steps : List Step) (one : Bool) → IsFrom plan tests (cond one false spent) (cond one [] steps) → one ≡ true
    → IsFrom plan tests false []
from_one {plan} {tests} spent steps one from e = subst (λ b. IsFrom plan tests (cond b false spent) (cond b [] steps)) e from

pub from_two : {plan : Result (List Step) OpFault} {tests : Tests} {spent : Bool} {steps : List Step} (one : Bool) → IsFrom plan tests (cond one false spent) (cond one [] steps) → one ≡ false
    → IsFrom plan tests spent steps
from_two {plan} {tests} {spent} {steps} one from e = subst (λ b. IsFrom plan tests (cond b false spent) (cond b [] steps)) e from
