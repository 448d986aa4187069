-- The plan of a name that is removed where it is there.
use Rattle.std.proofs.Common.{◌≡◌, ℕ, ◌+◌, ◌≤◌, Bool, true, false, cond, List, [], ◌∷◌, Option, refl, ap, sym, ◌∙◌}
use Rattle.std.specs.Prelude.{not, is_some, nat_lt}
use Rattle.std.specs.List.{list_any}
use Rattle.jmount.specs.Shown.{top_at}
use Rattle.jmount.specs.Tree.{Outline}
use Rattle.jsteps.specs.Nodes.{Indexed, nodes_of}
use Rattle.jsteps.specs.Planning.{steps_of}
use Rattle.jsteps.specs.Refusals.{paths, is_bad_path, is_long, is_exhausted, is_past, planned_by}
use Rattle.jsteps.specs.Site.{IsSiteOf}
use Rattle.jsteps.specs.Tests.{tests_of, removed_if_tests}
use Rattle.jsteps.specs.Where.{above, number_there, end_or_zero, parent, last_name}
use Rattle.jsteps.specs.declared.op.Op.TheVariants as op
use Rattle.jsteps.specs.declared.site.Site.{Site}
use Rattle.jsteps.specs.declared.step.Step.{Step}
use Rattle.jsteps.specs.declared.step.Step.TheVariants as step
use Rattle.jsteps.proofs.ChoiceLemmas.{planned_from}
use Rattle.jsteps.proofs.PlannedLemmas.{or_none, past_one, plan_same, IsFrom}

removed_if_same : (t : Outline) (path : List ℕ) (site : Site) (time : ℕ) → IsSiteOf t path site → tests_of t (op.RemoveIf time path) ≡ removed_if_tests t site.is_long site.above site.number
removed_if_same t path site time has =
    first
    ∙ ap (λ b. removed_if_tests t b (above t path) (number_there t path)) (sym has.long)
    ∙ ap (λ r. removed_if_tests t site.is_long r (number_there t path)) (sym has.above)
    ∙ ap (λ n. removed_if_tests t site.is_long site.above n) (sym has.number)
  where
    first : tests_of t (op.RemoveIf time path) ≡ removed_if_tests t (is_long path) (above t path) (number_there t path)
    first = simp (or_none) refl

pub twice : (b : Bool) → b ≡ not (not b)
twice true = refl
twice false = refl

turned : (none : Bool) (steps : List Step) → cond (not none) steps [] ≡ cond none [] steps
turned true steps = refl
turned false steps = refl

-- a name that is missing needs no version
unless_missing : (x : Indexed) (time dir : ℕ) (last : List ℕ) (none : Bool) → dir ≤ 0xFFFFFFFF
    → list_any is_past (nodes_of x (cond none [] (step.ClearName time dir last ∷ []))) ≡ cond none false (nat_lt 0xFFFFFFFF (top_at x.tops dir + 1))
unless_missing x time dir last true le = refl
unless_missing x time dir last false le = past_one (top_at x.tops dir + 1) dir le

pub removed_if_from : (page : ℕ) (x : Indexed) (time : ℕ) (path : List ℕ) (site : Site) (none : Bool) (dir : ℕ) → IsSiteOf x.tree path site → is_some site.number ≡ not none → dir ≡ end_or_zero site.above → dir ≤ 0xFFFFFFFF
    → IsFrom (planned_by page x (op.RemoveIf time path)) (removed_if_tests x.tree site.is_long site.above site.number) (cond none false (nat_lt 0xFFFFFFFF (top_at x.tops dir + 1)))
    (cond none [] (step.ClearName time dir site.last.now ∷ []))
removed_if_from page x time path site none dir has none_is e le =
    let o = op.RemoveIf time path in
    let clear : List Step = step.ClearName time dir site.last.now ∷ [] in
    let same : parent x.tree path ≡ dir = ap end_or_zero (sym has.above) ∙ sym e in
    let steps : steps_of page x.tree o ≡ cond none [] clear =
    ap (λ (n : Option ℕ). cond (is_some n) (step.ClearName time (parent x.tree path) (last_name path) ∷ []) []) (sym has.number)
    ∙ ap (λ b. cond b (step.ClearName time (parent x.tree path) (last_name path) ∷ []) []) none_is
    ∙ turned none (step.ClearName time (parent x.tree path) (last_name path) ∷ [])
    ∙ ap (λ p. cond none [] (step.ClearName time p (last_name path) ∷ [])) same
    ∙ ap (λ l. cond none [] (step.ClearName time dir l ∷ [])) (sym has.last) in
    record {
      is = planned_from page x o
          ∙ plan_same (list_any is_bad_path (paths o)) false (tests_of x.tree o) (removed_if_tests x.tree site.is_long site.above site.number)
          (is_exhausted page x o) (cond none false (nat_lt 0xFFFFFFFF (top_at x.tops dir + 1))) (steps_of page x.tree o) (cond none [] clear)
          (or_none (is_bad_path path) ∙ has.good)
          (removed_if_same x.tree path site time has)
          (ap (λ steps. list_any is_past (nodes_of x steps)) steps ∙ unless_missing x time dir site.last.now none le)
          steps;
    }
