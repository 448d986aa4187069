-- The plan of an object that gets other attributes.
use Rattle.std.proofs.Common.{◌≡◌, ℕ, ◌+◌, ◌≤◌, Bool, true, false, List, [], ◌∷◌, Option, Some, None, refl, ap, sym, ◌∙◌, subst}
use Rattle.std.specs.Prelude.{◌||◌, is_some, nat_lt, unwrap_or, MatchOption}
use Rattle.std.proofs.lemmas.Bool.{true≢false}
use Rattle.jmount.specs.Shown.{top_at}
use Rattle.jmount.specs.Tree.{Outline}
use Rattle.jsteps.specs.Nodes.{Indexed}
use Rattle.jsteps.specs.Planning.{steps_of}
use Rattle.jsteps.specs.Refusals.{has_bad_path, is_no_path, is_long, is_exhausted, planned_by}
use Rattle.jsteps.specs.Site.{IsReached}
use Rattle.jsteps.specs.Tests.{tests_of, attributes_tests}
use Rattle.jsteps.specs.Where.{above, number_reached}
use Rattle.jsteps.specs.declared.op.Attributes.{Attributes}
use Rattle.jsteps.specs.declared.op.Op.TheVariants as op
use Rattle.jsteps.specs.declared.site.Site.{Site}
use Rattle.jsteps.specs.declared.step.Step.TheVariants as step
use Rattle.jsteps.proofs.ChoiceLemmas.{planned_from}
use Rattle.jsteps.proofs.PlannedLemmas.{or_none, plan_same, past_one, IsFrom}

-- ---- what a look-up answers

pub no_path_of : (t : Outline) (path : List ℕ) (o : Option Site) → MatchOption o (is_no_path path ≡ true) (IsReached t path) → o ≡ None → is_no_path path ≡ true
no_path_of t path None h e = h
no_path_of t path (Some site) h e = absurd (true≢false (ap is_some e))

pub reached_of : (t : Outline) (path : List ℕ) (o : Option Site) (site : Site) → MatchOption o (is_no_path path ≡ true) (IsReached t path) → o ≡ Some site → IsReached t path site
reached_of t path o site h e = subst (λ (o : Option Site). MatchOption o (is_no_path path ≡ true) (IsReached t path)) e h

-- ---- the plan by its parts

attributes_same : (t : Outline) (time : ℕ) (path : List ℕ) (attributes : Attributes)
    → tests_of t (op.SetAttributes time path attributes) ≡ attributes_tests t (is_long path) (above t path) (number_reached t path) (nat_lt 0o7777 attributes.mode)
attributes_same t time path attributes = simp (or_none) refl

reached_sites : (t : Outline) (path : List ℕ) (site : Site) (mode : Bool) → IsReached t path site
    → attributes_tests t (is_long path) (above t path) (number_reached t path) mode ≡ attributes_tests t site.is_long site.above site.number mode
reached_sites t path site mode has =
    ap (λ b. attributes_tests t b (above t path) (number_reached t path) mode) (sym has.long)
    ∙ ap (λ r. attributes_tests t site.is_long r (number_reached t path) mode) (sym has.above)
    ∙ ap (λ n. attributes_tests t site.is_long site.above n mode) (sym has.number)

pub attributes_from : (page : ℕ) (x : Indexed) (time : ℕ) (path : List ℕ) (attributes : Attributes) (site : Site) (ino : ℕ) → IsReached x.tree path site → ino ≡ unwrap_or site.number 0 → ino ≤ 0xFFFFFFFF
    → IsFrom (planned_by page x (op.SetAttributes time path attributes)) (attributes_tests x.tree site.is_long site.above site.number (nat_lt 0o7777 attributes.mode)) (nat_lt 0xFFFFFFFF (top_at x.tops ino + 1)) (step.SetAttributes time ino attributes ∷ [])
attributes_from page x time path attributes site ino has e le =
    let o = op.SetAttributes time path attributes in
    let same : unwrap_or (number_reached x.tree path) 0 ≡ ino = ap (λ (n : Option ℕ). unwrap_or n 0) (sym has.number) ∙ sym e in
    record {
      is = planned_from page x o
          ∙ plan_same (has_bad_path o) false (tests_of x.tree o) (attributes_tests x.tree site.is_long site.above site.number (nat_lt 0o7777 attributes.mode))
          (is_exhausted page x o) (nat_lt 0xFFFFFFFF (top_at x.tops ino + 1))
          (steps_of page x.tree o) (step.SetAttributes time ino attributes ∷ [])
          has.good
          (attributes_same x.tree time path attributes ∙ reached_sites x.tree path site (nat_lt 0o7777 attributes.mode) has)
          (ap (λ i. (nat_lt 0xFFFFFFFF (top_at x.tops i + 1) || nat_lt 0xFFFFFFFF i) || false) same ∙ past_one (top_at x.tops ino + 1) ino le)
          (ap (λ i. step.SetAttributes time i attributes ∷ []) same);
    }
