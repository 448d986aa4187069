-- The plan of a new file with bytes.
use Rattle.std.proofs.Common.{◌≡◌, ℕ, ◌+◌, ◌≤◌, Bool, true, false, cond, List, [], ◌∷◌, ◌++◌, length, take, drop, Option, Some, None, refl, ap, sym, ◌∙◌, arith}
use Rattle.std.specs.Prelude.{◌||◌, ◌&&◌, not, is_some, nat_lt, ◌==◌, unwrap_or}
use Rattle.std.specs.List.{list_any, AllByRecursion}
use Rattle.std.specs.Ordering.{eq_by_cmp, nat_cmp}
use Rattle.std.specs.Cmp.{nat_cmp_total, unsigned_tied}
use Rattle.std.specs.FinMap.{get, get-insert}
use Rattle.std.proofs.lemmas.Bool.{cond-false, eqb-true, ltb-false, true≢false}
use Rattle.std.proofs.lemmas.List.Folds.{list_any-append}
use Rattle.jmount.specs.Shown.{top_at}
use Rattle.jmount.specs.Tree.{Outline}
use Rattle.jsteps.specs.Nodes.{Indexed, node_of, nodes_of, advanced, advanced_all}
use Rattle.jscan.specs.Pages.{IsPage}
use Rattle.jsteps.specs.Families.{file_op}
use Rattle.jsteps.specs.Planning.{first_len, write_steps, bytes_steps, file_steps, steps_of}
use Rattle.jsteps.specs.Refusals.{has_bad_path, is_bad_path, is_exhausted, is_long, is_past, greatest_size, planned_by}
use Rattle.jsteps.specs.Site.{IsSiteOf}
use Rattle.jsteps.specs.Tests.{first_refusal, full_by, listed, taken_by, tests_of, file_tests}
use Rattle.jsteps.specs.Where.{above, number_there, end_or_zero, parent, last_name}
use Rattle.jsteps.specs.declared.fault.OpFault.{OpFault}
use Rattle.jsteps.specs.declared.refusal.Tests.{Tests}
use Rattle.jsteps.specs.declared.site.Site.{Site}
use Rattle.jsteps.specs.declared.step.Step.{Step}
use Rattle.jsteps.specs.declared.step.Step.TheVariants as step
use Rattle.jsteps.proofs.ChoiceLemmas.{planned_from}
use Rattle.jsteps.proofs.PlannedLemmas.{not_past, or_none, past_one, plan_same, IsFrom}
use Rattle.jsteps.proofs.FileLemmas.{IsNext, top_after, own_top, other_top, spent_all, write_next}
use Rattle.jsteps.proofs.FewLemmas.{rest_few}

-- ---- nodes of steps that follow one another

nodes_of-append : (x : Indexed) (xs ys : List Step) → nodes_of x (xs ++ ys) ≡ nodes_of x xs ++ nodes_of (advanced_all x xs) ys
nodes_of-append x [] ys = refl
nodes_of-append x (s ∷ xs) ys = ap (λ nodes. node_of x s ∷ nodes) (nodes_of-append (advanced x s) xs ys)

-- ---- no number is left for it, or no version for its name

either_false : (a b : Bool) → a ≡ false → (a || b) ≡ b
either_false a b e = ap (λ a. a || b) e

new_top : (x : Indexed) (time mode uid gid : ℕ) (bytes : List ℕ) → top_at (advanced x (step.MakeObject time mode uid gid bytes)).tops x.tree.next ≡ 1
new_top x time mode uid gid bytes = top_after x (step.MakeObject time mode uid gid bytes) x.tree.next 1 refl refl

other_stays : (x : Indexed) (time mode uid gid : ℕ) (bytes : List ℕ) (j : ℕ) → (j == x.tree.next) ≡ false → top_at (advanced x (step.MakeObject time mode uid gid bytes)).tops j ≡ top_at x.tops j
other_stays x time mode uid gid bytes j other =
    ap (λ (o : Option ℕ). unwrap_or o 0)
    (get-insert nat_cmp_total x.tops x.tree.next 1 j
    ∙ cond-false (eq_by_cmp nat_cmp j x.tree.next) (Some 1) (get x.tops j) (unsigned_tied j x.tree.next ∙ other))

-- the version of the name
name_spent : (x y : Indexed) (puts : List Step) (p : ℕ) → AllByRecursion (IsNext x.tree.next) puts → length puts ≤ 1048575 → top_at y.tops x.tree.next ≡ 1
    → ((j : ℕ) → (j == x.tree.next) ≡ false → top_at y.tops j ≡ top_at x.tops j) → (b : Bool) → (p == x.tree.next) ≡ b
    → nat_lt 0xFFFFFFFF (top_at (advanced_all y puts).tops p + 1) ≡ (not b && nat_lt 0xFFFFFFFF (top_at x.tops p + 1))
name_spent x y puts p all few own others true e =
    let same : p ≡ x.tree.next = eqb-true p x.tree.next e in
    let top : top_at (advanced_all y puts).tops p ≡ 1 + length puts =
    ap (top_at (advanced_all y puts).tops) same ∙ own_top y x.tree.next puts all ∙ ap (λ t. t + length puts) own in
    not_past (top_at (advanced_all y puts).tops p + 1) (omega arith)
name_spent x y puts p all few own others false e = ap (λ t. nat_lt 0xFFFFFFFF (t + 1)) (other_top y x.tree.next p puts e all ∙ others p e)

-- those of the other pieces, and of the name
rest_spent : (x y : Indexed) (time p : ℕ) (name : List ℕ) (puts : List Step) → x.tree.next ≤ 0xFFFFFFFF → p ≤ 0xFFFFFFFF → AllByRecursion (IsNext x.tree.next) puts → length puts ≤ 1048575
    → top_at y.tops x.tree.next ≡ 1 → ((j : ℕ) → (j == x.tree.next) ≡ false → top_at y.tops j ≡ top_at x.tops j)
    → list_any is_past (nodes_of y (puts ++ step.SetName time p name x.tree.next ∷ [])) ≡ (not (p == x.tree.next) && nat_lt 0xFFFFFFFF (top_at x.tops p + 1))
rest_spent x y time p name puts next le all few own others =
    ap (list_any is_past) (nodes_of-append y puts (step.SetName time p name x.tree.next ∷ []))
    ∙ list_any-append is_past (nodes_of y puts) (nodes_of (advanced_all y puts) (step.SetName time p name x.tree.next ∷ []))
    ∙ either_false (list_any is_past (nodes_of y puts)) (list_any is_past (nodes_of (advanced_all y puts) (step.SetName time p name x.tree.next ∷ [])))
    (spent_all y x.tree.next puts next all (omega arith) ∙ not_past (top_at y.tops x.tree.next + length puts) (omega arith))
    ∙ past_one (top_at (advanced_all y puts).tops p + 1) p le
    ∙ name_spent x y puts p all few own others (p == x.tree.next) refl

either_same : (a b c : Bool) → (a ≡ false → b ≡ c) → (a || b) ≡ (a || c)
either_same true b c h = refl
either_same false b c h = h refl

file_full : (page : ℕ) (x : Indexed) (time p mode uid gid : ℕ) (name bytes : List ℕ) → IsPage page → p ≤ 0xFFFFFFFF → length bytes ≤ 2147483647
    → list_any is_past (nodes_of x (bytes_steps page x.tree.next time mode uid gid bytes ++ step.SetName time p name x.tree.next ∷ [])) ≡ full_by x p
file_full page x time p mode uid gid name bytes is_page le within =
    let first = first_len page (length bytes) in
    let y = advanced x (step.MakeObject time mode uid gid (take first bytes)) in
    let puts = write_steps page time x.tree.next first first (drop first bytes) in
    either_same (nat_lt 0xFFFFFFFF x.tree.next) (list_any is_past (nodes_of y (puts ++ step.SetName time p name x.tree.next ∷ []))) (not (p == x.tree.next) && nat_lt 0xFFFFFFFF (top_at x.tops p + 1))
    (λ next.
    rest_spent x y time p name puts (ltb-false 0xFFFFFFFF x.tree.next next) le (write_next page time x.tree.next first first (drop first bytes)) (rest_few page time x.tree.next bytes is_page within)
    (new_top x time mode uid gid (take first bytes)) (other_stays x time mode uid gid (take first bytes)))

-- ---- the plan, under a new name or in the place of what the name stands for

file_sites : (t : Outline) (over : Bool) (path : List ℕ) (site : Site) (taken large mode : Bool) → IsSiteOf t path site → taken ≡ taken_by t site.number over
    → file_tests t (is_long path) (above t path) (taken_by t (number_there t path) over) large mode ≡ file_tests t site.is_long site.above taken large mode
file_sites t over path site taken large mode has e =
    ap (λ b. file_tests t b (above t path) (taken_by t (number_there t path) over) large mode) (sym has.long)
    ∙ ap (λ r. file_tests t site.is_long r (taken_by t (number_there t path) over) large mode) (sym has.above)
    ∙ ap (λ n. file_tests t site.is_long site.above (taken_by t n over) large mode) (sym has.number)
    ∙ ap (λ b. file_tests t site.is_long site.above b large mode) (sym e)

file_same : (t : Outline) (over : Bool) (time : ℕ) (path : List ℕ) (mode uid gid : ℕ) (bytes : List ℕ) (large bad : Bool) → large ≡ nat_lt greatest_size (length bytes) → bad ≡ nat_lt 0o7777 mode
    → tests_of t (file_op over time path mode uid gid bytes) ≡ file_tests t (is_long path) (above t path) (taken_by t (number_there t path) over) large bad
file_same t over time path mode uid gid bytes large bad e f =
    same over
    ∙ ap (λ b. file_tests t (is_long path) (above t path) (taken_by t (number_there t path) over) b (nat_lt 0o7777 mode)) (sym e)
    ∙ ap (λ b. file_tests t (is_long path) (above t path) (taken_by t (number_there t path) over) large b) (sym f)
  where
    same : (over : Bool)
        → tests_of t (file_op over time path mode uid gid bytes) ≡ file_tests t (is_long path) (above t path) (taken_by t (number_there t path) over) (nat_lt greatest_size (length bytes)) (nat_lt 0o7777 mode)
    same true = simp (or_none) refl
    same false = simp (or_none) refl

good_path : (over : Bool) (time : ℕ) (path : List ℕ) (mode uid gid : ℕ) (bytes : List ℕ) → has_bad_path (file_op over time path mode uid gid bytes) ≡ is_bad_path path
good_path true time path mode uid gid bytes = or_none (is_bad_path path)
good_path false time path mode uid gid bytes = or_none (is_bad_path path)

pub bad_file_path : (over : Bool) (time : ℕ) (path : List ℕ) (mode uid gid : ℕ) (bytes : List ℕ) → is_bad_path path ≡ true → has_bad_path (file_op over time path mode uid gid bytes) ≡ true
bad_file_path over time path mode uid gid bytes e = good_path over time path mode uid gid bytes ∙ e

-- whatever its bytes
pub new_file_from : (page : ℕ) (x : Indexed) (over : Bool) (time : ℕ) (path : List ℕ) (mode uid gid : ℕ) (bytes : List ℕ) (site : Site) (taken large bad : Bool) → IsSiteOf x.tree path site
    → taken ≡ taken_by x.tree site.number over → large ≡ nat_lt greatest_size (length bytes) → bad ≡ nat_lt 0o7777 mode
    → IsFrom (planned_by page x (file_op over time path mode uid gid bytes)) (file_tests x.tree site.is_long site.above taken large bad)
    (is_exhausted page x (file_op over time path mode uid gid bytes)) (steps_of page x.tree (file_op over time path mode uid gid bytes))
new_file_from page x over time path mode uid gid bytes site taken large bad has is e f =
    let o = file_op over time path mode uid gid bytes in
    record {
      is = planned_from page x o
          ∙ plan_same (has_bad_path o) false (tests_of x.tree o) (file_tests x.tree site.is_long site.above taken large bad)
          (is_exhausted page x o) (is_exhausted page x o) (steps_of page x.tree o) (steps_of page x.tree o)
          (good_path over time path mode uid gid bytes ∙ has.good)
          (file_same x.tree over time path mode uid gid bytes large bad e f ∙ file_sites x.tree over path site taken large bad has is)
          refl refl;
    }

-- its steps, by where the path leads
over_steps : (page : ℕ) (t : Outline) (over : Bool) (time : ℕ) (path : List ℕ) (mode uid gid : ℕ) (bytes : List ℕ)
    → steps_of page t (file_op over time path mode uid gid bytes) ≡ file_steps page t time path (0o100000 + mode) uid gid bytes
over_steps page t true time path mode uid gid bytes = refl
over_steps page t false time path mode uid gid bytes = refl

pub new_file_steps : (page : ℕ) (x : Indexed) (over : Bool) (time : ℕ) (path : List ℕ) (mode uid gid : ℕ) (bytes : List ℕ) (site : Site) (dir : ℕ) → IsSiteOf x.tree path site → dir ≡ end_or_zero site.above
    → steps_of page x.tree (file_op over time path mode uid gid bytes) ≡ bytes_steps page x.tree.next time (0o100000 + mode) uid gid bytes ++ step.SetName time dir site.last.now x.tree.next ∷ []
new_file_steps page x over time path mode uid gid bytes site dir has e =
    let same : parent x.tree path ≡ dir = ap end_or_zero (sym has.above) ∙ sym e in
    over_steps page x.tree over time path mode uid gid bytes
    ∙ ap (λ p. bytes_steps page x.tree.next time (0o100000 + mode) uid gid bytes ++ step.SetName time p (last_name path) x.tree.next ∷ []) same
    ∙ ap (λ l. bytes_steps page x.tree.next time (0o100000 + mode) uid gid bytes ++ step.SetName time dir l x.tree.next ∷ []) (sym has.last)

-- and whether versions are left
pub new_file_spent : (page : ℕ) (x : Indexed) (over : Bool) (time : ℕ) (path : List ℕ) (mode uid gid : ℕ) (bytes : List ℕ) (site : Site) (dir : ℕ) → IsPage page → IsSiteOf x.tree path site
    → dir ≡ end_or_zero site.above → dir ≤ 0xFFFFFFFF → length bytes ≤ 2147483647 → full_by x dir ≡ is_exhausted page x (file_op over time path mode uid gid bytes)
new_file_spent page x over time path mode uid gid bytes site dir is_page has e le within =
    sym
    (ap (λ steps. list_any is_past (nodes_of x steps)) (new_file_steps page x over time path mode uid gid bytes site dir has e)
    ∙ file_full page x time dir (0o100000 + mode) uid gid site.last.now bytes is_page le within)

-- ---- bytes that are not too many

none_here : (b : Bool) (f : OpFault) (more : Option OpFault) → cond b (Some f) more ≡ None → (b ≡ false) × (more ≡ None)
none_here true f more e = absurd (true≢false (ap is_some e))
none_here false f more e = (refl, e)

none_apply : (rs : List (Bool × OpFault)) → first_refusal rs ≡ None → AllByRecursion (λ r. r.0 ≡ false) rs
none_apply [] e = tt
none_apply (r ∷ rs) e = let here = none_here r.0 r.1 (first_refusal rs) e in (here.0, none_apply rs here.1)

pub not_large : (found : Tests) (r : Option OpFault) (bytes : List ℕ) → found.is_too_large ≡ nat_lt greatest_size (length bytes) → r ≡ first_refusal (listed found) → r ≡ None → length bytes ≤ 2147483647
not_large found r bytes same is e =
    let all = none_apply (listed found) (sym is ∙ e) in
    ltb-false greatest_size (length bytes) (sym same ∙ all.1.1.1.1.1.1.1.0)
