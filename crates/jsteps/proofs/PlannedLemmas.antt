-- The plan of each operation, by where its paths lead.
use Rattle.std.proofs.Common.{◌≡◌, ℕ, ◌+◌, ◌<◌, ◌≤◌, Bool, true, false, cond, List, [], ◌∷◌, Option, Some, None, Result, Ok, Err, refl, ap, sym, ◌∙◌, subst, arith}
use Rattle.std.specs.Prelude.{◌||◌, ◌&&◌, not, is_some, nat_lt, ◌==◌, unwrap_or, option_and_then, MatchOption, Vec}
use Rattle.std.specs.declared.alloc.Global.{Global}
use Rattle.std.specs.List.{list_any}
use Rattle.std.proofs.lemmas.Bool.{eqb-true, ltb-true, true≢false}
use Rattle.std.specs.Ordering.{eq_by_cmp, nat_cmp}
use Rattle.std.specs.Cmp.{nat_cmp_total, unsigned_tied}
use Rattle.std.specs.FinMap.{get, insert, get-insert}
use Rattle.jmount.specs.Shown.{top_at}
use Rattle.jmount.specs.declared.fault.FindFault.{FindFault}
use Rattle.jmount.specs.Tree.{Outline, object, has_bits, directory_bits}
use Rattle.jsteps.specs.Nodes.{Indexed, nodes_of}
use Rattle.jsteps.specs.Planning.{steps_of, make_steps}
use Rattle.jsteps.specs.Refusals.{paths, has_bad_path, is_bad_path, is_long, meets_nothing, meets_other, is_exhausted, is_past, is_bad_target, planned_by}
use Rattle.jsteps.specs.Site.{IsSiteOf}
use Rattle.jsteps.specs.Tests.{GivesPlan, listed, first_refusal, made_plan, full_by, spent_by, into_itself_at, tests_of, plan_from, made_tests, removed_tests, named_tests, unnamed_at, missing_at, new_of}
use Rattle.jsteps.specs.Where.{above, number_there, end_or_zero, parent, last_name, number_or_zero, object_named}
use Rattle.jsteps.specs.Device.{device_mode}
use Rattle.jsteps.specs.declared.device.DeviceKind.{DeviceKind}
use Rattle.jsteps.specs.declared.fault.OpFault.{OpFault}
use Rattle.jsteps.specs.declared.fault.OpFault.TheVariants as refused
use Rattle.jsteps.specs.declared.op.Op.{Op}
use Rattle.jsteps.specs.declared.op.Op.TheVariants as op
use Rattle.jsteps.specs.declared.planning.Origin.{Origin}
use Rattle.jsteps.specs.declared.refusal.Tests.{Tests}
use Rattle.jsteps.specs.declared.site.Site.{Site}
use Rattle.jsteps.specs.declared.step.Step.{Step}
use Rattle.jsteps.specs.declared.step.Step.TheVariants as step
use Rattle.jsteps.proofs.ChoiceLemmas.{planned_from, from_bad, from_refused, from_spent, from_none}

-- ---- what a look-up answers

pub bad_of : (t : Outline) (path : List ℕ) (o : Option Site) → MatchOption o (is_bad_path path ≡ true) (IsSiteOf t path) → o ≡ None → is_bad_path path ≡ true
bad_of t path None h e = h
bad_of t path (Some site) h e = absurd (true≢false (ap is_some e))

pub good_of : (t : Outline) (path : List ℕ) (o : Option Site) (site : Site) → MatchOption o (is_bad_path path ≡ true) (IsSiteOf t path) → o ≡ Some site → IsSiteOf t path site
good_of t path o site h e = subst (λ (o : Option Site). MatchOption o (is_bad_path path ≡ true) (IsSiteOf t path)) e h

pub or_none : (b : Bool) → (b || false) ≡ b
or_none true = refl
or_none false = refl

pub bad_of_both : (t : Outline) (old new : List ℕ) (o : Option (Site × Site)) → MatchOption o ((is_bad_path old || is_bad_path new) ≡ true) (λ two. IsSiteOf t old two.0 × IsSiteOf t new two.1)
    → o ≡ None → (is_bad_path old || (is_bad_path new || false)) ≡ true
bad_of_both t old new None h e = ap (λ b. is_bad_path old || b) (or_none (is_bad_path new)) ∙ h
bad_of_both t old new (Some two) h e = absurd (true≢false (ap is_some e))

pub good_of_both : (t : Outline) (old new : List ℕ) (o : Option (Site × Site)) (two : Site × Site) → MatchOption o ((is_bad_path old || is_bad_path new) ≡ true) (λ two. IsSiteOf t old two.0 × IsSiteOf t new two.1)
    → o ≡ Some two → IsSiteOf t old two.0 × IsSiteOf t new two.1
good_of_both t old new o two h e =
    subst (λ (o : Option (Site × Site)). MatchOption o ((is_bad_path old || is_bad_path new) ≡ true) (λ two. IsSiteOf t old two.0 × IsSiteOf t new two.1)) e h

-- ---- plans by their parts

pub plan_same : (b c : Bool) (t u : Tests) (s r : Bool) (xs ys : List Step) → b ≡ c → t ≡ u → s ≡ r → xs ≡ ys → plan_from b t s xs ≡ plan_from c u r ys
plan_same b c t u s r xs ys e f g h = ap (λ b. plan_from b t s xs) e ∙ ap (λ t. plan_from c t s xs) f ∙ ap (λ s. plan_from c u s xs) g ∙ ap (λ xs. plan_from c u r xs) h

pub not_past : (p : ℕ) → p ≤ 0xFFFFFFFF → nat_lt 0xFFFFFFFF p ≡ false
not_past p le = by (nat_lt 0xFFFFFFFF p) refl
  where
    by : (b : Bool) → nat_lt 0xFFFFFFFF p ≡ b → b ≡ false
    by true e = let more : 0xFFFFFFFF < p = ltb-true 0xFFFFFFFF p e in absurd (omega arith)
    by false e = refl

pub past_one : (v p : ℕ) → p ≤ 0xFFFFFFFF → ((nat_lt 0xFFFFFFFF v || nat_lt 0xFFFFFFFF p) || false) ≡ nat_lt 0xFFFFFFFF v
past_one v p le =
    or_none (nat_lt 0xFFFFFFFF v || nat_lt 0xFFFFFFFF p)
    ∙ ap (λ b. nat_lt 0xFFFFFFFF v || b) (not_past p le)
    ∙ or_none (nat_lt 0xFFFFFFFF v)

-- ---- where paths lead

removed_same : (t : Outline) (path : List ℕ) (site : Site) (time : ℕ) → IsSiteOf t path site → tests_of t (op.Remove time path) ≡ removed_tests t site.is_long site.above site.number
removed_same t path site time has =
    first (is_long path) (meets_nothing (above t path)) (meets_other t (above t path)) (unnamed_at t (above t path) (number_there t path))
    ∙ ap (λ b. removed_tests t b (above t path) (number_there t path)) (sym has.long)
    ∙ ap (λ r. removed_tests t site.is_long r (number_there t path)) (sym has.above)
    ∙ ap (λ n. removed_tests t site.is_long site.above n) (sym has.number)
  where
    first : (long nothing other unnamed : Bool) → tests_of t (op.Remove time path) ≡ removed_tests t (is_long path) (above t path) (number_there t path)
    first long nothing other unnamed = simp (or_none) refl

-- a plan of paths that are not bad
pub record IsFrom (plan : Result (List Step) OpFault) (tests : Tests) (spent : Bool) (steps : List Step) : Type 0 where
  pub is : plan ≡ plan_from false tests spent steps

pub answer_refused : {plan : Result (List Step) OpFault} {tests : Tests} {spent : Bool} {steps : List Step} → IsFrom plan tests spent steps → (found : Tests) (r : Option OpFault) (f : OpFault)
    → found ≡ tests → r ≡ first_refusal (listed found) → r ≡ Some f → plan ≡ Err f
answer_refused {plan} {tests} {spent} {steps} from found r f same is e = from.is ∙ from_refused false tests spent steps f refl (ap (λ t. first_refusal (listed t)) (sym same) ∙ sym is ∙ e)

pub answer_spent : {plan : Result (List Step) OpFault} {tests : Tests} {spent : Bool} {steps : List Step} → IsFrom plan tests spent steps → (found : Tests) (r : Option OpFault) (b : Bool)
    → found ≡ tests → r ≡ first_refusal (listed found) → r ≡ None → b ≡ spent → b ≡ true → plan ≡ Err refused.Exhausted
answer_spent {plan} {tests} {spent} {steps} from found r b same is e b_is is_b = from.is ∙ from_spent false tests spent steps refl (ap (λ t. first_refusal (listed t)) (sym same) ∙ sym is ∙ e) (sym b_is ∙ is_b)

pub answer_none : {plan : Result (List Step) OpFault} {tests : Tests} {spent : Bool} {steps : List Step} → IsFrom plan tests spent steps → (found : Tests) (r : Option OpFault) (b : Bool) (items : List Step)
    → found ≡ tests → r ≡ first_refusal (listed found) → r ≡ None → b ≡ spent → b ≡ false → items ≡ steps → plan ≡ Ok items
answer_none {plan} {tests} {spent} {steps} from found r b items same is e b_is is_b are =
    from.is ∙ from_none false tests spent steps refl (ap (λ t. first_refusal (listed t)) (sym same) ∙ sym is ∙ e) (sym b_is ∙ is_b) ∙ ap Ok (sym are)

pub bad_plan : (page : ℕ) (x : Indexed) (o : Op) → has_bad_path o ≡ true → planned_by page x o ≡ Err refused.BadPath
bad_plan page x o e = planned_from page x o ∙ from_bad (has_bad_path o) (tests_of x.tree o) (is_exhausted page x o) (steps_of page x.tree o) e

pub good_both : (old new : List ℕ) → is_bad_path old ≡ false → is_bad_path new ≡ false → (is_bad_path old || (is_bad_path new || false)) ≡ false
good_both old new e f = ap (λ b. b || (is_bad_path new || false)) e ∙ ap (λ b. b || false) f

pub removed_from : (page : ℕ) (x : Indexed) (time : ℕ) (path : List ℕ) (site : Site) (dir : ℕ) → IsSiteOf x.tree path site → dir ≡ end_or_zero site.above → dir ≤ 0xFFFFFFFF
    → IsFrom (planned_by page x (op.Remove time path)) (removed_tests x.tree site.is_long site.above site.number) (nat_lt 0xFFFFFFFF (top_at x.tops dir + 1)) (step.ClearName time dir site.last.now ∷ [])
removed_from page x time path site dir has e le =
    let same : parent x.tree path ≡ dir = ap end_or_zero (sym has.above) ∙ sym e in
    record {
      is = planned_from page x (op.Remove time path)
          ∙ plan_same (list_any is_bad_path (paths (op.Remove time path))) false (tests_of x.tree (op.Remove time path)) (removed_tests x.tree site.is_long site.above site.number)
          (is_exhausted page x (op.Remove time path)) (nat_lt 0xFFFFFFFF (top_at x.tops dir + 1))
          (steps_of page x.tree (op.Remove time path)) (step.ClearName time dir site.last.now ∷ [])
          (or_none (is_bad_path path) ∙ has.good)
          (removed_same x.tree path site time has)
          (ap (λ p. (nat_lt 0xFFFFFFFF (top_at x.tops p + 1) || nat_lt 0xFFFFFFFF p) || false) same ∙ past_one (top_at x.tops dir + 1) dir le)
          (ap (λ p. step.ClearName time p (last_name path) ∷ []) same ∙ ap (λ l. step.ClearName time dir l ∷ []) (sym has.last));
    }

-- what applies to a further name, by the parts of both its paths
abbrev named_parts : Outline → Bool → Result ℕ FindFault → Option ℕ → Bool → Result ℕ FindFault → Option ℕ → Bool → Bool → Tests
named_parts t long at number new_long new_at new_number kind into = record {
  is_long = long || new_long;
  is_not_found = (meets_nothing at || meets_nothing new_at) || missing_at t at number;
  is_not_directory = meets_other t at || meets_other t new_at;
  exists = is_some new_number;
  is_wrong_kind = kind;
  is_not_empty = false;
  is_into_itself = into;
  is_too_large = false;
  is_bad_mode = false;
  is_bad_target = false;
}

named_sites : (t : Outline) (old new : List ℕ) (from to : Site) (kind into : Bool) → IsSiteOf t old from → IsSiteOf t new to
    → named_parts t (is_long old) (above t old) (number_there t old) (is_long new) (above t new) (number_there t new) kind into ≡ named_tests t from to kind into
named_sites t old new from to kind into is_from is_to =
    ap (λ b. named_parts t b (above t old) (number_there t old) (is_long new) (above t new) (number_there t new) kind into) (sym is_from.long)
    ∙ ap (λ r. named_parts t from.is_long r (number_there t old) (is_long new) (above t new) (number_there t new) kind into) (sym is_from.above)
    ∙ ap (λ n. named_parts t from.is_long from.above n (is_long new) (above t new) (number_there t new) kind into) (sym is_from.number)
    ∙ ap (λ b. named_parts t from.is_long from.above from.number b (above t new) (number_there t new) kind into) (sym is_to.long)
    ∙ ap (λ r. named_parts t from.is_long from.above from.number to.is_long r (number_there t new) kind into) (sym is_to.above)
    ∙ ap (λ n. named_parts t from.is_long from.above from.number to.is_long to.above n kind into) (sym is_to.number)

link_same : (t : Outline) (old new : List ℕ) (time : ℕ)
    → tests_of t (op.Link time old new) ≡ named_parts t (is_long old) (above t old) (number_there t old) (is_long new) (above t new) (number_there t new) (has_bits directory_bits (object_named t old)) false
link_same t old new time = simp (or_none) refl

rename_same : (t : Outline) (old new : List ℕ) (time : ℕ)
    → tests_of t (op.Rename time old new) ≡ named_parts t (is_long old) (above t old) (number_there t old) (is_long new) (above t new) (number_there t new) false (into_itself_at t (number_there t old) new)
rename_same t old new time = simp (or_none) refl

pub link_from : (page : ℕ) (x : Indexed) (time : ℕ) (old new : List ℕ) (from to : Site) (kind : Bool) (dir ino : ℕ) → IsSiteOf x.tree old from → IsSiteOf x.tree new to
    → kind ≡ has_bits directory_bits (option_and_then (object x.tree) from.number) → dir ≡ end_or_zero to.above → dir ≤ 0xFFFFFFFF → ino ≡ unwrap_or from.number 0
    → IsFrom (planned_by page x (op.Link time old new)) (named_tests x.tree from to kind false) (nat_lt 0xFFFFFFFF (top_at x.tops dir + 1)) (step.SetName time dir to.last.now ino ∷ [])
link_from page x time old new from to kind dir ino is_from is_to kind_is e le ino_is =
    let same : parent x.tree new ≡ dir = ap end_or_zero (sym is_to.above) ∙ sym e in
    let same_ino : number_or_zero x.tree old ≡ ino = ap (λ (n : Option ℕ). unwrap_or n 0) (sym is_from.number) ∙ sym ino_is in
    let bits : has_bits directory_bits (object_named x.tree old) ≡ kind = ap (λ (n : Option ℕ). has_bits directory_bits (option_and_then (object x.tree) n)) (sym is_from.number) ∙ sym kind_is in
    record {
      is = planned_from page x (op.Link time old new)
          ∙ plan_same (list_any is_bad_path (paths (op.Link time old new))) false (tests_of x.tree (op.Link time old new)) (named_tests x.tree from to kind false)
          (is_exhausted page x (op.Link time old new)) (nat_lt 0xFFFFFFFF (top_at x.tops dir + 1))
          (steps_of page x.tree (op.Link time old new)) (step.SetName time dir to.last.now ino ∷ [])
          (good_both old new is_from.good is_to.good)
          (link_same x.tree old new time
          ∙ ap (λ b. named_parts x.tree (is_long old) (above x.tree old) (number_there x.tree old) (is_long new) (above x.tree new) (number_there x.tree new) b false) bits
          ∙ named_sites x.tree old new from to kind false is_from is_to)
          (ap (λ p. (nat_lt 0xFFFFFFFF (top_at x.tops p + 1) || nat_lt 0xFFFFFFFF p) || false) same ∙ past_one (top_at x.tops dir + 1) dir le)
          (ap (λ p. step.SetName time p (last_name new) (number_or_zero x.tree old) ∷ []) same ∙ ap (λ l. step.SetName time dir l (number_or_zero x.tree old) ∷ []) (sym is_to.last)
          ∙ ap (λ i. step.SetName time dir to.last.now i ∷ []) same_ino);
    }

-- ---- a new object

made_sites : (t : Outline) (path : List ℕ) (site : Site) (mode link : Bool) → IsSiteOf t path site
    → made_tests t (is_long path) (above t path) (number_there t path) mode link ≡ made_tests t site.is_long site.above site.number mode link
made_sites t path site mode link has =
    ap (λ b. made_tests t b (above t path) (number_there t path) mode link) (sym has.long)
    ∙ ap (λ r. made_tests t site.is_long r (number_there t path) mode link) (sym has.above)
    ∙ ap (λ n. made_tests t site.is_long site.above n mode link) (sym has.number)

own_next : (b : Bool) (o : Option ℕ) → nat_lt 0xFFFFFFFF (unwrap_or (cond b (Some 1) o) 0 + 1) ≡ (not b && nat_lt 0xFFFFFFFF (unwrap_or o 0 + 1))
own_next true o = refl
own_next false o = refl

full_is : (x : Indexed) (time p mode uid gid : ℕ) (name target : List ℕ) → p ≤ 0xFFFFFFFF
    → list_any is_past (nodes_of x (step.MakeObject time mode uid gid target ∷ step.SetName time p name x.tree.next ∷ [])) ≡ full_by x p
full_is x time p mode uid gid name target le =
    ap (λ b. nat_lt 0xFFFFFFFF x.tree.next || b)
    (past_one (top_at (insert x.tops x.tree.next 1) p + 1) p le
    ∙ ap (λ (o : Option ℕ). nat_lt 0xFFFFFFFF (unwrap_or o 0 + 1)) (get-insert nat_cmp_total x.tops x.tree.next 1 p)
    ∙ own_next (eq_by_cmp nat_cmp p x.tree.next) (get x.tops p)
    ∙ ap (λ b. not b && nat_lt 0xFFFFFFFF (top_at x.tops p + 1)) (unsigned_tied p x.tree.next))

pub made_from : (x : Indexed) (time : ℕ) (path : List ℕ) (kind mode uid gid : ℕ) (target : List ℕ) (link : Bool) (site : Site) (dir whole next : ℕ) → IsSiteOf x.tree path site
    → dir ≡ end_or_zero site.above → dir ≤ 0xFFFFFFFF → whole ≡ kind + mode → next ≡ x.tree.next
    → IsFrom (made_plan x time path (new_of kind mode uid gid target) link) (made_tests x.tree site.is_long site.above site.number (nat_lt 0o7777 mode) link) (full_by x dir)
    (step.MakeObject time whole uid gid target ∷ step.SetName time dir site.last.now next ∷ [])
made_from x time path kind mode uid gid target link site dir whole next has e le whole_is next_is =
    let same : parent x.tree path ≡ dir = ap end_or_zero (sym has.above) ∙ sym e in
    record {
      is = plan_same (is_bad_path path) false (made_tests x.tree (is_long path) (above x.tree path) (number_there x.tree path) (nat_lt 0o7777 mode) link)
          (made_tests x.tree site.is_long site.above site.number (nat_lt 0o7777 mode) link)
          (list_any is_past (nodes_of x (make_steps x.tree time path (kind + mode) uid gid target))) (full_by x dir)
          (make_steps x.tree time path (kind + mode) uid gid target) (step.MakeObject time whole uid gid target ∷ step.SetName time dir site.last.now next ∷ [])
          has.good
          (made_sites x.tree path site (nat_lt 0o7777 mode) link has)
          (ap (λ p. list_any is_past (nodes_of x (step.MakeObject time (kind + mode) uid gid target ∷ step.SetName time p (last_name path) x.tree.next ∷ []))) same
          ∙ full_is x time dir (kind + mode) uid gid (last_name path) target le)
          (ap (λ p. step.MakeObject time (kind + mode) uid gid target ∷ step.SetName time p (last_name path) x.tree.next ∷ []) same
          ∙ ap (λ l. step.MakeObject time (kind + mode) uid gid target ∷ step.SetName time dir l x.tree.next ∷ []) (sym has.last)
          ∙ ap (λ m. step.MakeObject time m uid gid target ∷ step.SetName time dir site.last.now x.tree.next ∷ []) (sym whole_is)
          ∙ ap (λ n. step.MakeObject time whole uid gid target ∷ step.SetName time dir site.last.now n ∷ []) (sym next_is));
    }

made_as : (page : ℕ) (x : Indexed) (o : Op) (path : List ℕ) (mode link : Bool) → has_bad_path o ≡ is_bad_path path
    → tests_of x.tree o ≡ made_tests x.tree (is_long path) (above x.tree path) (number_there x.tree path) mode link
    → planned_by page x o ≡ plan_from (is_bad_path path) (made_tests x.tree (is_long path) (above x.tree path) (number_there x.tree path) mode link) (is_exhausted page x o) (steps_of page x.tree o)
made_as page x o path mode link e f =
    planned_from page x o
    ∙ plan_same (has_bad_path o) (is_bad_path path) (tests_of x.tree o) (made_tests x.tree (is_long path) (above x.tree path) (number_there x.tree path) mode link)
    (is_exhausted page x o) (is_exhausted page x o) (steps_of page x.tree o) (steps_of page x.tree o) e f refl refl

pub mkdir_made : (page : ℕ) (x : Indexed) (time : ℕ) (path : List ℕ) (mode uid gid : ℕ) → planned_by page x (op.Mkdir time path mode uid gid) ≡ made_plan x time path (new_of 0o040000 mode uid gid []) false
mkdir_made page x time path mode uid gid = made_as page x (op.Mkdir time path mode uid gid) path (nat_lt 0o7777 mode) false (or_none (is_bad_path path)) (simp (or_none) refl)

pub create_made : (page : ℕ) (x : Indexed) (time : ℕ) (path : List ℕ) (mode uid gid : ℕ) → planned_by page x (op.Create time path mode uid gid) ≡ made_plan x time path (new_of 0o100000 mode uid gid []) false
create_made page x time path mode uid gid = made_as page x (op.Create time path mode uid gid) path (nat_lt 0o7777 mode) false (or_none (is_bad_path path)) (simp (or_none) refl)

pub device_made : (page : ℕ) (x : Indexed) (time : ℕ) (path : List ℕ) (kind : DeviceKind) (mode uid gid : ℕ) (number : List ℕ)
    → planned_by page x (op.Device time path kind mode uid gid number) ≡ made_plan x time path (new_of (device_mode kind) mode uid gid number) false
device_made page x time path kind mode uid gid number = made_as page x (op.Device time path kind mode uid gid number) path (nat_lt 0o7777 mode) false (or_none (is_bad_path path)) (simp (or_none) refl)

pub fifo_made : (page : ℕ) (x : Indexed) (time : ℕ) (path : List ℕ) (mode uid gid : ℕ) → planned_by page x (op.Fifo time path mode uid gid) ≡ made_plan x time path (new_of 0o010000 mode uid gid []) false
fifo_made page x time path mode uid gid = made_as page x (op.Fifo time path mode uid gid) path (nat_lt 0o7777 mode) false (or_none (is_bad_path path)) (simp (or_none) refl)

pub socket_made : (page : ℕ) (x : Indexed) (time : ℕ) (path : List ℕ) (mode uid gid : ℕ) → planned_by page x (op.Socket time path mode uid gid) ≡ made_plan x time path (new_of 0o140000 mode uid gid []) false
socket_made page x time path mode uid gid = made_as page x (op.Socket time path mode uid gid) path (nat_lt 0o7777 mode) false (or_none (is_bad_path path)) (simp (or_none) refl)

pub symlink_made : (page : ℕ) (x : Indexed) (time : ℕ) (path link : List ℕ) (uid gid : ℕ)
    → planned_by page x (op.Symlink time path link uid gid) ≡ made_plan x time path (new_of 0o120000 0o777 uid gid link) (is_bad_target (op.Symlink time path link uid gid))
symlink_made page x time path link uid gid =
    made_as page x (op.Symlink time path link uid gid) path false (is_bad_target (op.Symlink time path link uid gid)) (or_none (is_bad_path path)) (same (is_bad_target (op.Symlink time path link uid gid)))
  where
    same : (bad : Bool) → tests_of x.tree (op.Symlink time path link uid gid) ≡ made_tests x.tree (is_long path) (above x.tree path) (number_there x.tree path) false (is_bad_target (op.Symlink time path link uid gid))
    same bad = simp (or_none) refl

-- the plan of an object without data, by what its kind, path and origin are
pub given_by : (r : Result (Vec Step Global) OpFault) (q : Result (List Step) OpFault) (x : Indexed) (k kind : ℕ) (p path t : List ℕ) (o origin : Origin)
    → GivesPlan r (made_plan x o.time p (new_of k o.mode o.uid o.gid t) false) → k ≡ kind → p ≡ path → t ≡ [] → o ≡ origin
    → q ≡ made_plan x origin.time path (new_of kind origin.mode origin.uid origin.gid []) false → GivesPlan r q
given_by r q x k kind p path t o origin g ek ep et eo e =
    subst (GivesPlan r) (sym e) (subst (λ (o : Origin). GivesPlan r (made_plan x o.time path (new_of kind o.mode o.uid o.gid []) false)) eo
    (subst (λ (t : List ℕ). GivesPlan r (made_plan x o.time path (new_of kind o.mode o.uid o.gid t) false)) et
    (subst (λ (p : List ℕ). GivesPlan r (made_plan x o.time p (new_of kind o.mode o.uid o.gid t) false)) ep
    (subst (λ (k : ℕ). GivesPlan r (made_plan x o.time p (new_of k o.mode o.uid o.gid t) false)) ek g))))

pub given_as : (r : Result (Vec Step Global) OpFault) (p q : Result (List Step) OpFault) → GivesPlan r p → q ≡ p → GivesPlan r q
given_as r p q g e = subst (GivesPlan r) (sym e) g

-- ---- another name

next_of : (b : Bool) (o : Option ℕ) (t : ℕ) → (b ≡ true → t ≡ unwrap_or o 0) → nat_lt 0xFFFFFFFF (unwrap_or (cond b (Some (t + 1)) o) 0 + 1) ≡ nat_lt 0xFFFFFFFF (unwrap_or o 0 + cond b 2 1)
next_of true o t h = let same : t ≡ unwrap_or o 0 = h refl in let two : t + 1 + 1 ≡ unwrap_or o 0 + 2 = omega arith in ap (nat_lt 0xFFFFFFFF) two
next_of false o t h = refl

pub renamed_spent : (x : Indexed) (dir left : ℕ) → dir ≤ 0xFFFFFFFF → left ≤ 0xFFFFFFFF
    → ((nat_lt 0xFFFFFFFF (top_at x.tops dir + 1) || nat_lt 0xFFFFFFFF dir) || ((nat_lt 0xFFFFFFFF (top_at (insert x.tops dir (top_at x.tops dir + 1)) left + 1) || nat_lt 0xFFFFFFFF left) || false)) ≡ spent_by x dir left
renamed_spent x dir left le le_2 =
    let a = nat_lt 0xFFFFFFFF (top_at x.tops dir + 1) in
    let t = top_at x.tops dir + 1 in
    let b = (nat_lt 0xFFFFFFFF (top_at (insert x.tops dir t) left + 1) || nat_lt 0xFFFFFFFF left) || false in
    ap (λ c. (a || c) || b) (not_past dir le)
    ∙ ap (λ c. c || b) (or_none a)
    ∙ ap (λ c. a || c) (past_one (top_at (insert x.tops dir t) left + 1) left le_2
    ∙ ap (λ (o : Option ℕ). nat_lt 0xFFFFFFFF (unwrap_or o 0 + 1)) (get-insert nat_cmp_total x.tops dir t left)
    ∙ ap (λ c. nat_lt 0xFFFFFFFF (unwrap_or (cond c (Some t) (get x.tops left)) 0 + 1)) (unsigned_tied left dir)
    ∙ next_of (left == dir) (get x.tops left) (top_at x.tops dir) (λ e. ap (top_at x.tops) (sym (eqb-true left dir e))))

pub rename_from : (page : ℕ) (x : Indexed) (time : ℕ) (old new : List ℕ) (from to : Site) (into : Bool) (dir left ino : ℕ) → IsSiteOf x.tree old from → IsSiteOf x.tree new to
    → into ≡ into_itself_at x.tree from.number new → dir ≡ end_or_zero to.above → dir ≤ 0xFFFFFFFF → left ≡ end_or_zero from.above → left ≤ 0xFFFFFFFF → ino ≡ unwrap_or from.number 0
    → IsFrom (planned_by page x (op.Rename time old new)) (named_tests x.tree from to false into) (spent_by x dir left)
    (step.SetName time dir to.last.now ino ∷ step.ClearName time left from.last.now ∷ [])
rename_from page x time old new from to into dir left ino is_from is_to into_is e le e_left le_left ino_is =
    let same : parent x.tree new ≡ dir = ap end_or_zero (sym is_to.above) ∙ sym e in
    let same_left : parent x.tree old ≡ left = ap end_or_zero (sym is_from.above) ∙ sym e_left in
    let same_ino : number_or_zero x.tree old ≡ ino = ap (λ (n : Option ℕ). unwrap_or n 0) (sym is_from.number) ∙ sym ino_is in
    let same_into : into_itself_at x.tree (number_there x.tree old) new ≡ into = ap (λ (n : Option ℕ). into_itself_at x.tree n new) (sym is_from.number) ∙ sym into_is in
    record {
      is = planned_from page x (op.Rename time old new)
          ∙ plan_same (list_any is_bad_path (paths (op.Rename time old new))) false (tests_of x.tree (op.Rename time old new)) (named_tests x.tree from to false into)
          (is_exhausted page x (op.Rename time old new)) (spent_by x dir left)
          (steps_of page x.tree (op.Rename time old new)) (step.SetName time dir to.last.now ino ∷ step.ClearName time left from.last.now ∷ [])
          (good_both old new is_from.good is_to.good)
          (rename_same x.tree old new time
          ∙ ap (λ b. named_parts x.tree (is_long old) (above x.tree old) (number_there x.tree old) (is_long new) (above x.tree new) (number_there x.tree new) false b) same_into
          ∙ named_sites x.tree old new from to false into is_from is_to)
          (ap (λ p. list_any is_past (nodes_of x (step.SetName time p (last_name new) (number_or_zero x.tree old) ∷ step.ClearName time (parent x.tree old) (last_name old) ∷ []))) same
          ∙ ap (λ p. list_any is_past (nodes_of x (step.SetName time dir (last_name new) (number_or_zero x.tree old) ∷ step.ClearName time p (last_name old) ∷ []))) same_left
          ∙ renamed_spent x dir left le le_left)
          (ap (λ p. step.SetName time p (last_name new) (number_or_zero x.tree old) ∷ step.ClearName time (parent x.tree old) (last_name old) ∷ []) same
          ∙ ap (λ p. step.SetName time dir (last_name new) (number_or_zero x.tree old) ∷ step.ClearName time p (last_name old) ∷ []) same_left
          ∙ ap (λ l. step.SetName time dir l (number_or_zero x.tree old) ∷ step.ClearName time left (last_name old) ∷ []) (sym is_to.last)
          ∙ ap (λ l. step.SetName time dir to.last.now (number_or_zero x.tree old) ∷ step.ClearName time left l ∷ []) (sym is_from.last)
          ∙ ap (λ i. step.SetName time dir to.last.now i ∷ step.ClearName time left from.last.now ∷ []) same_ino);
    }
