-- Where what is made lies.
use Rattle.std.proofs.Common.{◌≡◌, ℕ, ◌≤◌, Bool, true, false, nat_lt, List, [], ◌∷◌, length, take, drop, refl, ap, subst, arith, inl, inr, ⊎_elim, Result, Ok, Err, if◌then◌else◌, Contains}
use Rattle.std.specs.List.{flat_map, list_all}
use Rattle.std.specs.Str.{is_utf8}
use Rattle.std.proofs.lemmas.Bool.Decides.{nat_tests}
use Rattle.std.proofs.lemmas.Str.{is_utf8-from_IsUtf8}
use Rattle.std.proofs.lemmas.List.{take-append-drop}
use Rattle.std.proofs.lemmas.List.Elements.{Contains-append_left, Contains-append_cases}
use Rattle.flashbase.proofs.MemberLemmas.{Contains-none, Contains-cases, Contains-map_from}
use Rattle.jmount.specs.Tree.{State}
use Rattle.jmount.specs.Find.{is_name}
use Rattle.jextract.specs.Folders.{Made, Deed}
use Rattle.jextract.specs.Laws.{HasNames, MakesInside, WholeIsFirst}
use Rattle.jextract.specs.Outcomes.{Task, path_of_task, Outcome, FirstPaths, Plan, Do, LeaveOut, FollowsPlan, IsOutcomeOf, AreOutcomes, AreFirstOutcomes, plan_at, firsts_after, tasks_after, made_at, root_made, root_alone, tasks_in}
use Rattle.jextract.specs.Paths.{greatest_path, host_path, relative_path, text_if}
use Rattle.jextract.specs.declared.reason.Reason.{Reason}
use Rattle.jextract.specs.declared.reason.Reason.TheVariants as reason

-- ---- a path of the host

text_has : (names : List (List ℕ)) (text path : List ℕ) → text ≡ relative_path names → list_all is_name names ≡ true → text_if text ≡ Ok path → HasNames path names
text_has names text path at are is = by (nat_lt greatest_path (length text)) refl (is_utf8 text) refl is
  where
    by : (long : Bool) → nat_lt greatest_path (length text) ≡ long → (utf8 : Bool) → is_utf8 text ≡ utf8
        → (if long then Err reason.LongPath else if utf8 then Ok text else Err reason.NoText) ≡ Ok path → HasNames path names
    by true l utf8 u e = absurd (cc)
    by false l false u e = absurd (cc)
    by false l true u e =
        let same : text ≡ path = cc in
        let short : length text ≤ greatest_path = grind (arith, nat_tests) in
        subst (λ p. HasNames p names) same (at, are, short, u)

pub host_has : (names : List (List ℕ)) (path : List ℕ) → host_path names ≡ Ok path → HasNames path names
unfolding host_path
host_has names path is = by (list_all is_name names) refl is
  where
    by : (b : Bool) → list_all is_name names ≡ b → (if b then text_if (relative_path names) else Err reason.BadName) ≡ Ok path → HasNames path names
    by true are e = text_has names (relative_path names) path refl are e
    by false are e = absurd (cc)

-- ---- what an outcome made

made_there : (path : List ℕ) (deeds : List Deed) (made : Made) → Contains (made_at path deeds) made → path ≡ made.path
made_there path deeds made there = ap (λ (m : Made). m.path) (Contains-map_from (λ (deed : Deed). record { path = path; deed = deed }) deeds made there).2

in_beginning : (k : ℕ) (all : List Made) (made : Made) → Contains (take k all) made → Contains all made
in_beginning k all made there = subst (λ (l : List Made). Contains l made) (take-append-drop k all) (Contains-append_left (take k all) (drop k all) made there)

plan_there : (path : Result (List ℕ) Reason) (plan : Plan) (o : Outcome) (made : Made) → FollowsPlan path plan o → Contains o.deeds made → path ≡ Ok made.path
plan_there (Err why) plan o made follows there = absurd (Contains-none made (subst (λ (l : List Made). Contains l made) follows.0 there))
plan_there (Ok path) (LeaveOut why) o made follows there = absurd (Contains-none made (subst (λ (l : List Made). Contains l made) follows.0 there))
plan_there (Ok path) (Do deeds) o made (inl all) there = ap Ok (made_there path deeds made (subst (λ (l : List Made). Contains l made) all.0 there))
plan_there (Ok path) (Do deeds) o made (inr part) there =
    ap Ok (made_there path deeds made (in_beginning part.0 (made_at path deeds) made (subst (λ (l : List Made). Contains l made) part.2 there)))

pub outcome_there : (s : State) (owners : Bool) (firsts : FirstPaths) (task : Task) (o : Outcome) (made : Made) → IsOutcomeOf s owners firsts task o → Contains o.deeds made
    → HasNames made.path (path_of_task task)
outcome_there s owners firsts task o made is there =
    host_has (path_of_task task) made.path (plan_there (host_path (path_of_task task)) (plan_at s owners firsts task) o made is.1 there)

outcomes_there : (s : State) (owners : Bool) (firsts : FirstPaths) (todo : List Task) (outcomes : List Outcome) (made : Made) → AreFirstOutcomes s owners firsts todo outcomes
    → Contains (flat_map (λ o. o.deeds) outcomes) made → (names : List (List ℕ)) × HasNames made.path names
outcomes_there s owners firsts todo [] made are there = absurd (Contains-none made there)
outcomes_there s owners firsts [] (o ∷ outcomes) made are there = absurd are
outcomes_there s owners firsts (task ∷ todo) (o ∷ outcomes) made are there =
    ⊎_elim (λ here. (path_of_task task, outcome_there s owners firsts task o made are.0 here))
    (λ later. outcomes_there s owners (firsts_after firsts task o) (tasks_after s task o todo) outcomes made are.1 later)
    (Contains-append_cases o.deeds (flat_map (λ (x : Outcome). x.deeds) outcomes) made there)

pub root_has : HasNames [] []
root_has = (refl, refl, omega arith, is_utf8-from_IsUtf8 [] ([], (refl, refl)))

pub makes_inside : MakesInside
makes_inside s owners outcomes made are there =
    ⊎_elim (λ (here : root_made ≡ made). ([], subst (λ (m : Made). HasNames m.path []) here root_has))
    (λ later. outcomes_there s owners root_alone (tasks_in s [] 1) outcomes made are later)
    (Contains-cases root_made (flat_map (λ (x : Outcome). x.deeds) outcomes) made there)

-- ---- the whole is a first part

all_are_first : (s : State) (owners : Bool) (firsts : FirstPaths) (todo : List Task) (outcomes : List Outcome) → AreOutcomes s owners firsts todo outcomes
    → AreFirstOutcomes s owners firsts todo outcomes
all_are_first s owners firsts [] [] are = tt {0}
all_are_first s owners firsts [] (o ∷ outcomes) are = absurd (cc)
all_are_first s owners firsts (task ∷ todo) [] are = absurd are
all_are_first s owners firsts (task ∷ todo) (o ∷ outcomes) are =
    (are.0, all_are_first s owners (firsts_after firsts task o) (tasks_after s task o todo) outcomes are.1)

pub whole_is_first : WholeIsFirst
whole_is_first s owners outcomes are = all_are_first s owners root_alone (tasks_in s [] 1) outcomes are
