-- What is made has a way of directories that were made before.
use Rattle.std.proofs.Common.{◌≡◌, ℕ, Bool, true, false, List, [], ◌∷◌, ◌++◌, map, append-nil, append_assoc, refl, sym, ap, ◌∙◌, subst, inl, inr, ◌⊎◌, ⊎_elim, Option, Some, None, Result, Ok, Err, if◌then◌else◌, Contains}
use Rattle.std.specs.Prelude.{⊤, option_map}
use Rattle.std.specs.List.{flat_map}
use Rattle.std.proofs.lemmas.List.Elements.{Contains-append_left, Contains-append_right}
use Rattle.flashbase.proofs.MemberLemmas.{Contains-here, Contains-there}
use Rattle.jmount.specs.Tree.{State, ObjectOf, object, has_bits, directory_bits, is_directory, entries_in}
use Rattle.jmount.specs.Shown.{readable, shown}
use Rattle.jmount.specs.declared.object.Kind.{Kind}
use Rattle.jmount.specs.declared.object.Kind.TheVariants as kind
use Rattle.jmount.specs.declared.object.Object.{Object}
use Rattle.jextract.specs.Folders.{Made, Directory}
use Rattle.jextract.specs.Laws.{HasNames, HasWay, AreMadeBelow, MakesBelow, directory_at}
use Rattle.jextract.specs.Outcomes.{Task, Make, Complete, path_of_task, Outcome, FirstPaths, FollowsPlan, IsOutcomeOf, AreFirstOutcomes, attributes_of, plan_of, plan_made, firsts_after, tasks_after, todo_if, root_made, root_alone, tasks_of, tasks_in}
use Rattle.jextract.specs.Paths.{host_path, relative_path}
use Rattle.jextract.specs.declared.reason.Reason.{Reason}
use Rattle.jextract.proofs.InsideLemmas.{host_has, outcome_there, root_has}
use Rattle.jextract.proofs.WalkLemmas.{directory_is, kind_directory}

-- ---- the way to a path

way_more : (before more : List Made) (names : List (List ℕ)) → HasWay before names → HasWay (before ++ more) names
way_more before more names has way name rest is = Contains-append_left before more (directory_at way) (has way name rest is)

no_way : {X : Type 0} (way : List X) (name : X) (rest : List X) → [] ≡ way ++ name ∷ rest → ⊥
no_way [] name rest is = absurd (cc)
no_way (w ∷ way) name rest is = absurd (cc)

-- a beginning of a path and a name is the path or a beginning of it
beginning : {X : Type 0} (path way : List X) (last name : X) (rest : List X) → path ++ last ∷ [] ≡ way ++ name ∷ rest
    → (path ≡ way) ⊎ ((left : List X) × (path ≡ way ++ name ∷ left))
beginning [] [] last name rest is = inl refl
beginning {X} [] (w ∷ way) last name rest is = let tail : [] ≡ way ++ name ∷ rest = cc in absurd (no_way way name rest tail)
beginning (p ∷ path) [] last name rest is = let head : p ≡ name = cc in inr (path, ap (λ x. x ∷ path) head)
beginning (p ∷ path) (w ∷ way) last name rest is =
    let head : p ≡ w = cc in
    let tail : path ++ last ∷ [] ≡ way ++ name ∷ rest = cc in
    ⊎_elim (λ same. inl (ap (λ x. x ∷ path) head ∙ ap (λ l. w ∷ l) same))
    (λ more. inr (more.0, ap (λ x. x ∷ path) head ∙ ap (λ l. w ∷ l) more.1))
    (beginning path way last name rest tail)

way_name : (before : List Made) (path : List (List ℕ)) (last : List ℕ) → HasWay before path → Contains before (directory_at path) → HasWay before (path ++ last ∷ [])
way_name before path last has there way name rest is =
    ⊎_elim (λ (same : path ≡ way). subst (λ (w : List (List ℕ)). Contains before (directory_at w)) same there)
    (λ more. has way name more.0 more.1)
    (beginning path way last name rest is)

-- ---- what is still to be done

abbrev HaveWays : List Made → List Task → Type 0
HaveWays before [] = ⊤
HaveWays before (task ∷ todo) = HasWay before (path_of_task task) × HaveWays before todo

ways_more : (before more : List Made) (todo : List Task) → HaveWays before todo → HaveWays (before ++ more) todo
ways_more before more [] have = tt
ways_more before more (task ∷ todo) have = (way_more before more (path_of_task task) have.0, ways_more before more todo have.1)

ways_append : (before : List Made) (some todo : List Task) → HaveWays before some → HaveWays before todo → HaveWays before (some ++ todo)
ways_append before [] todo have rest = rest
ways_append before (task ∷ some) todo have rest = (have.0, ways_append before some todo have.1 rest)

ways_names : (before : List Made) (path : List (List ℕ)) (names : List (List ℕ × ℕ)) → HasWay before path → Contains before (directory_at path)
    → HaveWays before (map (λ e. Make (path ++ e.0 ∷ []) e.1) names)
ways_names before path [] has there = tt
ways_names before path (e ∷ names) has there = (way_name before path e.0 has there, ways_names before path names has there)

ways_in : (before : List Made) (s : State) (path : List (List ℕ)) (i : ℕ) → HasWay before path → Contains before (directory_at path) → HaveWays before (tasks_in s path i)
ways_in before s path i has there =
    ways_append before (tasks_of path (entries_in s i)) (Complete path i ∷ [])
    (ways_names before path (entries_in s i) has there) (has, tt)

-- ---- a directory that was made

no_directory : (x : Option (ObjectOf (List ℕ))) → option_map shown x ≡ None → has_bits directory_bits x ≡ true → ⊥
no_directory None gone is = absurd (cc)
no_directory (Some x) gone is = absurd (cc)

directory_made : (known : Option (List ℕ)) (path : Result (List ℕ) Reason) (names : List (List ℕ)) (bytes : List ℕ) (owners : Bool) (object : Object) (o : Outcome)
    → host_path names ≡ path → FollowsPlan path (plan_of known kind.Directory bytes (attributes_of owners object)) o → o.left_out ≡ None → o.deeds ≡ directory_at names ∷ []
directory_made None (Ok text) names bytes owners object o is (inl all) left =
    let same : text ≡ relative_path names = (host_has names text is).0 in
    all.0 ∙ ap (λ (t : List ℕ). let m : Made = record { path = t; deed = Directory } in m ∷ []) same
directory_made None (Ok text) names bytes owners object o is (inr part) left = let other = part.3 in absurd (cc)
directory_made None (Err why) names bytes owners object o is follows left = let other = follows.1 in absurd (cc)
directory_made (Some first) (Ok text) names bytes owners object o is follows left = let other = follows.1 in absurd (cc)
directory_made (Some first) (Err why) names bytes owners object o is follows left = let other = follows.1 in absurd (cc)

pub directory_alone : (s : State) (owners : Bool) (firsts : FirstPaths) (path : List (List ℕ)) (i : ℕ) (o : Outcome) → IsOutcomeOf s owners firsts (Make path i) o → o.left_out ≡ None
    → is_directory s i ≡ true → o.deeds ≡ directory_at path ∷ []
directory_alone s owners firsts path i o is left dir = by (option_map shown (object s i)) refl is.1
  where
    by : (x : Option Object) → option_map shown (object s i) ≡ x → FollowsPlan (host_path path) (plan_made s owners firsts i x) o → o.deeds ≡ directory_at path ∷ []
    by None e follows = absurd (no_directory (object s i) e dir)
    by (Some x) e follows =
        directory_made (firsts i) (host_path path) path (readable s i) owners x o refl
        (subst (λ (k : Kind). FollowsPlan (host_path path) (plan_of (firsts i) k (readable s i) (attributes_of owners x)) o)
        (kind_directory x.kind (sym (directory_is (object s i) x e) ∙ dir)) follows)
        left

directory_there : (s : State) (owners : Bool) (firsts : FirstPaths) (path : List (List ℕ)) (i : ℕ) (o : Outcome) → IsOutcomeOf s owners firsts (Make path i) o → o.left_out ≡ None
    → is_directory s i ≡ true → Contains o.deeds (directory_at path)
directory_there s owners firsts path i o is left dir =
    subst (λ (l : List Made). Contains l (directory_at path)) (sym (directory_alone s owners firsts path i o is left dir)) (Contains-here (directory_at path) [])

ways_after : (s : State) (owners : Bool) (firsts : FirstPaths) (task : Task) (o : Outcome) (todo : List Task) (before : List Made) → IsOutcomeOf s owners firsts task o
    → HasWay before (path_of_task task) → HaveWays before todo → HaveWays (before ++ o.deeds) (tasks_after s task o todo)
ways_after s owners firsts (Complete path i) o todo before is has have = ways_more before o.deeds todo have
ways_after s owners firsts (Make path i) o todo before is has have = by o.left_out refl
  where
    entered : o.left_out ≡ None → (b : Bool) → is_directory s i ≡ b → HaveWays (before ++ o.deeds) (if b then tasks_in s path i ++ todo else todo)
    entered left false d = ways_more before o.deeds todo have
    entered left true d =
        ways_append (before ++ o.deeds) (tasks_in s path i) todo
        (ways_in (before ++ o.deeds) s path i (way_more before o.deeds path has)
        (Contains-append_right before o.deeds (directory_at path) (directory_there s owners firsts path i o is left d)))
        (ways_more before o.deeds todo have)

    by : (why : Option Reason) → o.left_out ≡ why → HaveWays (before ++ o.deeds) (todo_if s path i why todo)
    by (Some why) left = ways_more before o.deeds todo have
    by None left = entered left (is_directory s i) refl

-- ---- what is made

below_deeds : (before : List Made) (names : List (List ℕ)) (deeds : List Made) → ((made : Made) → Contains deeds made → HasNames made.path names) → HasWay before names
    → AreMadeBelow before deeds
below_deeds before names [] each has = tt
below_deeds before names (made ∷ deeds) each has = (
  (names, each made (Contains-here made deeds), has),
  below_deeds (before ++ made ∷ []) names deeds (λ x there. each x (Contains-there made deeds x there)) (way_more before (made ∷ []) names has),
)

below_append : (before some more : List Made) → AreMadeBelow before some → AreMadeBelow (before ++ some) more → AreMadeBelow before (some ++ more)
below_append before [] more are rest = subst (λ (l : List Made). AreMadeBelow l more) (append-nil before) rest
below_append before (made ∷ some) more are rest = (
  are.0,
  below_append (before ++ made ∷ []) some more are.1 (subst (λ (l : List Made). AreMadeBelow l more) (sym (append_assoc before (made ∷ []) some)) rest),
)

below : (s : State) (owners : Bool) (firsts : FirstPaths) (todo : List Task) (outcomes : List Outcome) (before : List Made) → AreFirstOutcomes s owners firsts todo outcomes
    → HaveWays before todo → AreMadeBelow before (flat_map (λ o. o.deeds) outcomes)
below s owners firsts todo [] before are have = tt
below s owners firsts [] (o ∷ outcomes) before are have = absurd are
below s owners firsts (task ∷ todo) (o ∷ outcomes) before are have =
    below_append before o.deeds (flat_map (λ (x : Outcome). x.deeds) outcomes)
    (below_deeds before (path_of_task task) o.deeds (λ made there. outcome_there s owners firsts task o made are.0 there) have.0)
    (below s owners (firsts_after firsts task o) (tasks_after s task o todo) outcomes (before ++ o.deeds) are.1 (ways_after s owners firsts task o todo before are.0 have.0 have.1))

pub makes_below : MakesBelow
makes_below s owners outcomes are = (
  ([], root_has, λ way name rest is. absurd (no_way way name rest is)),
  below s owners root_alone (tasks_in s [] 1) outcomes (root_made ∷ []) are
      (ways_in (root_made ∷ []) s [] 1 (λ way name rest is. absurd (no_way way name rest is)) (Contains-here root_made [])),
)
