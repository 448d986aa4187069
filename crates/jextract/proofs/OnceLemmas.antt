-- At no path is a second object made: one task at most is still to be done there, or leads there.
use Rattle.std.proofs.Common.{◌≡◌, ℕ, zero, suc, ◌==◌, cond, Bool, true, false, List, [], ◌∷◌, ◌++◌, map, length, take, drop, take_all, append-nil, append_assoc, refl, sym, ap, ◌∙◌, subst, arith, inl, inr, ◌⊎◌, ⊎_elim, Option, Some, None, Result, Ok, Err, if◌then◌else◌, Contains}
use Rattle.std.specs.Prelude.{⊤, T, filter, is_some, option_map}
use Rattle.std.specs.Str.{bytes_eq}
use Rattle.std.specs.List.{flat_map, list_all}
use Rattle.std.specs.FinMap.{entries, entries_sorted}
use Rattle.std.specs.FinMap.Entries.{below_all, is_sorted}
use Rattle.std.proofs.lemmas.Bool.{eqb-true, false≢true}
use Rattle.std.proofs.lemmas.List.{map-append, take-append-drop, take-map}
use Rattle.std.proofs.lemmas.List.Elements.{filter-append, Contains-append_left}
use Rattle.std.proofs.lemmas.List.Sums.{AllPass-from_list_all}
use Rattle.std.proofs.lemmas.Option.{same_Some}
use Rattle.std.proofs.lemmas.Slice.Eq.{bytes_eq-Decides}
use Rattle.jname.specs.Live.{Key, key_cmp}
use Rattle.flashbase.proofs.MemberLemmas.{Contains-none, Contains-here, Contains-cases, Contains-map, Contains-map_from, Contains-filter, Contains-filter_from}
use Rattle.jname.proofs.SortedLemmas.{T_first, T_second}
use Rattle.jmount.specs.Find as find
use Rattle.jmount.specs.Find.{is_name}
use Rattle.jmount.specs.Shown.{readable, shown}
use Rattle.jmount.specs.Tree.{State, object, is_directory, entries_in}
use Rattle.jmount.specs.declared.object.Kind.{Kind}
use Rattle.jmount.specs.declared.object.Kind.TheVariants as kind
use Rattle.jmount.specs.declared.object.Object.{Object}
use Rattle.jmount.proofs.PathNameLemmas.{path_names_exactly}
use Rattle.jextract.specs.Extracts.{AreFirstTreeOutcomes}
use Rattle.jextract.specs.Cells.{Cells, cells_of}
use Rattle.jextract.specs.Folders.{Made, Deed, Directory, File, Content, Symlink, Link, Attributed}
use Rattle.jextract.specs.Laws.{HasNames, HasWay, AreMadeBelow, MakesOnce, MakesThroughDirectories, deeds_at, directory_at, is_one, is_of_directory}
use Rattle.jextract.specs.Outcomes.{Task, Make, Complete, path_of_task, Outcome, FirstPaths, Plan, Do, LeaveOut, FollowsPlan, IsOutcomeOf, AreFirstOutcomes, plan_of, plan_at, plan_made, plan_completed, attributes_of, is_target, firsts_after, tasks_after, todo_if, made_at, all_made, root_made, root_alone, tasks_of, tasks_in}
use Rattle.jextract.specs.Paths.{host_path, relative_path}
use Rattle.jextract.specs.declared.folder.Attributes.{Attributes}
use Rattle.jextract.specs.declared.reason.Reason.{Reason}
use Rattle.jextract.specs.declared.reason.Reason.TheVariants as reason
use Rattle.jextract.proofs.BelowLemmas.{directory_alone, makes_below}
use Rattle.jextract.proofs.InsideLemmas.{host_has, makes_inside}
use Rattle.jmount.proofs.DirectoryNameLemmas.{Others, names_among, others}

-- ---- the text of names

slash_before : (names : List (List ℕ)) → find.path_text names ≡ 47 ∷ relative_path names
slash_before [] = refl
slash_before (name ∷ names) = refl

names_found : (names : List (List ℕ)) → list_all is_name names ≡ true → find.path_names (47 ∷ relative_path names) ≡ Some names
names_found names are = (path_names_exactly (47 ∷ relative_path names) names).1 (sym (slash_before names), AllPass-from_list_all is_name names are)

same_names : (a b : List (List ℕ)) → list_all is_name a ≡ true → list_all is_name b ≡ true → relative_path a ≡ relative_path b → a ≡ b
same_names a b are is same =
    same_Some a b (sym (names_found a are) ∙ ap (λ (text : List ℕ). find.path_names (47 ∷ text)) same ∙ names_found b is)

-- ---- what is left of a path behind its beginning

bytes_same : (a b : List ℕ) → bytes_eq a b ≡ true → a ≡ b
bytes_same a b e = (bytes_eq-Decides a b).0 e

bytes_itself : (a b : List ℕ) → a ≡ b → bytes_eq a b ≡ true
bytes_itself a b e = (bytes_eq-Decides a b).1 e

bytes_other : (a b : List ℕ) → (a ≡ b → ⊥) → bytes_eq a b ≡ false
bytes_other a b differ = by (bytes_eq a b) refl
  where
    by : (t : Bool) → bytes_eq a b ≡ t → t ≡ false
    by true e = absurd (differ (bytes_same a b e))
    by false e = refl

abbrev rest_of : List (List ℕ) → List (List ℕ) → Option (List (List ℕ))
rest_of [] path = Some path
rest_of (n ∷ way) [] = None
rest_of (n ∷ way) (m ∷ path) = if bytes_eq n m then rest_of way path else None

whole_is : (way path : List (List ℕ)) → rest_of way path ≡ Some [] → way ≡ path
whole_is [] path e = sym (same_Some path [] e)
whole_is (n ∷ way) [] e = absurd (cc)
whole_is (n ∷ way) (m ∷ path) e = by (bytes_eq n m) refl e (whole_is way path)
  where
    by : (t : Bool) → bytes_eq n m ≡ t → (if t then rest_of way path else None) ≡ Some [] → (rest_of way path ≡ Some [] → way ≡ path) → n ∷ way ≡ m ∷ path
    by true same e rest = ap (λ x. x ∷ way) (bytes_same n m same) ∙ ap (λ l. m ∷ l) (rest e)
    by false other e rest = absurd (cc)

rest_itself : (way : List (List ℕ)) → rest_of way way ≡ Some []
rest_itself [] = refl
rest_itself (n ∷ way) =
    ap (λ (t : Bool). let r : Option (List (List ℕ)) = if t then rest_of way way else None in r) (bytes_itself n n refl) ∙ rest_itself way

not_whole : (way path : List (List ℕ)) (m : List ℕ) (rest : List (List ℕ)) → rest_of way path ≡ Some (m ∷ rest) → rest_of way path ≡ Some [] → ⊥
not_whole way path m rest r end = let no : m ∷ rest ≡ [] = same_Some (m ∷ rest) [] (sym r ∙ end) in absurd (cc)

not_there : (way path : List (List ℕ)) → rest_of way path ≡ None → rest_of way path ≡ Some [] → ⊥
not_there way path r end = let no : None ≡ Some [] = sym r ∙ end in absurd (cc)

abbrev rest_then : List ℕ → Option (List (List ℕ)) → Option (List (List ℕ))
rest_then name None = None
rest_then name (Some []) = None
rest_then name (Some (m ∷ rest)) = if bytes_eq name m then Some rest else None

rest_name : (way path : List (List ℕ)) (name : List ℕ) → rest_of (way ++ name ∷ []) path ≡ rest_then name (rest_of way path)
rest_name [] [] name = refl
rest_name [] (m ∷ path) name = refl
rest_name (n ∷ way) [] name = refl
rest_name (n ∷ way) (m ∷ path) name = by (bytes_eq n m) (rest_name way path name)
  where
    by : (t : Bool) → rest_of (way ++ name ∷ []) path ≡ rest_then name (rest_of way path)
        → (if t then rest_of (way ++ name ∷ []) path else None) ≡ rest_then name (if t then rest_of way path else None)
    by true rest = rest
    by false rest = refl

-- ---- the tasks that lead to a path

abbrev is_end : Option (List (List ℕ)) → Bool
is_end None = false
is_end (Some []) = true
is_end (Some (m ∷ rest)) = false

-- what a task makes is at this path or on the way to it, or it completes what is there
abbrev leads : List (List ℕ) → Task → Bool
leads path (Make way i) = is_some (rest_of way path)
leads path (Complete way i) = is_end (rest_of way path)

-- what was done at a path, and the tasks that lead there: there is one at most
abbrev Stands : List Deed → List Task → Type 0
Stands deeds [] = is_one deeds ≡ true
Stands deeds (Make way i ∷ []) = deeds ≡ []
Stands deeds (Complete way i ∷ []) = deeds ≡ Directory ∷ []
Stands deeds (Make way i ∷ next ∷ todo) = ⊥
Stands deeds (Complete way i ∷ next ∷ todo) = ⊥

make_last : (deeds : List Deed) (way : List (List ℕ)) (i : ℕ) (todo : List Task) → Stands deeds (Make way i ∷ todo) → (deeds ≡ []) × (todo ≡ [])
make_last deeds way i [] stands = (stands, refl)
make_last deeds way i (next ∷ todo) stands = absurd stands

complete_last : (deeds : List Deed) (way : List (List ℕ)) (i : ℕ) (todo : List Task) → Stands deeds (Complete way i ∷ todo) → (deeds ≡ Directory ∷ []) × (todo ≡ [])
complete_last deeds way i [] stands = (stands, refl)
complete_last deeds way i (next ∷ todo) stands = absurd stands

stands_one : (deeds : List Deed) (todo : List Task) → Stands deeds todo → is_one deeds ≡ true
stands_one deeds [] stands = stands
stands_one deeds (Make way i ∷ []) stands = ap is_one stands
stands_one deeds (Complete way i ∷ []) stands = ap is_one stands
stands_one deeds (Make way i ∷ next ∷ todo) stands = absurd stands
stands_one deeds (Complete way i ∷ next ∷ todo) stands = absurd stands

-- ---- the names of a directory differ

abbrev pub Differ : List (List ℕ × ℕ) → Type 0
Differ [] = ⊤
Differ (e ∷ es) = Others e.0 es × Differ es

differ : (dir : ℕ) (es : List (Key × ℕ)) → T (is_sorted key_cmp es) → Differ (names_among dir es)
differ dir [] sorted = tt
differ dir (e ∷ es) sorted = by (e.0.0 == dir) refl (differ dir es (T_second (below_all key_cmp e.0 es) (is_sorted key_cmp es) sorted))
  where
    by : (b : Bool) → (e.0.0 == dir) ≡ b → Differ (names_among dir es)
        → Differ (map (λ e. (e.0.1, e.1)) (cond b (e ∷ filter (λ e. e.0.0 == dir) es) (filter (λ e. e.0.0 == dir) es)))
    by true is rest = (others dir e.0 es (eqb-true e.0.0 dir is) (T_first (below_all key_cmp e.0 es) (is_sorted key_cmp es) sorted), rest)
    by false is rest = rest

pub names_differ : (s : State) (i : ℕ) → Differ (entries_in s i)
names_differ s i = differ i (entries s.names) (entries_sorted s.names)

-- ---- the names of a directory that lead to a path

module _ (way path : List (List ℕ)) where
  abbrev leads_by : List ℕ × ℕ → Bool
  leads_by e = leads path (Make (way ++ e.0 ∷ []) e.1)

  abbrev NoneLeads : List (List ℕ × ℕ) → Type 0
  NoneLeads [] = ⊤
  NoneLeads (e ∷ es) = (leads_by e ≡ false) × NoneLeads es

  none_of : (names : List (List ℕ × ℕ)) → NoneLeads names → filter (leads path) (tasks_of way names) ≡ []
  none_of [] none = refl
  none_of (e ∷ names) none =
      let others : List Task = filter (leads path) (tasks_of way names) in
      ap (λ (l : Bool). cond l (Make (way ++ e.0 ∷ []) e.1 ∷ others) others) none.0 ∙ none_of names none.1

  by_rest : (r : Option (List (List ℕ))) → rest_of way path ≡ r → (e : List ℕ × ℕ) → leads_by e ≡ is_some (rest_then e.0 r)
  by_rest r is e = ap is_some (rest_name way path e.0) ∙ ap (λ (x : Option (List (List ℕ))). is_some (rest_then e.0 x)) is

  none_apart : rest_of way path ≡ None → (names : List (List ℕ × ℕ)) → NoneLeads names
  none_apart is [] = tt
  none_apart is (e ∷ names) = (by_rest None is e, none_apart is names)

  none_here : rest_of way path ≡ Some [] → (names : List (List ℕ × ℕ)) → NoneLeads names
  none_here is [] = tt
  none_here is (e ∷ names) = (by_rest (Some []) is e, none_here is names)

  module _ (name : List ℕ) (rest : List (List ℕ)) (is : rest_of way path ≡ Some (name ∷ rest)) where
    abbrev step_by : Bool → Bool
    step_by same = let r : Option (List (List ℕ)) = if same then Some rest else None in is_some r

    leads_same : (e : List ℕ × ℕ) → leads_by e ≡ true → e.0 ≡ name
    leads_same e lead = by (bytes_eq e.0 name) refl (sym (by_rest (Some (name ∷ rest)) is e) ∙ lead)
      where
        by : (b : Bool) → bytes_eq e.0 name ≡ b → step_by b ≡ true → e.0 ≡ name
        by true same t = bytes_same e.0 name same
        by false other t = absurd (false≢true t)

    none_other : (names : List (List ℕ × ℕ)) → Others name names → NoneLeads names
    none_other [] other = tt
    none_other (e ∷ names) other = (
      by_rest (Some (name ∷ rest)) is e ∙ ap step_by (bytes_other e.0 name (λ same. other.0 (sym same))),
      none_other names other.1,
    )

    one_leads : (names : List (List ℕ × ℕ)) → Differ names → Stands [] (filter (leads path) (tasks_of way names))
    one_leads [] apart = refl
    one_leads (e ∷ names) apart = here (leads_by e) refl (one_leads names apart.1)
      where
        here : (l : Bool) → leads_by e ≡ l → Stands [] (filter (leads path) (tasks_of way names))
            → Stands [] (cond l (Make (way ++ e.0 ∷ []) e.1 ∷ filter (leads path) (tasks_of way names)) (filter (leads path) (tasks_of way names)))
        here true lead rest =
            subst (λ (l : List Task). Stands [] (Make (way ++ e.0 ∷ []) e.1 ∷ l))
            (sym (none_of names (none_other names (subst (λ (n : List ℕ). Others n names) (leads_same e lead) apart.0))))
            refl
        here false lead rest = rest

-- ---- what an outcome does at a path

deeds_append : (path : List ℕ) (some more : List Made) → deeds_at path (some ++ more) ≡ deeds_at path some ++ deeds_at path more
deeds_append path some more =
    let at : Made → Bool = λ made. bytes_eq made.path path in
    ap (map (λ (made : Made). made.deed)) (filter-append at some more) ∙ map-append (λ (made : Made). made.deed) (filter at some) (filter at more)

deeds_here : (path text : List ℕ) (deeds : List Deed) → text ≡ path → deeds_at path (made_at text deeds) ≡ deeds
deeds_here path text [] same = refl
deeds_here path text (deed ∷ deeds) same =
    let later : List Made = filter (λ made. bytes_eq made.path path) (made_at text deeds) in
    ap (λ (b : Bool). map (λ (made : Made). made.deed) (cond b (record { path = text; deed = deed } ∷ later) later)) (bytes_itself text path same)
    ∙ ap (λ l. deed ∷ l) (deeds_here path text deeds same)

deeds_away : (path text : List ℕ) (deeds : List Deed) → (text ≡ path → ⊥) → deeds_at path (made_at text deeds) ≡ []
deeds_away path text [] other = refl
deeds_away path text (deed ∷ deeds) other =
    let later : List Made = filter (λ made. bytes_eq made.path path) (made_at text deeds) in
    ap (λ (b : Bool). map (λ (made : Made). made.deed) (cond b (record { path = text; deed = deed } ∷ later) later)) (bytes_other text path other)
    ∙ deeds_away path text deeds other

abbrev pub deeds_of : Plan → List Deed
deeds_of (Do deeds) = deeds
deeds_of (LeaveOut why) = []

-- a beginning of what a plan says is done, at one path
abbrev pub IsBegun : Result (List ℕ) Reason → Plan → List Made → Type 0
IsBegun path plan made = (made ≡ []) ⊎ ((text : List ℕ) × (k : ℕ) × (path ≡ Ok text) × (made ≡ made_at text (take k (deeds_of plan))))

pub begun : (path : Result (List ℕ) Reason) (plan : Plan) (o : Outcome) → FollowsPlan path plan o → IsBegun path plan o.deeds
begun (Err why) plan o follows = inl follows.0
begun (Ok text) (LeaveOut why) o follows = inl follows.0
begun (Ok text) (Do deeds) o (inl all) = inr (text, length deeds, refl, all.0 ∙ ap (made_at text) (sym (take_all (length deeds) deeds (omega arith))))
begun (Ok text) (Do deeds) o (inr part) =
    inr (text, part.0, refl, part.2 ∙ take-map (λ (deed : Deed). let m : Made = record { path = text; deed = deed } in m) part.0 deeds)

done_away : (at : List ℕ) (path : Result (List ℕ) Reason) (plan : Plan) (made : List Made) → IsBegun path plan made
    → ((text : List ℕ) → path ≡ Ok text → text ≡ at → ⊥) → deeds_at at made ≡ []
done_away at path plan made (inl none) other = ap (deeds_at at) none
done_away at path plan made (inr some) other = ap (deeds_at at) some.3 ∙ deeds_away at some.0 (take some.1 (deeds_of plan)) (other some.0 some.2)

done_here : (at : List ℕ) (path : Result (List ℕ) Reason) (plan : Plan) (made : List Made) → IsBegun path plan made → ((text : List ℕ) → path ≡ Ok text → text ≡ at)
    → (k : ℕ) × (deeds_at at made ≡ take k (deeds_of plan))
done_here at path plan made (inl none) same = (0, ap (deeds_at at) none)
done_here at path plan made (inr some) same = (some.1, ap (deeds_at at) some.3 ∙ deeds_here at some.0 (take some.1 (deeds_of plan)) (same some.0 some.2))

-- a task that is not for this path does nothing there
away : (s : State) (owners : Bool) (firsts : FirstPaths) (task : Task) (o : Outcome) (path : List (List ℕ)) → list_all is_name path ≡ true
    → IsOutcomeOf s owners firsts task o → (rest_of (path_of_task task) path ≡ Some [] → ⊥) → deeds_at (relative_path path) o.deeds ≡ []
away s owners firsts task o path are is other =
    done_away (relative_path path) (host_path (path_of_task task)) (plan_at s owners firsts task) o.deeds
    (begun (host_path (path_of_task task)) (plan_at s owners firsts task) o is.1)
    (λ text known same.
    let has = host_has (path_of_task task) text known in
    let one : path_of_task task ≡ path = same_names (path_of_task task) path has.1 are (sym has.0 ∙ same) in
    other (subst (λ (p : List (List ℕ)). rest_of (path_of_task task) p ≡ Some []) one (rest_itself (path_of_task task))))

-- one that is for it does a beginning of what its plan says
here : (s : State) (owners : Bool) (firsts : FirstPaths) (task : Task) (o : Outcome) (path : List (List ℕ)) → IsOutcomeOf s owners firsts task o
    → rest_of (path_of_task task) path ≡ Some [] → (k : ℕ) × (deeds_at (relative_path path) o.deeds ≡ take k (deeds_of (plan_at s owners firsts task)))
here s owners firsts task o path is same =
    done_here (relative_path path) (host_path (path_of_task task)) (plan_at s owners firsts task) o.deeds
    (begun (host_path (path_of_task task)) (plan_at s owners firsts task) o is.1)
    (λ text known. (host_has (path_of_task task) text known).0 ∙ ap relative_path (whole_is (path_of_task task) path same))

-- ---- a plan makes one object

one_of : (deed : Deed) → is_one (deed ∷ []) ≡ true → (k : ℕ) → is_one (take k (deed ∷ [])) ≡ true
one_of deed is zero = refl
one_of deed is (suc zero) = is
one_of deed is (suc (suc k)) = is

two_of : (cells : Cells) (attributes : Attributes) (k : ℕ) → is_one (take k (File ∷ Content cells attributes ∷ [])) ≡ true
two_of cells attributes zero = refl
two_of cells attributes (suc zero) = refl
two_of cells attributes (suc (suc zero)) = refl
two_of cells attributes (suc (suc (suc k))) = refl

none_of_plan : (k : ℕ) → is_one (take k []) ≡ true
none_of_plan zero = refl
none_of_plan (suc k) = refl

symlink_one : (target : List ℕ) (attributes : Attributes) (k : ℕ) (b : Bool)
    → is_one (take k (deeds_of (if b then Do (Symlink target attributes ∷ []) else LeaveOut reason.BadTarget))) ≡ true
symlink_one target attributes k true = one_of (Symlink target attributes) refl k
symlink_one target attributes k false = none_of_plan k

plan_one : (known : Option (List ℕ)) (kind : Kind) (bytes : List ℕ) (attributes : Attributes) (k : ℕ)
    → is_one (take k (deeds_of (plan_of known kind bytes attributes))) ≡ true
plan_one None kind.Directory bytes attributes k = one_of Directory refl k
plan_one None kind.Regular bytes attributes k = two_of (cells_of bytes) attributes k
plan_one None kind.Symlink bytes attributes k = symlink_one bytes attributes k (is_target bytes)
plan_one (Some first) kind.Regular bytes attributes k = one_of (Link first) refl k
plan_one (Some first) kind.Symlink bytes attributes k = one_of (Link first) refl k
plan_one known kind bytes attributes k = none_of_plan k

made_one : (s : State) (owners : Bool) (firsts : FirstPaths) (i : ℕ) (o : Option Object) (k : ℕ) → is_one (take k (deeds_of (plan_made s owners firsts i o))) ≡ true
made_one s owners firsts i None k = none_of_plan k
made_one s owners firsts i (Some o) k = plan_one (firsts i) o.kind (readable s i) (attributes_of owners o) k

completed_one : (owners : Bool) (o : Option Object) (k : ℕ) → is_one (Directory ∷ take k (deeds_of (plan_completed owners o))) ≡ true
completed_one owners None zero = refl
completed_one owners None (suc k) = refl
completed_one owners (Some o) zero = refl
completed_one owners (Some o) (suc zero) = refl
completed_one owners (Some o) (suc (suc k)) = refl

-- ---- a task is done

tasks_filtered : (s : State) (path way : List (List ℕ)) (i : ℕ) (todo : List Task)
    → filter (leads path) (tasks_in s way i ++ todo)
    ≡ filter (leads path) (tasks_of way (entries_in s i)) ++ (filter (leads path) (Complete way i ∷ []) ++ filter (leads path) todo)
tasks_filtered s path way i todo =
    filter-append (leads path) (tasks_in s way i) todo
    ∙ ap (λ (l : List Task). l ++ filter (leads path) todo) (filter-append (leads path) (tasks_of way (entries_in s i)) (Complete way i ∷ []))
    ∙ append_assoc (filter (leads path) (tasks_of way (entries_in s i))) (filter (leads path) (Complete way i ∷ [])) (filter (leads path) todo)

stands_if : (s : State) (path way : List (List ℕ)) (i : ℕ) (todo : List Task) (deeds : List Deed) (left_out : Option Reason)
    → Stands deeds (filter (leads path) todo)
    → (left_out ≡ None → is_directory s i ≡ true → Stands deeds (filter (leads path) (tasks_in s way i ++ todo)))
    → Stands deeds (filter (leads path) (todo_if s way i left_out todo))
stands_if s path way i todo deeds (Some why) rest entered = rest
stands_if s path way i todo deeds None rest entered = by (is_directory s i) refl
  where
    by : (b : Bool) → is_directory s i ≡ b → Stands deeds (filter (leads path) (if b then tasks_in s way i ++ todo else todo))
    by true d = entered refl d
    by false d = rest

-- a directory that was entered: one task at most leads from it to a path
stands_entered : (s : State) (path way : List (List ℕ)) (i : ℕ) (todo names last rest : List Task) (deeds : List Deed)
    → filter (leads path) (tasks_of way (entries_in s i)) ≡ names → filter (leads path) (Complete way i ∷ []) ≡ last → filter (leads path) todo ≡ rest
    → Stands deeds (names ++ (last ++ rest)) → Stands deeds (filter (leads path) (tasks_in s way i ++ todo))
stands_entered s path way i todo names last rest deeds a b c stands =
    subst (Stands deeds) (sym (tasks_filtered s path way i todo
    ∙ ap (λ (l : List Task). l ++ (filter (leads path) (Complete way i ∷ []) ++ filter (leads path) todo)) a
    ∙ ap (λ (l : List Task). names ++ (l ++ filter (leads path) todo)) b ∙ ap (λ (l : List Task). names ++ (last ++ l)) c)) stands

Goes : State → List (List ℕ) → Task → Outcome → List Task → List Deed → List Deed → Type 0
Goes s path task o todo before more = Stands before (filter (leads path) (task ∷ todo)) → Stands (before ++ more) (filter (leads path) (tasks_after s task o todo))

no_more : (before more : List Deed) (todo : List Task) → more ≡ [] → Stands before todo → Stands (before ++ more) todo
no_more before more todo none stands = subst (λ (l : List Deed). Stands l todo) (sym (append-nil before) ∙ ap (λ l. before ++ l) (sym none)) stands

after_complete : (s : State) (owners : Bool) (firsts : FirstPaths) (way : List (List ℕ)) (i : ℕ) (o : Outcome) (todo : List Task) (path : List (List ℕ))
    (before : List Deed) → list_all is_name path ≡ true → IsOutcomeOf s owners firsts (Complete way i) o
    → Goes s path (Complete way i) o todo before (deeds_at (relative_path path) o.deeds)
unfolding Goes
after_complete s owners firsts way i o todo path before are is = by (rest_of way path) refl
  where
    by : (r : Option (List (List ℕ))) → rest_of way path ≡ r → Stands before (cond (is_end r) (Complete way i ∷ filter (leads path) todo) (filter (leads path) todo))
        → Stands (before ++ deeds_at (relative_path path) o.deeds) (filter (leads path) todo)
    by None r stands =
        no_more before (deeds_at (relative_path path) o.deeds) (filter (leads path) todo)
        (away s owners firsts (Complete way i) o path are is (not_there way path r)) stands
    by (Some (m ∷ rest)) r stands =
        no_more before (deeds_at (relative_path path) o.deeds) (filter (leads path) todo)
        (away s owners firsts (Complete way i) o path are is (not_whole way path m rest r)) stands
    by (Some []) r stands =
        let last = complete_last before way i (filter (leads path) todo) stands in
        let done = here s owners firsts (Complete way i) o path is r in
        subst (λ (l : List Task). Stands (before ++ deeds_at (relative_path path) o.deeds) l) (sym last.1)
        (ap (λ (d : List Deed). is_one (d ++ deeds_at (relative_path path) o.deeds)) last.0
        ∙ ap (λ (d : List Deed). is_one (Directory ∷ d)) done.1
        ∙ completed_one owners (option_map shown (object s i)) done.0)

after_make : (s : State) (owners : Bool) (firsts : FirstPaths) (way : List (List ℕ)) (i : ℕ) (o : Outcome) (todo : List Task) (path : List (List ℕ))
    (before : List Deed) → list_all is_name path ≡ true → IsOutcomeOf s owners firsts (Make way i) o
    → Goes s path (Make way i) o todo before (deeds_at (relative_path path) o.deeds)
unfolding Goes
after_make s owners firsts way i o todo path before are is = by (rest_of way path) refl
  where
    by : (r : Option (List (List ℕ))) → rest_of way path ≡ r → Stands before (cond (is_some r) (Make way i ∷ filter (leads path) todo) (filter (leads path) todo))
        → Stands (before ++ deeds_at (relative_path path) o.deeds) (filter (leads path) (todo_if s way i o.left_out todo))
    by None r stands =
        let now = no_more before (deeds_at (relative_path path) o.deeds) (filter (leads path) todo)
        (away s owners firsts (Make way i) o path are is (not_there way path r)) stands in
        stands_if s path way i todo (before ++ deeds_at (relative_path path) o.deeds) o.left_out now
        (λ left d.
        stands_entered s path way i todo [] [] (filter (leads path) todo) (before ++ deeds_at (relative_path path) o.deeds)
        (none_of way path (entries_in s i) (none_apart way path r (entries_in s i)))
        (ap (λ (x : Option (List (List ℕ))). let l : List Task = cond (is_end x) (Complete way i ∷ []) [] in l) r) refl now)
    by (Some (m ∷ rest)) r stands =
        let last = make_last before way i (filter (leads path) todo) stands in
        let nothing : before ++ deeds_at (relative_path path) o.deeds ≡ [] =
        ap (λ (d : List Deed). d ++ deeds_at (relative_path path) o.deeds) last.0
        ∙ away s owners firsts (Make way i) o path are is (not_whole way path m rest r) in
        subst (λ (d : List Deed). Stands d (filter (leads path) (todo_if s way i o.left_out todo))) (sym nothing)
        (stands_if s path way i todo [] o.left_out (subst (Stands []) (sym last.1) refl)
        (λ left d.
        stands_entered s path way i todo (filter (leads path) (tasks_of way (entries_in s i))) [] [] [] refl
        (ap (λ (x : Option (List (List ℕ))). let l : List Task = cond (is_end x) (Complete way i ∷ []) [] in l) r) last.1
        (subst (Stands []) (sym (append-nil (filter (leads path) (tasks_of way (entries_in s i)))))
        (one_leads way path m rest r (entries_in s i) (names_differ s i)))))
    by (Some []) r stands =
        let last = make_last before way i (filter (leads path) todo) stands in
        let done = here s owners firsts (Make way i) o path is r in
        let one : before ++ deeds_at (relative_path path) o.deeds ≡ deeds_at (relative_path path) o.deeds =
        ap (λ (d : List Deed). d ++ deeds_at (relative_path path) o.deeds) last.0 in
        subst (λ (d : List Deed). Stands d (filter (leads path) (todo_if s way i o.left_out todo))) (sym one)
        (stands_if s path way i todo (deeds_at (relative_path path) o.deeds) o.left_out
        (subst (Stands (deeds_at (relative_path path) o.deeds)) (sym last.1) (ap is_one done.1 ∙ made_one s owners firsts i (option_map shown (object s i)) done.0))
        (λ left d.
        stands_entered s path way i todo [] (Complete way i ∷ []) [] (deeds_at (relative_path path) o.deeds)
        (none_of way path (entries_in s i) (none_here way path r (entries_in s i)))
        (ap (λ (x : Option (List (List ℕ))). let l : List Task = cond (is_end x) (Complete way i ∷ []) [] in l) r) last.1
        (ap (deeds_at (relative_path path)) (directory_alone s owners firsts way i o is left d)
        ∙ deeds_here (relative_path path) (relative_path way) (Directory ∷ []) (ap relative_path (whole_is way path r)))))

stands_after : (s : State) (owners : Bool) (firsts : FirstPaths) (task : Task) (o : Outcome) (todo : List Task) (path : List (List ℕ))
    (before : List Deed) → list_all is_name path ≡ true → IsOutcomeOf s owners firsts task o → Goes s path task o todo before (deeds_at (relative_path path) o.deeds)
stands_after s owners firsts (Make way i) o todo path before are is = after_make s owners firsts way i o todo path before are is
stands_after s owners firsts (Complete way i) o todo path before are is = after_complete s owners firsts way i o todo path before are is

-- ---- the walk

once : (s : State) (owners : Bool) (firsts : FirstPaths) (todo : List Task) (outcomes : List Outcome) (path : List (List ℕ)) (before : List Deed)
    → list_all is_name path ≡ true → AreFirstOutcomes s owners firsts todo outcomes → Stands before (filter (leads path) todo)
    → is_one (before ++ deeds_at (relative_path path) (flat_map (λ o. o.deeds) outcomes)) ≡ true
unfolding Goes
once s owners firsts todo [] path before is are stands = ap is_one (append-nil before) ∙ stands_one before (filter (leads path) todo) stands
once s owners firsts [] (o ∷ outcomes) path before is are stands = absurd are
once s owners firsts (task ∷ todo) (o ∷ outcomes) path before is are stands =
    let more : List Deed = deeds_at (relative_path path) o.deeds in
    ap (λ (l : List Deed). is_one (before ++ l)) (deeds_append (relative_path path) o.deeds (flat_map (λ (x : Outcome). x.deeds) outcomes))
    ∙ ap is_one (sym (append_assoc before more (deeds_at (relative_path path) (flat_map (λ (x : Outcome). x.deeds) outcomes))))
    ∙ once s owners (firsts_after firsts task o) (tasks_after s task o todo) outcomes path (before ++ more) is are.1
    (stands_after s owners firsts task o todo path before is are.0 stands)

-- at the start the folder itself is made
stands_first : (s : State) (path : List (List ℕ)) → list_all is_name path ≡ true
    → Stands (deeds_at (relative_path path) (root_made ∷ [])) (filter (leads path) (tasks_in s [] 1))
stands_first s [] is =
    subst (Stands (Directory ∷ []))
    (sym (filter-append (leads []) (tasks_of [] (entries_in s 1)) (Complete [] 1 ∷ [])
    ∙ ap (λ (l : List Task). l ++ Complete [] 1 ∷ []) (none_of [] [] (entries_in s 1) (none_here [] [] refl (entries_in s 1)))))
    refl
stands_first s (name ∷ rest) is =
    let path : List (List ℕ) = name ∷ rest in
    let other : [] ≡ relative_path path → ⊥ = λ same. let no : [] ≡ name ∷ rest = same_names [] (name ∷ rest) refl is same in absurd (cc) in
    subst (λ (d : List Deed). Stands d (filter (leads path) (tasks_in s [] 1))) (sym (deeds_away (relative_path path) [] (Directory ∷ []) other))
    (subst (Stands []) (sym (filter-append (leads path) (tasks_of [] (entries_in s 1)) (Complete [] 1 ∷ [])))
    (subst (Stands []) (sym (append-nil (filter (leads path) (tasks_of [] (entries_in s 1)))))
    (one_leads [] path name rest refl (entries_in s 1) (names_differ s 1))))

once_at : (s : State) (owners : Bool) (outcomes : List Outcome) (names : List (List ℕ)) → list_all is_name names ≡ true → AreFirstTreeOutcomes s owners outcomes
    → is_one (deeds_at (relative_path names) (all_made outcomes)) ≡ true
once_at s owners outcomes names is are =
    ap is_one (deeds_append (relative_path names) (root_made ∷ []) (flat_map (λ (o : Outcome). o.deeds) outcomes))
    ∙ once s owners root_alone (tasks_in s [] 1) outcomes names (deeds_at (relative_path names) (root_made ∷ [])) is are (stands_first s names is)

done_at : (path : List ℕ) (all : List Made) (deed : Deed) → Contains (deeds_at path all) deed → (made : Made) × Contains all made × (made.path ≡ path)
done_at path all deed there =
    let from = Contains-map_from (λ (made : Made). made.deed) (filter (λ made. bytes_eq made.path path) all) deed there in
    let found = Contains-filter_from (λ (made : Made). bytes_eq made.path path) all from.0 from.1 in
    (from.0, found.0, bytes_same from.0.path path found.1)

whole_once : (s : State) (owners : Bool) (outcomes : List Outcome) (path : List ℕ) → AreFirstTreeOutcomes s owners outcomes → is_one (deeds_at path (all_made outcomes)) ≡ true
whole_once s owners outcomes path are = by (deeds_at path (all_made outcomes)) refl
  where
    by : (deeds : List Deed) → deeds_at path (all_made outcomes) ≡ deeds → is_one (deeds_at path (all_made outcomes)) ≡ true
    by [] is = ap is_one is
    by (deed ∷ deeds) is =
        let some = done_at path (all_made outcomes) deed (subst (λ (l : List Deed). Contains l deed) (sym is) (Contains-here deed deeds)) in
        let inside = makes_inside s owners outcomes some.0 are some.1 in
        subst (λ (text : List ℕ). is_one (deeds_at text (all_made outcomes)) ≡ true) (sym inside.1.0 ∙ some.2) (once_at s owners outcomes inside.0 inside.1.1 are)

front_one : (deeds more : List Deed) → is_one (deeds ++ more) ≡ true → is_one deeds ≡ true
front_one [] more one = refl
front_one (Directory ∷ []) more one = refl
front_one (Directory ∷ Attributed attributes ∷ []) more one = refl
front_one (File ∷ []) more one = refl
front_one (File ∷ Content cells attributes ∷ []) more one = refl
front_one (Symlink target attributes ∷ []) more one = refl
front_one (Link first ∷ []) more one = refl
front_one deeds more one = absurd (false≢true one)

pub makes_once : MakesOnce
makes_once s owners outcomes k path are =
    let all : List Made = all_made outcomes in
    front_one (deeds_at path (take k all)) (deeds_at path (drop k all))
    (ap is_one (sym (deeds_append path (take k all) (drop k all)))
    ∙ ap (λ (l : List Made). is_one (deeds_at path l)) (take-append-drop k all)
    ∙ whole_once s owners outcomes path are)

-- ---- what is done on the way to a path

deed_there : (path : List ℕ) (all : List Made) (made : Made) → Contains all made → made.path ≡ path → Contains (deeds_at path all) made.deed
deed_there path all made there at =
    Contains-map (λ (m : Made). m.deed) (filter (λ m. bytes_eq m.path path) all) made
    (Contains-filter (λ (m : Made). bytes_eq m.path path) all made (bytes_itself made.path path at) there)

way_of : (before all : List Made) (made : Made) → AreMadeBelow before all → Contains all made → (names : List (List ℕ))
    × HasNames made.path names × HasWay (before ++ all) names
way_of before [] made are there = absurd (Contains-none made there)
way_of before (first ∷ all) made are there =
    ⊎_elim
    (λ (is : first ≡ made). (
      are.0.0,
      subst (λ (m : Made). HasNames m.path are.0.0) is are.0.1,
      λ way name rest e. Contains-append_left before (first ∷ all) (directory_at way) (are.0.2 way name rest e),
    ))
    (λ later.
    let found = way_of (before ++ first ∷ []) all made are.1 later in
    (found.0, found.1, subst (λ (l : List Made). HasWay l found.0) (append_assoc before (first ∷ []) all) found.2))
    (Contains-cases first all made there)

pub only : (a b : Deed) → Contains (a ∷ []) b → a ≡ b
only a b there = ⊎_elim (λ is. is) (λ none. absurd (Contains-none b none)) (Contains-cases a [] b there)

of_directory : (deeds : List Deed) (deed : Deed) → is_one deeds ≡ true → Contains deeds Directory → Contains deeds deed → is_of_directory deed ≡ true
of_directory [] deed one made there = absurd (Contains-none deed there)
of_directory (Directory ∷ []) deed one made there = sym (ap is_of_directory (only Directory deed there))
of_directory (Directory ∷ Attributed attributes ∷ []) deed one made there =
    ⊎_elim (λ (is : Directory ≡ deed). sym (ap is_of_directory is)) (λ later. sym (ap is_of_directory (only (Attributed attributes) deed later)))
    (Contains-cases Directory (Attributed attributes ∷ []) deed there)
of_directory (File ∷ []) deed one made there = let no : File ≡ Directory = only File Directory made in absurd (cc)
of_directory (File ∷ Content cells attributes ∷ []) deed one made there =
    ⊎_elim (λ (no : File ≡ Directory). absurd (cc))
    (λ later. let no : Content cells attributes ≡ Directory = only (Content cells attributes) Directory later in absurd (cc))
    (Contains-cases File (Content cells attributes ∷ []) Directory made)
of_directory (Symlink target attributes ∷ []) deed one made there =
    let no : Symlink target attributes ≡ Directory = only (Symlink target attributes) Directory made in absurd (cc)
of_directory (Link first ∷ []) deed one made there = let no : Link first ≡ Directory = only (Link first) Directory made in absurd (cc)
of_directory deeds deed one made there = absurd (false≢true one)

pub makes_through_directories : MakesThroughDirectories
makes_through_directories s owners outcomes made other way name rest are there has besides at =
    let all : List Made = all_made outcomes in
    let found = way_of [] all made (makes_below s owners outcomes are) there in
    let same : found.0 ≡ way ++ name ∷ rest = same_names found.0 (way ++ name ∷ rest) found.1.1 has.1 (sym found.1.0 ∙ has.0) in
    let on_way : Contains all (directory_at way) = found.2 way name rest same in
    of_directory (deeds_at (relative_path way) all) other.deed (whole_once s owners outcomes (relative_path way) are)
    (deed_there (relative_path way) all (directory_at way) on_way refl) (deed_there (relative_path way) all other besides at)
