-- The directories that a walk enters, name by name; and that it enters each to which names lead.
use Rattle.std.proofs.Common.{◌≡◌, ◌≢◌, ℕ, zero, suc, ◌+◌, ◌≤◌, Bool, true, false, not, cond, List, [], ◌∷◌, ◌++◌, map, length, Option, Some, None, Result, Ok, Err, refl, sym, ap, ◌∙◌, subst, inl, inr, ◌⊎◌, ⊎_elim, arith}
use Rattle.std.specs.Prelude.{◌==◌, ◌&&◌, ◌||◌, Contains, OnOk, count_by, filter, is_none, is_some, option_and_then, option_map, reverse}
use Rattle.std.specs.BTreeMap.{BTreeMap, get}
use Rattle.std.specs.FinMap.{entries}
use Rattle.std.specs.List.{flat_map}
use Rattle.std.specs.Map.{lookup}
use Rattle.std.specs.Ordering.{nat_cmp, eq_by_cmp}
use Rattle.std.proofs.lemmas.Bool.{eqb-true, eq-eqb, false≢true, true≢false}
use Rattle.std.proofs.lemmas.Bool.Decides.{nat_tests}
use Rattle.std.proofs.lemmas.List.{append-nil, length-append, reverse-append}
use Rattle.std.proofs.lemmas.List.Elements.{Contains-append_left, Contains-append_right, Contains-append_cases, Contains-push_cases}
use Rattle.std.proofs.lemmas.List.Sums.{length-filter, sum_by-cons}
use Rattle.flashbase.proofs.ListLemmas.{count_apart}
use Rattle.flashbase.proofs.MemberLemmas.{Contains-none, Contains-here, Contains-there, Contains-cases, Contains-filter, Contains-filter_from}
use Rattle.jname.specs.Live.{Key}
use Rattle.jmount.specs.Shape.{IsSingle}
use Rattle.jmount.specs.Tree.{State, all_entries, entries_in, is_directory}
use Rattle.jmount.proofs.ShapingLemmas.{of_all}
use Rattle.jdamage.specs.Entered.{NameOf, entered, entered_from, entry_name, first_among, is_unmet, directory_names, unread_names}
use Rattle.jdamage.specs.Entering.{HoldNames, ReadsOneName, names_to_read}
use Rattle.jdamage.specs.declared.entered.Walk.{Walk}
use Rattle.jdamage.specs.Ways.{HeldName, LeadsUp, climbed, first_if, first_name, held_first, name_held, or_else, steps_at_most}
use Rattle.jdamage.proofs.WayLemmas.{first_noted, not_one}

-- ---- one more name

pub first_more : (met : List NameOf) (n : NameOf) (i : ℕ) → first_among (met ++ n ∷ []) i ≡ or_else (first_among met i) (cond (n.2 == i) (Some n) None)
first_more [] n i = refl
first_more (m ∷ met) n i = by (m.2 == i) (first_more met n i)
  where
    by : (b : Bool) → first_among (met ++ n ∷ []) i ≡ or_else (first_among met i) (cond (n.2 == i) (Some n) None)
        → cond b (Some m) (first_among (met ++ n ∷ []) i) ≡ or_else (cond b (Some m) (first_among met i)) (cond (n.2 == i) (Some n) None)
    by true later = refl
    by false later = later

pub holds_more : (met : List NameOf) (old new : BTreeMap ℕ HeldName) (n : HeldName) → HoldNames met old → is_some (get nat_cmp old n.2) ≡ false
    → ((q : ℕ) → get nat_cmp new q ≡ cond (eq_by_cmp nat_cmp n.2 q) (Some n) (get nat_cmp old q)) → HoldNames (met ++ name_held n ∷ []) new
holds_more met old new n held absent at i =
    first_noted old new n absent at i ∙ ap (λ (o : Option NameOf). or_else o (first_if i n)) (held i) ∙ sym (first_more met (name_held n) i)

-- whether a name of a number is held
held_none : (o : Option HeldName) (p : Option NameOf) → option_map name_held o ≡ p → is_none p ≡ not (is_some o)
held_none None p is = ap is_none (sym is)
held_none (Some n) p is = ap is_none (sym is)

pub unmet_by : (s : State) (met : List NameOf) (names : BTreeMap ℕ HeldName) (i : ℕ) → HoldNames met names
    → is_unmet s met i ≡ (is_directory s i && (not (i == 1) && not (is_some (get nat_cmp names i))))
unmet_by s met names i held = ap (λ (b : Bool). is_directory s i && (not (i == 1) && b)) (held_none (get nat_cmp names i) (first_among met i) (held i))

-- what is known of a number that was not met
pub both_left : (a b : Bool) → (a && b) ≡ true → a ≡ true
both_left true b is = refl
both_left false b is = is

pub both_right : (a b : Bool) → (a && b) ≡ true → b ≡ true
both_right true b is = is
both_right false b is = absurd (false≢true is)

not_false : (b : Bool) → not b ≡ true → b ≡ false
not_false true is = absurd (false≢true is)
not_false false is = refl

pub unmet_absent : (s : State) (met : List NameOf) (names : BTreeMap ℕ HeldName) (i : ℕ) → HoldNames met names → is_unmet s met i ≡ true → is_some (get nat_cmp names i) ≡ false
unmet_absent s met names i held is =
    let rest = both_right (is_directory s i) (not (i == 1) && not (is_some (get nat_cmp names i))) (sym (unmet_by s met names i held) ∙ is) in
    not_false (is_some (get nat_cmp names i)) (both_right (not (i == 1)) (not (is_some (get nat_cmp names i))) rest)

-- ---- one step of the walk

all_read : (s : State) (steps : ℕ) (met : List NameOf) → entered_from s steps met [] ≡ met
unfolding entered_from
all_read s zero met = refl
all_read s (suc steps) met = refl

pub read_none : (s : State) (steps : ℕ) (met todo rest : List NameOf) → todo ≡ [] → rest ≡ [] → entered_from s (suc steps) met todo ≡ entered_from s steps met rest
read_none s steps met todo rest none gone =
    ap (entered_from s (suc steps) met) none ∙ all_read s (suc steps) met ∙ sym (ap (entered_from s steps met) gone ∙ all_read s steps met)

read_next : (s : State) (steps : ℕ) (met rest : List NameOf) (n : NameOf)
    → entered_from s (suc steps) met (n ∷ rest) ≡ cond (is_unmet s met n.2) (entered_from s steps (met ++ n ∷ []) (directory_names s n.2 ++ rest)) (entered_from s steps met rest)
unfolding entered_from
read_next s steps met rest n = refl

pub read_met : (s : State) (steps : ℕ) (met todo rest : List NameOf) (n : NameOf) → todo ≡ n ∷ rest → is_unmet s met n.2 ≡ false
    → entered_from s (suc steps) met todo ≡ entered_from s steps met rest
read_met s steps met todo rest n is known =
    ap (entered_from s (suc steps) met) is ∙ read_next s steps met rest n
    ∙ ap (λ (b : Bool). cond b (entered_from s steps (met ++ n ∷ []) (directory_names s n.2 ++ rest)) (entered_from s steps met rest)) known

pub read_unmet : (s : State) (steps : ℕ) (met todo rest below : List NameOf) (n : NameOf) → todo ≡ n ∷ rest → is_unmet s met n.2 ≡ true → below ≡ directory_names s n.2 ++ rest
    → entered_from s (suc steps) met todo ≡ entered_from s steps (met ++ n ∷ []) below
read_unmet s steps met todo rest below n is new entered =
    ap (entered_from s (suc steps) met) is ∙ read_next s steps met rest n
    ∙ ap (λ (b : Bool). cond b (entered_from s steps (met ++ n ∷ []) (directory_names s n.2 ++ rest)) (entered_from s steps met rest)) new
    ∙ ap (entered_from s steps (met ++ n ∷ [])) (sym entered)

pub read_all : (s : State) (met todo : List NameOf) (steps : ℕ) → steps ≡ 0 → entered_from s steps met todo ≡ met
unfolding entered_from
read_all s met todo steps none = ap (λ (k : ℕ). entered_from s k met todo) none

pub is_entry_name : (s : State) (i : ℕ) → first_among (entered s) i ≡ entry_name s i
unfolding entry_name
is_entry_name s i = refl

-- ---- the directories that are open

abbrev pub Open : Type 0
Open = ℕ × List (List ℕ × ℕ)

pub open_above : (above more : List Open) (d : Open) → above ≡ more ++ d ∷ [] → flat_map unread_names (reverse above) ≡ unread_names d ++ flat_map unread_names (reverse more)
open_above above more d is =
    ap (λ (l : List Open). flat_map unread_names (reverse l)) is ∙ ap (flat_map unread_names) (reverse-append more (d ∷ []))

-- the directory above is read on
pub went_up : (w n : Walk) → w.left ≡ [] → w.above.items ≡ n.above.items ++ (n.dir, n.left) ∷ [] → names_to_read w ≡ names_to_read n
went_up w n gone is =
    ap (λ (l : List (List ℕ × ℕ)). unread_names (w.dir, l) ++ flat_map unread_names (reverse w.above.items)) gone
    ∙ open_above w.above.items n.above.items (n.dir, n.left) is

pub all_up : (w : Walk) → w.left ≡ [] → w.above.items ≡ [] → names_to_read w ≡ []
all_up w gone none =
    ap (λ (l : List (List ℕ × ℕ)). unread_names (w.dir, l) ++ flat_map unread_names (reverse w.above.items)) gone
    ∙ ap (λ (l : List Open). flat_map unread_names (reverse l)) none

pub next_name : (w n : Walk) (name : List ℕ) (ino : ℕ) → n.dir ≡ w.dir → n.above.items ≡ w.above.items → w.left ≡ (name, ino) ∷ n.left
    → names_to_read w ≡ (w.dir, name, ino) ∷ names_to_read n
next_name w n name ino dir above is =
    ap (λ (l : List (List ℕ × ℕ)). unread_names (w.dir, l) ++ flat_map unread_names (reverse w.above.items)) is
    ∙ ap (λ (d : ℕ). (w.dir, name, ino) ∷ (unread_names (d, n.left) ++ flat_map unread_names (reverse w.above.items))) (sym dir)
    ∙ ap (λ (l : List Open). (w.dir, name, ino) ∷ (unread_names (n.dir, n.left) ++ flat_map unread_names (reverse l))) (sym above)

pub entered_below : (s : State) (w n : Walk) (dir : ℕ) → n.dir ≡ dir → n.left ≡ entries_in s dir → n.above.items ≡ w.above.items ++ (w.dir, w.left) ∷ []
    → names_to_read n ≡ directory_names s dir ++ names_to_read w
entered_below s w n dir is left above =
    ap (λ (l : List (List ℕ × ℕ)). unread_names (n.dir, l) ++ flat_map unread_names (reverse n.above.items)) left
    ∙ ap (λ (d : ℕ). unread_names (d, entries_in s dir) ++ flat_map unread_names (reverse n.above.items)) is
    ∙ ap (λ (l : List NameOf). directory_names s dir ++ l) (open_above n.above.items w.above.items (w.dir, w.left) above)

pub walk_begins : (s : State) (w : Walk) → w.dir ≡ 1 → w.left ≡ entries_in s 1 → w.above.items ≡ [] → names_to_read w ≡ directory_names s 1
walk_begins s w is left none =
    ap (λ (l : List (List ℕ × ℕ)). unread_names (w.dir, l) ++ flat_map unread_names (reverse w.above.items)) left
    ∙ ap (λ (d : ℕ). unread_names (d, entries_in s 1) ++ flat_map unread_names (reverse w.above.items)) is
    ∙ ap (λ (l : List Open). directory_names s 1 ++ flat_map unread_names (reverse l)) none ∙ append-nil (directory_names s 1)

-- ---- a step

pub also_ok : {T E P Q : Type 0} (r : Result T E) → (P → Q) → OnOk r P → OnOk r Q
also_ok (Ok x) further p = further p
also_ok (Err e) further p = p

pub step_none : (s : State) (met : List NameOf) (names : BTreeMap ℕ HeldName) (w n : Walk) → HoldNames met names → (names_to_read w ≡ []) × (names_to_read n ≡ []) → ReadsOneName s met w names n
step_none s met names w n held none = (met, held, λ steps. read_none s steps met (names_to_read w) (names_to_read n) none.0 none.1)

pub step_met : (s : State) (met : List NameOf) (names : BTreeMap ℕ HeldName) (w n : Walk) (x : HeldName) → HoldNames met names → names_to_read w ≡ name_held x ∷ names_to_read n
    → is_unmet s met x.2 ≡ false → ReadsOneName s met w names n
step_met s met names w n x held is known = (met, held, λ steps. read_met s steps met (names_to_read w) (names_to_read n) (name_held x) is known)

pub step_entered : (s : State) (met : List NameOf) (old new : BTreeMap ℕ HeldName) (w m n : Walk) (x : HeldName) → HoldNames met old → names_to_read w ≡ name_held x ∷ names_to_read m
    → is_unmet s met x.2 ≡ true → ((q : ℕ) → get nat_cmp new q ≡ cond (eq_by_cmp nat_cmp x.2 q) (Some x) (get nat_cmp old q)) → names_to_read n ≡ directory_names s x.2 ++ names_to_read m
    → ReadsOneName s met w new n
step_entered s met old new w m n x held is unmet gains below = (
  met ++ name_held x ∷ [],
  holds_more met old new x held (unmet_absent s met old x.2 held unmet) gains,
  λ steps. read_unmet s steps met (names_to_read w) (names_to_read m) (names_to_read n) (name_held x) is unmet below,
)

-- ---- all steps

-- the names by which directories were entered so far, and what is still to come
pub record ReadsOn (s : State) (names : BTreeMap ℕ HeldName) (w : Walk) (left : List NameOf) : Type 0 where
  pub met : List NameOf
  pub held : HoldNames met names
  pub goes : entered_from s (length left) met (names_to_read w) ≡ entered s

pub reads_first : (s : State) (names : BTreeMap ℕ HeldName) (w : Walk) (left : List NameOf) → names.entries ≡ [] → w.dir ≡ 1 → w.left ≡ entries_in s 1 → w.above.items ≡ [] → left ≡ all_entries s
    → ReadsOn s names w left
reads_first s names w left none dir is above all = record {
  met = [];
  held = λ i. ap (λ (es : List (ℕ × HeldName)). option_map name_held (lookup (eq_by_cmp nat_cmp i) es)) none;
  goes = ap (λ (l : List NameOf). entered_from s (length l) [] (names_to_read w)) all ∙ ap (entered_from s (length (all_entries s)) []) (walk_begins s w dir is above);
}

pub reads_on : (s : State) (old new : BTreeMap ℕ HeldName) (w n : Walk) (left rest : List NameOf) (x : NameOf) → left ≡ x ∷ rest
    → ((met : List NameOf) → HoldNames met old → ReadsOneName s met w new n) → ReadsOn s old w left → ReadsOn s new n rest
reads_on s old new w n left rest x is step so_far =
    let one = step so_far.met so_far.held in
    record {
      met = one.0;
      held = one.1;
      goes = sym (one.2 (length rest)) ∙ ap (λ (l : List NameOf). entered_from s (length l) so_far.met (names_to_read w)) (sym is) ∙ so_far.goes;
    }

pub reads_all : (s : State) (names : BTreeMap ℕ HeldName) (w : Walk) (left : List NameOf) → left ≡ [] → ReadsOn s names w left → (i : ℕ) → held_first names i ≡ entry_name s i
reads_all s names w left none so_far i =
    so_far.held i
    ∙ ap (λ (l : List NameOf). first_among l i)
    (sym (read_all s so_far.met (names_to_read w) (length left) (ap (λ (l : List NameOf). length l) none)) ∙ so_far.goes)
    ∙ is_entry_name s i

-- ---- the names in a directory are those of the tree that lie in it

flat : Key × ℕ → NameOf
flat e = (e.0.0, e.0.1, e.1)

names_are_in : (es : List (Key × ℕ)) (d : ℕ) → map (λ (e : List ℕ × ℕ). (d, e.0, e.1)) (map (λ (e : Key × ℕ). (e.0.1, e.1)) (filter (λ (e : Key × ℕ). e.0.0 == d) es))
    ≡ filter (λ (n : NameOf). n.0 == d) (map (λ (e : Key × ℕ). (e.0.0, e.0.1, e.1)) es)
names_are_in [] d = refl
names_are_in (e ∷ es) d = by (e.0.0 == d) refl (names_are_in es d)
  where
    rest : List NameOf
    rest = filter (λ (n : NameOf). n.0 == d) (map (λ (x : Key × ℕ). (x.0.0, x.0.1, x.1)) es)

    by : (b : Bool) → (e.0.0 == d) ≡ b → map (λ (x : List ℕ × ℕ). (d, x.0, x.1)) (map (λ (x : Key × ℕ). (x.0.1, x.1)) (filter (λ (x : Key × ℕ). x.0.0 == d) es)) ≡ rest
        → map (λ (x : List ℕ × ℕ). (d, x.0, x.1)) (map (λ (x : Key × ℕ). (x.0.1, x.1)) (cond b (e ∷ filter (λ (x : Key × ℕ). x.0.0 == d) es) (filter (λ (x : Key × ℕ). x.0.0 == d) es)))
        ≡ cond b ((e.0.0, e.0.1, e.1) ∷ rest) rest
    by true t later =
        ap (λ (l : List NameOf). (d, e.0.1, e.1) ∷ l) later
        ∙ ap (λ (x : ℕ). (x, e.0.1, e.1) ∷ rest) (sym (eqb-true e.0.0 d t))
    by false t later = later

names_of_directory : (s : State) (d : ℕ) → directory_names s d ≡ filter (λ (n : NameOf). n.0 == d) (all_entries s)
names_of_directory s d = names_are_in (entries s.names) d

in_directory : (s : State) (d : ℕ) (n : NameOf) → Contains (all_entries s) n → n.0 ≡ d → Contains (directory_names s d) n
in_directory s d n there is =
    subst (λ (l : List NameOf). Contains l n) (sym (names_of_directory s d)) (Contains-filter (λ (m : NameOf). m.0 == d) (all_entries s) n (eq-eqb n.0 d is) there)

of_directory : (s : State) (d : ℕ) (n : NameOf) → Contains (directory_names s d) n → Contains (all_entries s) n
of_directory s d n there =
    (Contains-filter_from (λ (m : NameOf). m.0 == d) (all_entries s) n (subst (λ (l : List NameOf). Contains l n) (names_of_directory s d) there)).0

-- ---- what is entered

module _ (s : State) where
  -- each by a name of the tree
  entered_by_names : (steps : ℕ) (met todo : List NameOf) → ((n : NameOf) → Contains met n → Contains (all_entries s) n) → ((n : NameOf) → Contains todo n → Contains (all_entries s) n)
      → (n : NameOf) → Contains (entered_from s steps met todo) n → Contains (all_entries s) n
  unfolding entered_from
  entered_by_names zero met todo a b n h = a n h
  entered_by_names (suc steps) met [] a b n h = a n h
  entered_by_names (suc steps) met (x ∷ todo) a b n h = by (is_unmet s met x.2) (λ other left c e. entered_by_names steps other left c e n) h
    where
      by : (u : Bool) → ((other left : List NameOf) → ((m : NameOf) → Contains other m → Contains (all_entries s) m) → ((m : NameOf) → Contains left m → Contains (all_entries s) m) → Contains (entered_from s steps other left) n → Contains (all_entries s) n)
          → Contains (cond u (entered_from s steps (met ++ x ∷ []) (directory_names s x.2 ++ todo)) (entered_from s steps met todo)) n → Contains (all_entries s) n
      by true later h =
          later (met ++ x ∷ []) (directory_names s x.2 ++ todo)
          (λ m c. ⊎_elim (a m) (λ (same : x ≡ m). subst (Contains (all_entries s)) same (b x (Contains-here x todo))) (Contains-push_cases met x m c))
          (λ m c. ⊎_elim (of_directory s x.2 m) (λ behind. b m (Contains-there x todo m behind)) (Contains-append_cases (directory_names s x.2) todo m c))
          h
      by false later h = later met todo a (λ m c. b m (Contains-there x todo m c)) h

  pub entered_is_name : (n : NameOf) → Contains (entered s) n → Contains (all_entries s) n
  entered_is_name n h = entered_by_names (length (all_entries s)) [] (directory_names s 1) (λ m c. absurd (Contains-none m c)) (of_directory s 1) n h

  -- the root, and what was entered
  abbrev pub is_reached : List NameOf → ℕ → Bool
  is_reached met d = (d == 1) || is_some (first_among met d)

  abbrev IsDone : List NameOf → NameOf → Type 0
  IsDone met n = is_directory s n.2 ≡ true → n.2 ≢ 1 → is_some (first_among met n.2) ≡ true

  -- each name in a directory that was entered is still to read, or was followed
  abbrev Closes : List NameOf → List NameOf → Type 0
  Closes met todo = (n : NameOf) → Contains (all_entries s) n → is_reached met n.0 ≡ true → Contains todo n ⊎ IsDone met n

  abbrev unread : List NameOf → ℕ
  unread met = count_by (λ (n : NameOf). not (is_reached met n.0)) (all_entries s)

  -- a name that is added
  pub kept : (met : List NameOf) (x : NameOf) (i : ℕ) → is_some (first_among met i) ≡ true → is_some (first_among (met ++ x ∷ []) i) ≡ true
  kept met x i there = ap is_some (first_more met x i) ∙ by (first_among met i) there
    where
      by : (o : Option NameOf) → is_some o ≡ true → is_some (or_else o (cond (x.2 == i) (Some x) None)) ≡ true
      by None none = absurd (false≢true none)
      by (Some m) some = refl

  pub itself : (met : List NameOf) (x : NameOf) (i : ℕ) → (x.2 == i) ≡ true → is_some (first_among (met ++ x ∷ []) i) ≡ true
  itself met x i same = ap is_some (first_more met x i ∙ ap (λ (b : Bool). or_else (first_among met i) (cond b (Some x) None)) same) ∙ by (first_among met i)
    where
      by : (o : Option NameOf) → is_some (or_else o (Some x)) ≡ true
      by None = refl
      by (Some m) = refl

  pub others : (met : List NameOf) (x : NameOf) (i : ℕ) → (x.2 == i) ≡ false → first_among (met ++ x ∷ []) i ≡ first_among met i
  others met x i other = first_more met x i ∙ ap (λ (b : Bool). or_else (first_among met i) (cond b (Some x) None)) other ∙ by (first_among met i)
    where
      by : (o : Option NameOf) → or_else o None ≡ o
      by None = refl
      by (Some m) = refl

  pub or_true : (b : Bool) → (b || true) ≡ true
  or_true true = refl
  or_true false = refl

  some_or_none : (o : Option NameOf) → is_none o ≡ not (is_some o)
  some_or_none None = refl
  some_or_none (Some n) = refl

  -- what was not met was not reached
  unreached : (met : List NameOf) (i : ℕ) → is_unmet s met i ≡ true → is_reached met i ≡ false
  unreached met i new = by (i == 1) (first_among met i) (both_right (is_directory s i) (not (i == 1) && is_none (first_among met i)) new)
    where
      by : (b : Bool) (o : Option NameOf) → (not b && is_none o) ≡ true → (b || is_some o) ≡ false
      by true o none = absurd (false≢true none)
      by false None some = refl
      by false (Some m) none = absurd (false≢true none)

  flip : (a b : ℕ) → (a == b) ≡ (b == a)
  flip a b = grind (arith, nat_tests)

  -- the names of a directory that is entered are no longer unread
  unread_falls : (met : List NameOf) (x : NameOf) → is_unmet s met x.2 ≡ true → unread (met ++ x ∷ []) + length (directory_names s x.2) ≡ unread met
  unread_falls met x new =
      ap (λ (k : ℕ). unread (met ++ x ∷ []) + k) (ap length (names_of_directory s x.2) ∙ length-filter (λ (n : NameOf). n.0 == x.2) (all_entries s))
      ∙ count_apart (λ (n : NameOf). not (is_reached (met ++ x ∷ []) n.0)) (λ (n : NameOf). n.0 == x.2) (λ (n : NameOf). not (is_reached met n.0)) each (all_entries s)
    where
      here : (d : ℕ) (b : Bool) → (x.2 == d) ≡ b → cond (not (is_reached (met ++ x ∷ []) d)) 1 0 + cond b 1 0 ≡ cond (not (is_reached met d)) 1 0
      here d true e =
          ap (λ (r : Bool). cond (not r) 1 0 + 1) (ap (λ (r : Bool). (d == 1) || r) (itself met x d e) ∙ or_true (d == 1))
          ∙ sym (ap (λ (r : Bool). cond (not r) 1 0) (ap (is_reached met) (sym (eqb-true x.2 d e)) ∙ unreached met x.2 new))
      here d false e =
          ap (λ (o : Option NameOf). cond (not ((d == 1) || is_some o)) 1 0 + 0) (others met x d e) ∙ plus_none (cond (not (is_reached met d)) 1 0)
        where
          plus_none : (k : ℕ) → k + 0 ≡ k
          plus_none k = omega arith

      each : (n : NameOf) → cond (not (is_reached (met ++ x ∷ []) n.0)) 1 0 + cond (n.0 == x.2) 1 0 ≡ cond (not (is_reached met n.0)) 1 0
      each n = here n.0 (n.0 == x.2) (flip x.2 n.0)

  -- a directory is entered
  closes_more : (met todo : List NameOf) (x : NameOf) → Closes met (x ∷ todo) → Closes (met ++ x ∷ []) (directory_names s x.2 ++ todo)
  closes_more met todo x closes n there reached = by (x.2 == n.0) refl
    where
      followed : Contains (x ∷ todo) n ⊎ IsDone met n → Contains (directory_names s x.2 ++ todo) n ⊎ IsDone (met ++ x ∷ []) n
      followed (inl left) =
          ⊎_elim
          (λ (same : x ≡ n). inr (λ dir other. itself met x n.2 (eq-eqb x.2 n.2 (ap (λ (m : NameOf). m.2) same))))
          (λ later. inl (Contains-append_right (directory_names s x.2) todo n later))
          (Contains-cases x todo n left)
      followed (inr done) = inr (λ dir other. kept met x n.2 (done dir other))

      by : (b : Bool) → (x.2 == n.0) ≡ b → Contains (directory_names s x.2 ++ todo) n ⊎ IsDone (met ++ x ∷ []) n
      by true e = inl (Contains-append_left (directory_names s x.2) todo n (in_directory s x.2 n there (sym (eqb-true x.2 n.0 e))))
      by false e = followed (closes n there (ap (λ (o : Option NameOf). (n.0 == 1) || is_some o) (sym (others met x n.0 e)) ∙ reached))

  -- a name is passed by
  closes_on : (met todo : List NameOf) (x : NameOf) → is_unmet s met x.2 ≡ false → Closes met (x ∷ todo) → Closes met todo
  closes_on met todo x known closes n there reached = followed (closes n there reached)
    where
      was_met : is_directory s x.2 ≡ true → x.2 ≢ 1 → is_some (first_among met x.2) ≡ true
      was_met dir other =
          by (first_among met x.2)
          (sym (ap (λ (b : Bool). b && (not (x.2 == 1) && is_none (first_among met x.2))) dir ∙ ap (λ (b : Bool). not b && is_none (first_among met x.2)) (not_one x.2 other)) ∙ known)
        where
          by : (o : Option NameOf) → is_none o ≡ false → is_some o ≡ true
          by None none = absurd (true≢false none)
          by (Some m) some = refl

      followed : Contains (x ∷ todo) n ⊎ IsDone met n → Contains todo n ⊎ IsDone met n
      followed (inl left) =
          ⊎_elim
          (λ (same : x ≡ n). inr (subst (IsDone met) same was_met))
          (λ later. inl later)
          (Contains-cases x todo n left)
      followed (inr done) = inr done

  -- in enough steps all that can be reached is reached
  closed_by : (steps : ℕ) (met todo : List NameOf) → length todo + unread met ≤ steps → Closes met todo → Closes (entered_from s steps met todo) []
  unfolding entered_from
  closed_by zero met [] few closes = closes
  closed_by zero met (x ∷ todo) few closes = absurd (omega (arith, few))
  closed_by (suc steps) met [] few closes = closes
  closed_by (suc steps) met (x ∷ todo) few closes = by (is_unmet s met x.2) refl (λ other left. closed_by steps other left)
    where
      by : (b : Bool) → is_unmet s met x.2 ≡ b → ((other left : List NameOf) → length left + unread other ≤ steps → Closes other left → Closes (entered_from s steps other left) [])
          → Closes (cond b (entered_from s steps (met ++ x ∷ []) (directory_names s x.2 ++ todo)) (entered_from s steps met todo)) []
      by true new later =
          later (met ++ x ∷ []) (directory_names s x.2 ++ todo)
          (omega (arith, few, unread_falls met x new, length-append (directory_names s x.2) todo)) (closes_more met todo x closes)
      by false known later = later met todo (omega (arith, few)) (closes_on met todo x known closes)

  count_all : (xs : List NameOf) → count_by (λ (x : NameOf). true) xs ≡ length xs
  count_all [] = refl
  count_all (x ∷ xs) = let more = count_all xs in omega (arith, more, sum_by-cons (λ (y : NameOf). cond true 1 0) x xs)

  unread_first : length (directory_names s 1) + unread [] ≡ length (all_entries s)
  unread_first =
      let root : length (directory_names s 1) ≡ count_by (λ (n : NameOf). n.0 == 1) (all_entries s) =
      ap length (names_of_directory s 1) ∙ length-filter (λ (n : NameOf). n.0 == 1) (all_entries s) in
      let both = count_apart (λ (n : NameOf). n.0 == 1) (λ (n : NameOf). not (is_reached [] n.0)) (λ (n : NameOf). true) (λ n. one (n.0 == 1)) (all_entries s) in
      ap (λ (k : ℕ). k + unread []) root ∙ both ∙ count_all (all_entries s)
    where
      one : (b : Bool) → cond b 1 0 + cond (not (b || false)) 1 0 ≡ 1
      one true = refl
      one false = refl

  closes_first : Closes [] (directory_names s 1)
  closes_first n there reached = inl (in_directory s 1 n there (eqb-true n.0 1 (by (n.0 == 1) reached)))
    where
      by : (b : Bool) → (b || false) ≡ true → b ≡ true
      by true is = refl
      by false is = is

  -- a directory in which a walk finds a name of another is entered, and then the other one is
  pub all_entered : (n : NameOf) → Contains (all_entries s) n → is_reached (entered s) n.0 ≡ true → is_directory s n.2 ≡ true → n.2 ≢ 1 → is_some (first_among (entered s) n.2) ≡ true
  all_entered n there reached dir other =
      ⊎_elim (λ none. absurd (Contains-none n none)) (λ done. done dir other)
      (closed_by (length (all_entries s)) [] (directory_names s 1) (omega (arith, unread_first)) closes_first n there reached)

-- ---- where no directory has two names, its first name is that by which it is entered

pub found_there : (names : List NameOf) (i : ℕ) (n : NameOf) → first_among names i ≡ Some n → Contains names n × (n.2 ≡ i)
found_there [] i n is = absurd (false≢true (ap is_some is))
found_there (m ∷ names) i n is = by (m.2 == i) refl (found_there names i n) is
  where
    by : (b : Bool) → (m.2 == i) ≡ b → (first_among names i ≡ Some n → Contains names n × (n.2 ≡ i)) → cond b (Some m) (first_among names i) ≡ Some n → Contains (m ∷ names) n × (n.2 ≡ i)
    by true e later found =
        let same : m ≡ n = cc in
        (subst (Contains (m ∷ names)) same (Contains-here m names), ap (λ (x : NameOf). x.2) (sym same) ∙ eqb-true m.2 i e)
    by false e later found = let there = later found in (Contains-there m names n there.0, there.1)

found_some : (names : List NameOf) (i : ℕ) (n : NameOf) → Contains names n → n.2 ≡ i → is_some (first_among names i) ≡ true
found_some [] i n there is = absurd (Contains-none n there)
found_some (m ∷ names) i n there is = by (m.2 == i) refl (λ behind. found_some names i n behind is)
  where
    by : (b : Bool) → (m.2 == i) ≡ b → (Contains names n → is_some (first_among names i) ≡ true) → is_some (cond b (Some m) (first_among names i)) ≡ true
    by true e later = refl
    by false e later =
        ⊎_elim
        (λ (same : m ≡ n). absurd (true≢false (sym (eq-eqb m.2 i (ap (λ (x : NameOf). x.2) same ∙ is)) ∙ e)))
        later
        (Contains-cases m names n there)

same_name : (m n : NameOf) → m.0 ≡ n.0 → m.1 ≡ n.1 → m.2 ≡ n.2 → m ≡ n
same_name (a, x, i) (b, y, j) d t o = cc

module _ (s : State) (single : IsSingle s) where
  one_name : (i : ℕ) (m n : NameOf) → is_directory s i ≡ true → i ≢ 1 → Contains (all_entries s) m → Contains (all_entries s) n → m.2 ≡ i → n.2 ≡ i → m ≡ n
  one_name i m n dir other in_m in_n of_m of_n =
      let same = single m.0 n.0 m.1 n.1 i (of_all s m in_m ∙ ap Some of_m) (of_all s n in_n ∙ ap Some of_n) dir other in
      same_name m n same.0 same.1 (of_m ∙ sym of_n)

  -- a way leads up from a directory that was reached alone
  reached_by : (steps dir : ℕ) (names path : List (List ℕ)) → climbed s (first_among (entered s)) steps dir names ≡ Some path → is_reached s (entered s) dir ≡ true
  unfolding climbed
  reached_by zero dir names path is = absurd (false≢true (ap is_some is))
  reached_by (suc steps) dir names path is = by (is_directory s dir) (dir == 1) (first_among (entered s) dir) is
    where
      by : (d r : Bool) (o : Option NameOf)
          → cond d (cond r (Some names) (option_and_then (λ (n : NameOf). climbed s (first_among (entered s)) steps n.0 (n.1 ∷ names)) o)) None ≡ Some path
          → (r || is_some o) ≡ true
      by false r o found = absurd (false≢true (ap is_some found))
      by true true o found = refl
      by true false None found = absurd (false≢true (ap is_some found))
      by true false (Some n) found = refl

  same_ways : (steps dir : ℕ) (names : List (List ℕ)) → climbed s (first_name s) steps dir names ≡ climbed s (first_among (entered s)) steps dir names
  unfolding climbed first_name
  same_ways zero dir names = refl
  same_ways (suc steps) dir names = by (is_directory s dir) (dir == 1) (first_among (all_entries s) dir) (first_among (entered s) dir) (λ n. same_ways steps n.0 (n.1 ∷ names)) refl refl refl refl
    where
      up : Option NameOf → Option (List (List ℕ))
      up o = option_and_then (λ (n : NameOf). climbed s (first_name s) steps n.0 (n.1 ∷ names)) o

      up_entered : Option NameOf → Option (List (List ℕ))
      up_entered o = option_and_then (λ (n : NameOf). climbed s (first_among (entered s)) steps n.0 (n.1 ∷ names)) o

      -- the directory of its one name was not reached
      lost : (n : NameOf) → is_directory s dir ≡ true → dir ≢ 1 → first_among (all_entries s) dir ≡ Some n → first_among (entered s) dir ≡ None
          → (p : Option (List (List ℕ))) → climbed s (first_among (entered s)) steps n.0 (n.1 ∷ names) ≡ p → p ≡ None
      lost n there other first none None is = refl
      lost n there other first none (Some path) is =
          let found = found_there (all_entries s) dir n first in
          let entered_too = all_entered s n found.0 (reached_by steps n.0 (n.1 ∷ names) path is)
          (ap (is_directory s) found.1 ∙ there) (λ root. other (sym found.1 ∙ root)) in
          absurd (false≢true (ap is_some (sym none) ∙ ap (λ (i : ℕ). is_some (first_among (entered s) i)) (sym found.1) ∙ entered_too))

      by : (d r : Bool) (o p : Option NameOf)
          → ((n : NameOf) → climbed s (first_name s) steps n.0 (n.1 ∷ names) ≡ climbed s (first_among (entered s)) steps n.0 (n.1 ∷ names))
          → is_directory s dir ≡ d → (dir == 1) ≡ r → first_among (all_entries s) dir ≡ o → first_among (entered s) dir ≡ p
          → cond d (cond r (Some names) (up o)) None ≡ cond d (cond r (Some names) (up_entered p)) None
      by false r o p above there root first met = refl
      by true true o p above there root first met = refl
      by true false None None above there root first met = refl
      by true false None (Some m) above there root first met =
          let found = found_there (entered s) dir m met in
          absurd (false≢true (ap is_some (sym first) ∙ found_some (all_entries s) dir m (entered_is_name s m found.0) found.1))
      by true false (Some n) None above there root first met =
          above n
          ∙ lost n there (λ one. false≢true (sym root ∙ eq-eqb dir 1 one)) first met (climbed s (first_among (entered s)) steps n.0 (n.1 ∷ names)) refl
      by true false (Some n) (Some m) above there root first met =
          let a = found_there (all_entries s) dir n first in
          let b = found_there (entered s) dir m met in
          let same = one_name dir n m there (λ one. false≢true (sym root ∙ eq-eqb dir 1 one)) a.0 (entered_is_name s m b.0) a.1 b.1 in
          above n ∙ ap (λ (x : NameOf). climbed s (first_among (entered s)) steps x.0 (x.1 ∷ names)) same

  pub first_names_lead : LeadsUp s (first_name s)
  unfolding entry_name
  first_names_lead dir names = same_ways (steps_at_most s) dir names
