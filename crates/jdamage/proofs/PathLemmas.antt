-- A path of a directory leads there, and each directory to which one leads has one.
use Rattle.std.proofs.Common.{◌≡◌, ◌≢◌, ℕ, zero, suc, ◌+◌, ◌-◌, ◌≤◌, ◌^◌, Bool, true, false, not, cond, List, [], ◌∷◌, ◌++◌, length, Option, Some, None, Result, Ok, Err, refl, sym, ap, ◌∙◌, ⊎_elim, arith}
use Rattle.std.specs.Prelude.{◌==◌, ◌&&◌, ◌||◌, Contains, is_none, is_some, option_and_then}
use Rattle.std.proofs.lemmas.Bool.{eqb-true, eq-eqb, false≢true}
use Rattle.std.proofs.lemmas.List.{length-append}
use Rattle.std.proofs.lemmas.List.Elements.{Contains-append_cases}
use Rattle.std.proofs.lemmas.Option.{same_Some}
use Rattle.flashbase.proofs.MemberLemmas.{Contains-here, Contains-map_from, Contains-there}
use Rattle.jmount.specs.Find.{step, step_to, walk}
use Rattle.jmount.specs.Tree.{State, all_entries, directory_bits, entries_in, has_bits, is_directory, is_there, named, object, ObjectOf}
use Rattle.jmount.specs.declared.fault.FindFault.{FindFault}
use Rattle.jmount.specs.declared.fault.FindFault.TheVariants as fault
use Rattle.jmount.proofs.ShapingLemmas.{in_all, of_all}
use Rattle.jdamage.specs.Entered.{NameOf, entered, entered_from, entry_name, first_among, is_unmet, directory_names}
use Rattle.jdamage.specs.Ways.{climbed, or_else, path_below, steps_at_most}
use Rattle.jdamage.proofs.EnteredLemmas.{all_entered, both_left, both_right, entered_is_name, first_more, found_there, is_reached, itself, kept, or_true, others}
use Rattle.jdamage.proofs.WayLemmas.{climb_on, climb_root}

module _ (s : State) where
  there_of_directory : (o : Option (ObjectOf (List ℕ))) → has_bits directory_bits o ≡ true → is_some o ≡ true
  there_of_directory None none = absurd (false≢true none)
  there_of_directory (Some o) dir = refl

  -- a step by a name that stands for a directory
  stepped : (n : NameOf) → is_directory s n.0 ≡ true → named s n.0 n.1 ≡ Some n.2 → is_directory s n.2 ≡ true → step s n.0 n.1 ≡ Ok n.2
  stepped n above is dir =
      ap (λ (b : Bool). cond b (step_to s (named s n.0 n.1)) (Err fault.NotDirectory)) above ∙ ap (step_to s) is
      ∙ ap (λ (b : Bool). cond b (Ok n.2) (Err fault.NotFound)) (there_of_directory (object s n.2) dir)

  -- ---- a path leads to its directory

  leads : (steps dir : ℕ) (names path : List (List ℕ)) → climbed s (first_among (entered s)) steps dir names ≡ Some path
      → (is_directory s dir ≡ true) × (walk s path (Ok 1) ≡ walk s names (Ok dir))
  unfolding climbed
  leads zero dir names path is = absurd (false≢true (ap is_some is))
  leads (suc steps) dir names path is =
      by (is_directory s dir) (dir == 1) (first_among (entered s) dir) refl refl refl (λ n. leads steps n.0 (n.1 ∷ names) path) is
    where
      by : (d r : Bool) (o : Option NameOf) → is_directory s dir ≡ d → (dir == 1) ≡ r → first_among (entered s) dir ≡ o
          → ((n : NameOf) → climbed s (first_among (entered s)) steps n.0 (n.1 ∷ names) ≡ Some path → (is_directory s n.0 ≡ true) × (walk s path (Ok 1) ≡ walk s (n.1 ∷ names) (Ok n.0)))
          → cond d (cond r (Some names) (option_and_then (λ (n : NameOf). climbed s (first_among (entered s)) steps n.0 (n.1 ∷ names)) o)) None ≡ Some path
          → (is_directory s dir ≡ true) × (walk s path (Ok 1) ≡ walk s names (Ok dir))
      by false r o there root first above found = absurd (false≢true (ap is_some found))
      by true true o there root first above found =
          (there, ap (λ (p : List (List ℕ)). walk s p (Ok 1)) (sym (same_Some names path found)) ∙ ap (λ (i : ℕ). walk s names (Ok i)) (sym (eqb-true dir 1 root)))
      by true false None there root first above found = absurd (false≢true (ap is_some found))
      by true false (Some n) there root first above found =
          let at = found_there (entered s) dir n first in
          let up = above n found in
          (there, up.1 ∙ ap (walk s names) (stepped n up.0 (of_all s n (entered_is_name s n at.0)) (ap (is_directory s) at.1 ∙ there) ∙ ap Ok at.1))

  pub path_leads : (dir : ℕ) (path : List (List ℕ)) → path_below s dir [] ≡ Some path → walk s path (Ok 1) ≡ Ok dir
  unfolding entry_name
  path_leads dir path is = (leads (steps_at_most s) dir [] path is).1

  -- ---- what a path leads to was reached

  fails : (f : FindFault) (names : List (List ℕ)) → walk s names (Err f) ≡ Err f
  fails f [] = refl
  fails f (x ∷ names) = refl

  abbrev Found : Type 0
  Found = Result ℕ FindFault

  not_ok : (f : FindFault) (i : ℕ) (r : Found) → r ≡ Err f → r ≡ Ok i → ⊥
  not_ok f i r is other = absurd (cc)

  same_ok : (i j : ℕ) (r : Found) → r ≡ Ok i → r ≡ Ok j → i ≡ j
  same_ok i j r is other = cc

  -- a walk that goes on from a directory
  from_directory : (i dir : ℕ) (names : List (List ℕ)) → walk s names (Ok i) ≡ Ok dir → is_directory s dir ≡ true → is_directory s i ≡ true
  from_directory i dir [] is there = ap (is_directory s) (same_ok i dir (Ok i) refl is) ∙ there
  from_directory i dir (x ∷ names) is there = by (is_directory s i) is
    where
      by : (b : Bool) → walk s names (cond b (step_to s (named s i x)) (Err fault.NotDirectory)) ≡ Ok dir → b ≡ true
      by true goes = refl
      by false goes = absurd (not_ok fault.NotDirectory dir (walk s names (Err fault.NotDirectory)) (fails fault.NotDirectory names) goes)

  named_of_step : (d i : ℕ) (x : List ℕ) → step s d x ≡ Ok i → named s d x ≡ Some i
  named_of_step d i x is = by (is_directory s d) (named s d x) refl is
    where
      there : (b : Bool) (j : ℕ) → cond b (Ok j) (Err fault.NotFound) ≡ Ok i → j ≡ i
      there true j goes = same_ok j i (Ok j) refl goes
      there false j goes = absurd (not_ok fault.NotFound i (Err fault.NotFound) refl goes)

      by : (b : Bool) (o : Option ℕ) → named s d x ≡ o → cond b (step_to s o) (Err fault.NotDirectory) ≡ Ok i → named s d x ≡ Some i
      by true (Some j) at goes = at ∙ ap Some (there (is_there s j) j goes)
      by true None at goes = absurd (not_ok fault.NotFound i (Err fault.NotFound) refl goes)
      by false o at goes = absurd (not_ok fault.NotDirectory i (Err fault.NotDirectory) refl goes)

  reaches : (d dir : ℕ) (names : List (List ℕ)) → is_reached s (entered s) d ≡ true → walk s names (Ok d) ≡ Ok dir → is_directory s dir ≡ true → is_reached s (entered s) dir ≡ true
  reaches d dir [] reached is there = ap (is_reached s (entered s)) (sym (same_ok d dir (Ok d) refl is)) ∙ reached
  reaches d dir (x ∷ names) reached is there = by (step s d x) refl is (λ i. reaches i dir names)
    where
      next : (i : ℕ) → step s d x ≡ Ok i → is_directory s i ≡ true → is_reached s (entered s) i ≡ true
      next i goes folder = root (i == 1) refl
        where
          root : (b : Bool) → (i == 1) ≡ b → is_reached s (entered s) i ≡ true
          root true e = ap (λ (b : Bool). b || is_some (first_among (entered s) i)) e
          root false e =
              let met = all_entered s (d, x, i) (in_all s d x i (named_of_step d i x goes)) reached folder (λ one. false≢true (sym e ∙ eq-eqb i 1 one)) in
              ap (λ (b : Bool). b || is_some (first_among (entered s) i)) e ∙ met

      by : (r : Result ℕ FindFault) → step s d x ≡ r → walk s names r ≡ Ok dir
          → ((i : ℕ) → is_reached s (entered s) i ≡ true → walk s names (Ok i) ≡ Ok dir → is_directory s dir ≡ true → is_reached s (entered s) dir ≡ true)
          → is_reached s (entered s) dir ≡ true
      by (Ok i) goes on later = later i (next i goes (from_directory i dir names on there)) on there
      by (Err f) goes on later = absurd (not_ok f dir (walk s names (Err f)) (fails f names) on)

  -- ---- what was reached has a path

  -- more steps, and more names to go up by, keep a way
  goes_too : (up more : ℕ → Option NameOf) → ((i : ℕ) (n : NameOf) → up i ≡ Some n → more i ≡ Some n) → (steps many dir : ℕ) (names path : List (List ℕ)) → steps ≤ many
      → climbed s up steps dir names ≡ Some path → climbed s more many dir names ≡ Some path
  unfolding climbed
  goes_too up more also zero many dir names path few is = absurd (false≢true (ap is_some is))
  goes_too up more also (suc steps) zero dir names path few is = absurd (omega (arith, few))
  goes_too up more also (suc steps) (suc many) dir names path few is =
      by (is_directory s dir) (dir == 1) (up dir) refl (λ n. goes_too up more also steps many n.0 (n.1 ∷ names) path (omega (arith, few))) is
    where
      by : (d r : Bool) (o : Option NameOf) → up dir ≡ o → ((n : NameOf) → climbed s up steps n.0 (n.1 ∷ names) ≡ Some path → climbed s more many n.0 (n.1 ∷ names) ≡ Some path)
          → cond d (cond r (Some names) (option_and_then (λ (n : NameOf). climbed s up steps n.0 (n.1 ∷ names)) o)) None ≡ Some path
          → cond d (cond r (Some names) (option_and_then (λ (n : NameOf). climbed s more many n.0 (n.1 ∷ names)) (more dir))) None ≡ Some path
      by false r o at above found = absurd (false≢true (ap is_some found))
      by true true o at above found = found
      by true false None at above found = absurd (false≢true (ap is_some found))
      by true false (Some n) at above found =
          ap (option_and_then (λ (m : NameOf). climbed s more many m.0 (m.1 ∷ names))) (also dir n at) ∙ above n found

  abbrev HasPath : (ℕ → Option NameOf) → ℕ → ℕ → Type 0
  HasPath up steps dir = (names : List (List ℕ)) → (path : List (List ℕ)) × (climbed s up steps dir names ≡ Some path)

  abbrev HavePaths : List NameOf → Type 0
  HavePaths met = (dir : ℕ) → is_reached s met dir ≡ true → is_directory s dir ≡ true → HasPath (first_among met) (length met + 1) dir

  abbrev LieInReached : List NameOf → List NameOf → Type 0
  LieInReached met todo = (n : NameOf) → Contains todo n → (is_reached s met n.0 ≡ true) × (is_directory s n.0 ≡ true)

  extended : (met : List NameOf) (x : NameOf) (i : ℕ) (n : NameOf) → first_among met i ≡ Some n → first_among (met ++ x ∷ []) i ≡ Some n
  extended met x i n is = first_more met x i ∙ ap (λ (o : Option NameOf). or_else o (cond (x.2 == i) (Some x) None)) is

  kept_reached : (met : List NameOf) (x : NameOf) (i : ℕ) → is_reached s met i ≡ true → is_reached s (met ++ x ∷ []) i ≡ true
  kept_reached met x i reached = by (i == 1) (kept s met x i) reached
    where
      by : (b : Bool) → (is_some (first_among met i) ≡ true → is_some (first_among (met ++ x ∷ []) i) ≡ true) → (b || is_some (first_among met i)) ≡ true
          → (b || is_some (first_among (met ++ x ∷ []) i)) ≡ true
      by true also is = refl
      by false also is = also is

  is_missing : (o : Option NameOf) → is_none o ≡ true → o ≡ None
  is_missing None none = refl
  is_missing (Some n) none = absurd (false≢true none)

  -- a name by which a directory is entered
  paths_more : (met : List NameOf) (x : NameOf) → HavePaths met → is_unmet s met x.2 ≡ true → is_reached s met x.0 ≡ true → is_directory s x.0 ≡ true → HavePaths (met ++ x ∷ [])
  paths_more met x have new from folder dir reached there names = by (x.2 == dir) refl
    where
      up : ℕ → Option NameOf
      up = first_among (met ++ x ∷ [])

      longer : length (met ++ x ∷ []) + 1 ≡ suc (length met + 1)
      longer = omega (arith, length-append met (x ∷ []))

      unnamed : first_among met x.2 ≡ None
      unnamed = is_missing (first_among met x.2) (both_right (not (x.2 == 1)) (is_none (first_among met x.2)) (both_right (is_directory s x.2) (not (x.2 == 1) && is_none (first_among met x.2)) new))

      no_root : x.2 ≢ 1
      no_root one =
          false≢true
          (ap not (sym (eq-eqb x.2 1 one)) ∙ both_left (not (x.2 == 1)) (is_none (first_among met x.2)) (both_right (is_directory s x.2) (not (x.2 == 1) && is_none (first_among met x.2)) new))

      by : (b : Bool) → (x.2 == dir) ≡ b → (path : List (List ℕ)) × (climbed s (first_among (met ++ x ∷ [])) (length (met ++ x ∷ []) + 1) dir names ≡ Some path)
      by true e =
          let is : x.2 ≡ dir = eqb-true x.2 dir e in
          let below = have x.0 from folder (x.1 ∷ names) in
          let first : first_among (met ++ x ∷ []) dir ≡ Some x =
          first_more met x dir ∙ ap (λ (b : Bool). or_else (first_among met dir) (cond b (Some x) None)) e
          ∙ ap (λ (o : Option NameOf). or_else o (Some x)) (ap (first_among met) (sym is) ∙ unnamed) in
          let less : suc (length met + 1) - 1 ≡ length met + 1 = omega arith in (
            below.0,
            ap (λ (k : ℕ). climbed s (first_among (met ++ x ∷ [])) k dir names) longer
                ∙ climb_on s (first_among (met ++ x ∷ [])) (suc (length met + 1)) dir names (omega arith) x there (λ one. no_root (is ∙ one)) first
                ∙ ap (λ (k : ℕ). climbed s (first_among (met ++ x ∷ [])) k x.0 (x.1 ∷ names)) less
                ∙ goes_too (first_among met) (first_among (met ++ x ∷ [])) (extended met x) (length met + 1) (length met + 1) x.0 (x.1 ∷ names) below.0 (omega arith) below.1,
          )
      by false e =
          let before = have dir (ap (λ (o : Option NameOf). (dir == 1) || is_some o) (sym (others s met x dir e)) ∙ reached) there names in (
            before.0,
            goes_too (first_among met) (first_among (met ++ x ∷ [])) (extended met x) (length met + 1) (length (met ++ x ∷ []) + 1) dir names before.0 (omega (arith, longer)) before.1,
          )

  lies_in : (d : ℕ) (n : NameOf) → Contains (directory_names s d) n → n.0 ≡ d
  lies_in d n there = let found = Contains-map_from (λ (e : List ℕ × ℕ). (d, e.0, e.1)) (entries_in s d) n there in ap (λ (m : NameOf). m.0) (sym found.2)

  lie_more : (met todo : List NameOf) (x : NameOf) → is_unmet s met x.2 ≡ true → LieInReached met (x ∷ todo) → LieInReached (met ++ x ∷ []) (directory_names s x.2 ++ todo)
  lie_more met todo x new lie n there = ⊎_elim inside behind (Contains-append_cases (directory_names s x.2) todo n there)
    where
      inside : Contains (directory_names s x.2) n → (is_reached s (met ++ x ∷ []) n.0 ≡ true) × (is_directory s n.0 ≡ true)
      inside h =
          let is = lies_in x.2 n h in (
            ap (λ (b : Bool). (n.0 == 1) || b) (itself s met x n.0 (eq-eqb x.2 n.0 (sym is))) ∙ or_true s (n.0 == 1),
            ap (is_directory s) is ∙ both_left (is_directory s x.2) (not (x.2 == 1) && is_none (first_among met x.2)) new,
          )

      behind : Contains todo n → (is_reached s (met ++ x ∷ []) n.0 ≡ true) × (is_directory s n.0 ≡ true)
      behind h = let before = lie n (Contains-there x todo n h) in (kept_reached met x n.0 before.0, before.1)

  all_have : (steps : ℕ) (met todo : List NameOf) → HavePaths met → LieInReached met todo → HavePaths (entered_from s steps met todo)
  unfolding entered_from
  all_have zero met todo have lie = have
  all_have (suc steps) met [] have lie = have
  all_have (suc steps) met (x ∷ todo) have lie = by (is_unmet s met x.2) refl (λ other left. all_have steps other left)
    where
      by : (b : Bool) → is_unmet s met x.2 ≡ b → ((other left : List NameOf) → HavePaths other → LieInReached other left → HavePaths (entered_from s steps other left))
          → HavePaths (cond b (entered_from s steps (met ++ x ∷ []) (directory_names s x.2 ++ todo)) (entered_from s steps met todo))
      by true new later =
          let at = lie x (Contains-here x todo) in
          later (met ++ x ∷ []) (directory_names s x.2 ++ todo) (paths_more met x have new at.0 at.1) (lie_more met todo x new lie)
      by false known later = later met todo have (λ n there. lie n (Contains-there x todo n there))

  short : (steps : ℕ) (met todo : List NameOf) → length (entered_from s steps met todo) ≤ length met + steps
  unfolding entered_from
  short zero met todo = omega arith
  short (suc steps) met [] = omega arith
  short (suc steps) met (x ∷ todo) = by (is_unmet s met x.2) (short steps (met ++ x ∷ []) (directory_names s x.2 ++ todo)) (short steps met todo)
    where
      by : (b : Bool) → length (entered_from s steps (met ++ x ∷ []) (directory_names s x.2 ++ todo)) ≤ length (met ++ x ∷ []) + steps → length (entered_from s steps met todo) ≤ length met + steps
          → length (cond b (entered_from s steps (met ++ x ∷ []) (directory_names s x.2 ++ todo)) (entered_from s steps met todo)) ≤ length met + suc steps
      by true new known = omega (arith, new, length-append met (x ∷ []))
      by false new known = omega (arith, known)

  root_has : is_directory s 1 ≡ true → HavePaths []
  root_has root dir reached there names = (names, climb_root s (first_among []) 1 dir names (omega arith) there (eqb-true dir 1 (by (dir == 1) reached)))
    where
      by : (b : Bool) → (b || false) ≡ true → b ≡ true
      by true is = refl
      by false is = is

  -- no more names than there are numbers
  pub has_path : length (all_entries s) ≤ 2 ^ 32 → (dir : ℕ) (names : List (List ℕ)) → walk s names (Ok 1) ≡ Ok dir → is_directory s dir ≡ true → is_some (path_below s dir []) ≡ true
  unfolding entry_name
  has_path few dir names on there =
      let root = from_directory 1 dir names on there in
      let have = all_have (length (all_entries s)) [] (directory_names s 1) (root_has root)
      (λ n h. let is = lies_in 1 n h in (ap (λ (b : Bool). b || is_some (first_among [] n.0)) (eq-eqb n.0 1 is), ap (is_directory s) is ∙ root)) dir (reaches 1 dir names refl on there) there [] in
      ap is_some (goes_too (first_among (entered s)) (first_among (entered s)) (λ i n is. is) (length (entered s) + 1) (steps_at_most s) dir [] have.0
      (omega (arith, short (length (all_entries s)) [] (directory_names s 1), few)) have.1)
