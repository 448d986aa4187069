-- Where the paths of an operation lead that is not refused.
use Rattle.std.proofs.Common.{◌≡◌, ℕ, ◌<◌, ◌≤◌, Bool, true, false, cond, List, [], ◌∷◌, length, Option, Some, None, Result, Ok, Err, refl, ap, sym, ◌∙◌, subst, arith, ◌+◌, map, drop, get_or, Bor, ◌≢◌}
use Rattle.std.specs.Prelude.{◌&&◌, ◌||◌, not, is_some, unwrap_or, option_and_then, IsTrue, All, bytes_eq, nat_lt, ◌==◌}
use Rattle.std.specs.List.{list_any, list_all}
use Rattle.std.proofs.lemmas.Bool.{eq-eqb, ne_eqb, ltb-true, ltb-false, or_parts, not-false, true≢false, false≢true}
use Rattle.std.proofs.lemmas.List.Elements.{All-head, All-tail}
use Rattle.jmount.specs.Tree.{ObjectOf, Outline, object, named, has_bits, is_directory, is_there}
use Rattle.jmount.specs.Find.{is_name, path_names, step_to, step, walk}
use Rattle.jmount.specs.declared.fault.FindFault.{FindFault}
use Rattle.jmount.specs.declared.fault.FindFault.TheVariants as find
use Rattle.std.proofs.lemmas.List.{at_drop_more, at_drop_all, get_or-map, length-map}
use Rattle.jmount.proofs.PathLemmas.{walk-turn}
use Rattle.jmount.proofs.PathNameLemmas.{path_names_exactly}
use Rattle.jsteps.specs.Nodes.{Indexed}
use Rattle.jsteps.specs.Laws.{IsConsistent}
use Rattle.jsteps.specs.Refusals.{is_bad_path, is_long, meets_nothing, meets_other}
use Rattle.jsteps.specs.Where.{last_of, names_on_path, names_above, last_name, above, end_or_zero, parent, ends_in_directory, named_there, number_there, number_or_zero, object_named, is_missing, number_reached, object_reached, is_unreached, met}
use Rattle.jsteps.proofs.IndexLemmas.{with_some}

-- ---- names

-- a length that an entry's name may have
pub record HasLength (name : List ℕ) : Type 0 where
  pub some : 1 ≤ length name
  pub most : length name ≤ 254

first_of_four : (a b c d : Bool) → (a && b && c && d) ≡ true → a ≡ true
first_of_four true b c d h = refl
first_of_four false b c d h = absurd (false≢true h)

name_is_long : (name : List ℕ) → IsTrue (is_name name) → 1 ≤ length name
name_is_long name h =
    let first = first_of_four (nat_lt 0 (length name)) (list_all (λ b. not (b == 47) && not (b == 0)) name) (not (bytes_eq name (46 ∷ []))) (not (bytes_eq name (46 ∷ 46 ∷ []))) h in
    let some : 0 < length name = ltb-true 0 (length name) first in
    omega arith

last_is_name : (names : List (List ℕ)) → 0 < length names → All (λ name. IsTrue (is_name name)) names → 1 ≤ length (last_of names)
last_is_name [] some all = absurd (omega arith)
last_is_name (name ∷ []) some all = name_is_long name (All-head (λ name. IsTrue (is_name name)) name [] all)
last_is_name (name ∷ next ∷ names) some all =
    last_is_name (next ∷ names) (omega arith) (All-tail (λ name. IsTrue (is_name name)) name (next ∷ names) all)

last_is_short : (names : List (List ℕ)) → 0 < length names → list_any (λ name. nat_lt 254 (length name)) names ≡ false → length (last_of names) ≤ 254
last_is_short [] some none = absurd (omega arith)
last_is_short (name ∷ []) some none = ltb-false 254 (length name) (or_parts (nat_lt 254 (length name)) false none).0
last_is_short (name ∷ next ∷ names) some none =
    last_is_short (next ∷ names) (omega arith) (or_parts (nat_lt 254 (length name)) (list_any (λ name. nat_lt 254 (length name)) (next ∷ names)) none).1

some_length : {X : Type 0} (xs : List X) → (length xs == 0) ≡ false → 0 < length xs
some_length [] h = absurd (true≢false h)
some_length (x ∷ xs) h = omega arith

all_names : (path : List ℕ) → All (λ name. IsTrue (is_name name)) (names_on_path path)
all_names path = at_most (path_names path) refl
  where
    at_most : (o : Option (List (List ℕ))) → path_names path ≡ o → All (λ name. IsTrue (is_name name)) (unwrap_or o [])
    at_most None e = λ k d h. absurd (omega arith)
    at_most (Some names) e = ((path_names_exactly path names).0 e).1

pub last_name_length : (path : List ℕ) → is_bad_path path ≡ false → is_long path ≡ false → HasLength (last_name path)
last_name_length path bad long =
    let some : 0 < length (names_on_path path) = some_length (names_on_path path) bad in
    record { some = last_is_name (names_on_path path) some (all_names path); most = last_is_short (names_on_path path) some long }

-- ---- the walk

-- what a walk may answer: a number that is not 0, or one of two faults
IsWalk : Result ℕ FindFault → Type 0
IsWalk (Ok i) = 0 < i
IsWalk (Err find.NotFound) = Unit {0}
IsWalk (Err find.NotDirectory) = Unit {0}
IsWalk (Err find.BadPath) = ⊥

IsWalk-cond : (b : Bool) (r s : Result ℕ FindFault) → IsWalk r → IsWalk s → IsWalk (cond b r s)
IsWalk-cond true r s is_r is_s = is_r
IsWalk-cond false r s is_r is_s = is_s

step_to_is : (t : Outline) (o : Option ℕ) → ((i : ℕ) → o ≡ Some i → 0 < i) → IsWalk (step_to t o)
unfolding IsWalk
step_to_is t None h = tt
step_to_is t (Some i) h = IsWalk-cond (is_there t i) (Ok i) (Err find.NotFound) (h i refl) tt

walk_is : (x : Indexed) → IsConsistent x → (names : List (List ℕ)) (here : Result ℕ FindFault) → IsWalk here → IsWalk (walk x.tree names here)
unfolding IsWalk
walk_is x same [] here is = is
walk_is x same (name ∷ names) (Err f) is = is
walk_is x same (name ∷ names) (Ok here) is =
    walk_is x same names (step x.tree here name)
    (IsWalk-cond (is_directory x.tree here) (step_to x.tree (named x.tree here name)) (Err find.NotDirectory)
    (step_to_is x.tree (named x.tree here name) (λ i e. (same.linked here name i e).0)) tt)

-- a directory that is there, under a number that is not 0
pub record IsParent (t : Outline) (i : ℕ) : Type 0 where
  pub positive : 0 < i
  pub there : is_directory t i ≡ true

pub bits_there : (bits : ℕ) (o : Option (ObjectOf ℕ)) → has_bits bits o ≡ true → is_some o ≡ true
bits_there bits None h = absurd (false≢true h)
bits_there bits (Some o) h = refl

parent_facts : (t : Outline) (r : Result ℕ FindFault) → IsWalk r → meets_nothing r ≡ false → meets_other t r ≡ false
    → IsParent t (end_or_zero r) × (ends_in_directory t r ≡ true)
unfolding IsWalk
parent_facts t (Ok i) is found directory =
    let there : is_directory t i ≡ true = not-false (is_directory t i) directory in
    (record { positive = is; there = there }, there)
parent_facts t (Err find.NotFound) is found directory = absurd (true≢false found)
parent_facts t (Err find.NotDirectory) is found directory = absurd (true≢false directory)
parent_facts t (Err find.BadPath) is found directory = absurd is

-- the facts of a path whose walk ends at a directory
pub parent_is : (x : Indexed) (path : List ℕ) → IsConsistent x → meets_nothing (above x.tree path) ≡ false → meets_other x.tree (above x.tree path) ≡ false
    → IsParent x.tree (parent x.tree path) × (ends_in_directory x.tree (above x.tree path) ≡ true)
unfolding IsWalk
parent_is x path same found directory =
    parent_facts x.tree (above x.tree path) (walk_is x same (names_above path) (Ok 1) (omega arith)) found directory

-- ---- what is named

-- an object that a path names
pub record IsTarget (x : Indexed) (path : List ℕ) : Type 0 where
  pub positive : 0 < number_or_zero x.tree path
  pub below : number_or_zero x.tree path < x.tree.next
  pub same : object x.tree (number_or_zero x.tree path) ≡ object_named x.tree path
  pub there : is_some (object_named x.tree path) ≡ true

linked_there : (x : Indexed) → IsConsistent x → (r : Result ℕ FindFault) (name : List ℕ) (i : ℕ) → named_there x.tree r name ≡ Some i → (0 < i) × (i < x.tree.next)
linked_there x same (Ok dir) name i e = same.linked dir name i e
linked_there x same (Err f) name i e = absurd (false≢true (ap is_some e))

entry_some : (t : Outline) (o : Option ℕ) → is_some (option_and_then (object t) o) ≡ true → is_some o ≡ true
entry_some t None h = absurd (false≢true h)
entry_some t (Some i) h = refl

pub target_is : (x : Indexed) (path : List ℕ) → IsConsistent x → is_some (object_named x.tree path) ≡ true → IsTarget x path
target_is x path same there =
    with_some (number_there x.tree path) (entry_some x.tree (number_there x.tree path) there)
    (λ i e.
    let is : number_or_zero x.tree path ≡ i = ap (λ (o : Option ℕ). unwrap_or o 0) e in
    let linked = linked_there x same (above x.tree path) (last_name path) i e in
    record {
      positive = subst (λ i. 0 < i) (sym is) linked.0;
      below = subst (λ i. i < x.tree.next) (sym is) linked.1;
      same = ap (object x.tree) is ∙ sym (ap (option_and_then (object x.tree)) e);
      there = there;
    })

-- what is not missing there
by_both : (a b : Bool) → a ≡ true → (a && not b) ≡ false → b ≡ true
by_both true true e h = refl
by_both true false e h = absurd (true≢false h)
by_both false b e h = absurd (false≢true e)

pub not_missing : (t : Outline) (path : List ℕ) → ends_in_directory t (above t path) ≡ true → is_missing t path ≡ false → is_some (object_named t path) ≡ true
not_missing t path directory h = by_both (ends_in_directory t (above t path)) (is_some (object_named t path)) directory h

-- an object that a path leads to, which may be the root
pub record IsReachedObject (x : Indexed) (path : List ℕ) : Type 0 where
  pub positive : 0 < unwrap_or (number_reached x.tree path) 0
  pub there : is_some (object x.tree (unwrap_or (number_reached x.tree path) 0)) ≡ true

reached_by : (x : Indexed) (path : List ℕ) → IsConsistent x → (b : Bool) → is_some (option_and_then (object x.tree) (cond b (Some 1) (number_there x.tree path))) ≡ true
    → (0 < unwrap_or (cond b (Some 1) (number_there x.tree path)) 0) × (is_some (object x.tree (unwrap_or (cond b (Some 1) (number_there x.tree path)) 0)) ≡ true)
reached_by x path same true there = (omega arith, there)
reached_by x path same false there = let is = target_is x path same there in (is.positive, ap is_some is.same ∙ is.there)

pub reached_is : (x : Indexed) (path : List ℕ) → IsConsistent x → ends_in_directory x.tree (above x.tree path) ≡ true → is_unreached x.tree path ≡ false → IsReachedObject x path
reached_is x path same directory h =
    let both = reached_by x path same (length (names_on_path path) == 0) (by_both (ends_in_directory x.tree (above x.tree path)) (is_some (object_reached x.tree path)) directory h) in
    record { positive = both.0; there = both.1 }

-- ---- the walk over names that are borrowed

pub walk_more : (t : Outline) (names : List (Bor (List ℕ))) (i here : ℕ) (d : Bor (List ℕ)) (r : Result ℕ FindFault) → i < length names → r ≡ step t here (get_or names i d).now
    → walk t (drop i (map (λ n. n.now) names)) (Ok here) ≡ walk t (drop (i + 1) (map (λ n. n.now) names)) r
walk_more t names i here d r within is =
    let long : length (map (λ (n : Bor (List ℕ)). n.now) names) ≡ length names = length-map names (λ (n : Bor (List ℕ)). n.now) in
    walk-turn t (map (λ n. n.now) names) i here (get_or names i d).now r (omega arith) (sym (get_or-map (λ (n : Bor (List ℕ)). n.now) names i d (get_or names i d).now within)) is

-- ---- the numbers that it meets

met_nothing : (t : Outline) (names : List (List ℕ)) → met t names None ≡ []
met_nothing t [] = refl
met_nothing t (name ∷ names) = refl

-- one name further
met_more : (t : Outline) (names : List (Bor (List ℕ))) (i here : ℕ) (d : Bor (List ℕ)) → i < length names
    → met t (drop i (map (λ n. n.now) names)) (Some here) ≡ here ∷ met t (drop (i + 1) (map (λ n. n.now) names)) (named t here (get_or names i d).now)
met_more t names i here d within =
    let all = map (λ (n : Bor (List ℕ)). n.now) names in
    let name = (get_or names i d).now in
    let long : length all ≡ length names = length-map names (λ (n : Bor (List ℕ)). n.now) in
    at_drop_more (λ ns. met t ns (Some here)) all i name (omega arith)
    ∙ ap (λ n. here ∷ met t (drop (i + 1) all) (named t here n)) (get_or-map (λ (n : Bor (List ℕ)). n.now) names i d name within)

pub meets_here : (t : Outline) (names : List (Bor (List ℕ))) (i here ino : ℕ) → i < length names → here ≡ ino
    → list_any (λ j. j == ino) (met t (drop i (map (λ n. n.now) names)) (Some here)) ≡ true
meets_here t names i here ino within same =
    let all = map (λ (n : Bor (List ℕ)). n.now) names in
    let long : length all ≡ length names = length-map names (λ (n : Bor (List ℕ)). n.now) in
    at_drop_more (λ ns. list_any (λ j. j == ino) (met t ns (Some here))) all i [] (omega arith)
    ∙ ap (λ b. b || list_any (λ j. j == ino) (met t (drop (i + 1) all) (named t here (get_or all i [])))) (eq-eqb here ino same)

pub meets_further : (t : Outline) (names : List (Bor (List ℕ))) (i here ino : ℕ) (d : Bor (List ℕ)) (next : Option ℕ) → i < length names → here ≢ ino → next ≡ named t here (get_or names i d).now
    → list_any (λ j. j == ino) (met t (drop i (map (λ n. n.now) names)) (Some here)) ≡ list_any (λ j. j == ino) (met t (drop (i + 1) (map (λ n. n.now) names)) next)
meets_further t names i here ino d next within other is =
    let left = drop (i + 1) (map (λ (n : Bor (List ℕ)). n.now) names) in
    let name = (get_or names i d).now in
    ap (list_any (λ j. j == ino)) (met_more t names i here d within)
    ∙ ap (λ b. b || list_any (λ j. j == ino) (met t left (named t here name))) (ne_eqb here ino other)
    ∙ ap (λ o. list_any (λ j. j == ino) (met t left o)) (sym is)

pub meets_no_more : (t : Outline) (names : List (List ℕ)) (ino : ℕ) (next : Option ℕ) → next ≡ None → list_any (λ j. j == ino) (met t names next) ≡ false
meets_no_more t names ino next none = ap (λ o. list_any (λ j. j == ino) (met t names o)) none ∙ ap (list_any (λ j. j == ino)) (met_nothing t names)

pub meets_last : (t : Outline) (names : List (List ℕ)) (i here ino : ℕ) → length names ≤ i → list_any (λ j. j == ino) (met t (drop i names) (Some here)) ≡ (here == ino)
meets_last t names i here ino past = at_drop_all (λ ns. list_any (λ j. j == ino) (met t ns (Some here))) names i past ∙ or_none (here == ino)
  where
    or_none : (b : Bool) → (b || false) ≡ b
    or_none true = refl
    or_none false = refl
