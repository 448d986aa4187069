-- The way up to the root, step by step.
use Rattle.std.proofs.Common.{◌≡◌, ℕ, suc, ◌+◌, ◌-◌, ◌<◌, ◌≤◌, ◌≢◌, add-one, append_assoc, append-nil, drop, drop-cons, get_or, take, zero, Bool, true, false, cond, List, [], ◌∷◌, ◌++◌, length, refl, sym, ap, ◌∙◌, arith, Option, Some, None}
use Rattle.std.specs.Prelude.{◌==◌, ◌&&◌, Vec, filter, option_and_then, option_map, map, min, reverse, is_some}
use Rattle.std.specs.Borrow.{Bor}
use Rattle.std.specs.BTreeMap.{BTreeMap, get}
use Rattle.std.specs.BTreeSet.{BTreeSet, contains}
use Rattle.std.specs.Map.{lookup}
use Rattle.std.specs.Ordering.{nat_cmp, eq_by_cmp}
use Rattle.std.specs.Cmp.{unsigned_tied}
use Rattle.std.proofs.lemmas.Bool.{eqb-true, false≢true}
use Rattle.std.specs.List.{find}
use Rattle.std.specs.declared.alloc.Global.{Global}
use Rattle.std.proofs.lemmas.Bool.Decides.{nat_tests}
use Rattle.std.proofs.lemmas.List.{drop_all, length-map, map-append, reverse-append}
use Rattle.std.proofs.Math.Seq.{take-nil}
use Rattle.jmount.specs.Tree.{State, all_entries, is_directory}
use Rattle.jdamage.specs.Groups.{group_of}
use Rattle.jdamage.specs.Ways.{AreFirsts, HeldName, NameOf, climbed, first_if, first_name, held_first, is_led, leads_to, name_held, names_led, or_else}
use Rattle.jdamage.proofs.GroupLemmas.{no_group}

-- a step, by what is met
pub climb_step : (s : State) (up : ℕ → Option NameOf) (left steps dir : ℕ) (names : List (List ℕ)) → left ≡ suc steps
    → climbed s up left dir names ≡ cond (is_directory s dir) (cond (dir == 1) (Some names) (option_and_then (λ n. climbed s up steps n.0 (n.1 ∷ names)) (up dir))) None
unfolding climbed
climb_step s up left steps dir names is = ap (λ (n : ℕ). climbed s up n dir names) is

pub climb_none : (s : State) (up : ℕ → Option NameOf) (left dir : ℕ) (names : List (List ℕ)) → left ≡ 0 → climbed s up left dir names ≡ None
unfolding climbed
climb_none s up left dir names is = ap (λ (n : ℕ). climbed s up n dir names) is

pub not_one : (n : ℕ) → n ≢ 1 → (n == 1) ≡ false
not_one n other = grind (arith, nat_tests)

is_one : (n : ℕ) → n ≡ 1 → (n == 1) ≡ true
is_one n same = ap (λ (k : ℕ). k == 1) same

module _ (s : State) (up : ℕ → Option NameOf) (left here : ℕ) (names : List (List ℕ)) (more : 0 < left) where
  step : climbed s up left here names ≡ cond (is_directory s here) (cond (here == 1) (Some names) (option_and_then (λ n. climbed s up (left - 1) n.0 (n.1 ∷ names)) (up here))) None
  step = climb_step s up left (left - 1) here names (omega arith)

  pub climb_gone : is_directory s here ≡ false → climbed s up left here names ≡ None
  climb_gone gone =
      step ∙ ap (λ (b : Bool). cond b (cond (here == 1) (Some names) (option_and_then (λ n. climbed s up (left - 1) n.0 (n.1 ∷ names)) (up here))) None) gone

  inside : is_directory s here ≡ true → climbed s up left here names ≡ cond (here == 1) (Some names) (option_and_then (λ n. climbed s up (left - 1) n.0 (n.1 ∷ names)) (up here))
  inside there =
      step ∙ ap (λ (b : Bool). cond b (cond (here == 1) (Some names) (option_and_then (λ n. climbed s up (left - 1) n.0 (n.1 ∷ names)) (up here))) None) there

  pub climb_root : is_directory s here ≡ true → here ≡ 1 → climbed s up left here names ≡ Some names
  climb_root there root =
      inside there ∙ ap (λ (b : Bool). cond b (Some names) (option_and_then (λ n. climbed s up (left - 1) n.0 (n.1 ∷ names)) (up here))) (is_one here root)

  above : is_directory s here ≡ true → here ≢ 1 → climbed s up left here names ≡ option_and_then (λ n. climbed s up (left - 1) n.0 (n.1 ∷ names)) (up here)
  above there other =
      inside there ∙ ap (λ (b : Bool). cond b (Some names) (option_and_then (λ n. climbed s up (left - 1) n.0 (n.1 ∷ names)) (up here))) (not_one here other)

  pub climb_nameless : is_directory s here ≡ true → here ≢ 1 → up here ≡ None → climbed s up left here names ≡ None
  climb_nameless there other none =
      above there other ∙ ap (option_and_then (λ n. climbed s up (left - 1) n.0 (n.1 ∷ names))) none

  pub climb_on : (n : NameOf) → is_directory s here ≡ true → here ≢ 1 → up here ≡ Some n → climbed s up left here names ≡ climbed s up (left - 1) n.0 (n.1 ∷ names)
  climb_on n there other is =
      above there other ∙ ap (option_and_then (λ n. climbed s up (left - 1) n.0 (n.1 ∷ names))) is

-- ---- names as they are pushed

pub pushed_first : (items pushed : List (Bor (List ℕ))) (name : Bor (List ℕ)) → pushed ≡ items ++ name ∷ []
    → reverse (map (λ n. n.now) pushed) ≡ name.now ∷ reverse (map (λ n. n.now) items)
pushed_first items pushed name is =
    ap (λ (l : List (Bor (List ℕ))). reverse (map (λ n. n.now) l)) is ∙ ap reverse (map-append (λ n. n.now) items (name ∷ [])) ∙ reverse-append (map (λ n. n.now) items) (name.now ∷ [])

pub names_turned : {X Y : Type 0} (f : X → Y) (xs : List X) → map f (reverse xs) ≡ reverse (map f xs)
names_turned f [] = refl
names_turned f (x ∷ xs) =
    ap (map f) (reverse-append (x ∷ []) xs) ∙ map-append f (reverse xs) (x ∷ []) ∙ ap (λ l. l ++ f x ∷ []) (names_turned f xs) ∙ sym (reverse-append (f x ∷ []) (map f xs))

-- ---- the names of a number that a path leads to

pub led_begin : (s : State) (numbers : BTreeSet ℕ) (groups : BTreeMap ℕ (Vec HeldName Global)) (left : List NameOf) → groups.entries ≡ [] → left ≡ all_entries s
    → (i : ℕ) → contains nat_cmp numbers i ≡ true → map name_held (group_of groups i) ++ filter (is_led s i) left ≡ names_led s i
unfolding names_led
led_begin s numbers groups left none all i wanted =
    ap (λ (l : List HeldName). map name_held l ++ filter (is_led s i) left) (no_group groups none i) ∙ ap (filter (is_led s i)) all

pub one_led : (s : State) (numbers : BTreeSet ℕ) (old new : BTreeMap ℕ (Vec HeldName Global)) (n : HeldName) (left rest : List NameOf) → left ≡ name_held n ∷ rest
    → ((i : ℕ) → contains nat_cmp numbers i ≡ true → group_of new i ≡ group_of old i ++ cond (is_led s i (name_held n)) (n ∷ []) [])
    → ((i : ℕ) → contains nat_cmp numbers i ≡ true → map name_held (group_of old i) ++ filter (is_led s i) left ≡ names_led s i)
    → (i : ℕ) → contains nat_cmp numbers i ≡ true → map name_held (group_of new i) ++ filter (is_led s i) rest ≡ names_led s i
one_led s numbers old new n left rest is added so_far i wanted =
    let here = map name_held (group_of old i) in
    let after = filter (is_led s i) rest in
    ap (λ (l : List HeldName). map name_held l ++ after) (added i wanted)
    ∙ ap (λ (l : List NameOf). l ++ after) (map-append name_held (group_of old i) (cond (is_led s i (name_held n)) (n ∷ []) []))
    ∙ append_assoc here (map name_held (cond (is_led s i (name_held n)) (n ∷ []) [])) after
    ∙ ap (λ (l : List NameOf). here ++ l) (one (is_led s i (name_held n)))
    ∙ ap (λ (l : List NameOf). here ++ filter (is_led s i) l) (sym is) ∙ so_far i wanted
  where
    one : (b : Bool) → map name_held (cond b (n ∷ []) []) ++ filter (is_led s i) rest ≡ cond b (name_held n ∷ filter (is_led s i) rest) (filter (is_led s i) rest)
    one true = refl
    one false = refl

pub all_led : (s : State) (numbers : BTreeSet ℕ) (groups : BTreeMap ℕ (Vec HeldName Global)) (left : List NameOf) → left ≡ []
    → ((i : ℕ) → contains nat_cmp numbers i ≡ true → map name_held (group_of groups i) ++ filter (is_led s i) left ≡ names_led s i)
    → (i : ℕ) → contains nat_cmp numbers i ≡ true → map name_held (group_of groups i) ≡ names_led s i
all_led s numbers groups left is so_far i wanted =
    sym (append-nil (map name_held (group_of groups i)))
    ∙ ap (λ (l : List NameOf). map name_held (group_of groups i) ++ filter (is_led s i) l) (sym is) ∙ so_far i wanted

-- a name that is not added
not_added : (group : List HeldName) (n : HeldName) (b : Bool) → b ≡ false → group ≡ group ++ cond b (n ∷ []) []
not_added group n b skipped = sym (append-nil group) ∙ ap (λ (c : Bool). group ++ cond c (n ∷ []) []) (sym skipped)

-- a name of another number
pub passed_by : (s : State) (numbers : BTreeSet ℕ) (group : List HeldName) (n : HeldName) (i : ℕ) → contains nat_cmp numbers n.2 ≡ false → contains nat_cmp numbers i ≡ true
    → group ≡ group ++ cond (is_led s i (name_held n)) (n ∷ []) []
passed_by s numbers group n i other wanted = by (n.2 == i) refl
  where
    by : (b : Bool) → (n.2 == i) ≡ b → group ≡ group ++ cond (is_led s i (name_held n)) (n ∷ []) []
    by true e = absurd (false≢true (sym other ∙ ap (contains nat_cmp numbers) (eqb-true n.2 i e) ∙ wanted))
    by false e = not_added group n (is_led s i (name_held n)) (ap (λ (b : Bool). b && leads_to s n.0) e)

-- a name in a directory that no way leads to
pub not_led : (s : State) (group : List HeldName) (n : HeldName) (i : ℕ) → leads_to s n.0 ≡ false → group ≡ group ++ cond (is_led s i (name_held n)) (n ∷ []) []
not_led s group n i nowhere = not_added group n (is_led s i (name_held n)) (ap (λ (b : Bool). (n.2 == i) && b) nowhere ∙ no_and (n.2 == i))
  where
    no_and : (b : Bool) → (b && false) ≡ false
    no_and true = refl
    no_and false = refl

pub led_one : (s : State) (old new : List HeldName) (n : HeldName) (i : ℕ) → leads_to s n.0 ≡ true → new ≡ old ++ cond (n.2 == i) (n ∷ []) [] → new ≡ old ++ cond (is_led s i (name_held n)) (n ∷ []) []
led_one s old new n i there is = is ∙ ap (λ (b : Bool). old ++ cond b (n ∷ []) []) (sym (ap (λ (b : Bool). (n.2 == i) && b) there ∙ and_true (n.2 == i)))
  where
    and_true : (b : Bool) → (b && true) ≡ b
    and_true true = refl
    and_true false = refl

-- the first of some names
pub first_held : (names : List HeldName) (most : ℕ) → map name_held (take (min (length names) most) names) ≡ take most (map name_held names)
first_held [] most = ap (map name_held) (take-nil (min 0 most)) ∙ sym (take-nil most)
first_held (n ∷ names) zero = ap (λ (k : ℕ). map name_held (take k (n ∷ names))) {x = min (length (n ∷ names)) 0} {y = 0} (omega arith)
first_held (n ∷ names) (suc most) =
    ap (λ (k : ℕ). map name_held (take k (n ∷ names))) {x = min (length (n ∷ names)) (suc most)} {y = suc (min (length names) most)} (omega arith)
    ∙ ap (λ (l : List NameOf). name_held n ∷ l) (first_held names most)

pub named_length : (names : List HeldName) (all : List NameOf) → map name_held names ≡ all → length names ≡ length all
named_length names all is = sym (length-map names name_held) ∙ ap (λ (l : List NameOf). length l) is

-- ---- the first names of directories

no_more : (o : Option NameOf) → or_else o None ≡ o
no_more None = refl
no_more (Some n) = refl

pub first_kept : (dirs : BTreeSet ℕ) (firsts : BTreeMap ℕ HeldName) (n : HeldName) → (contains nat_cmp dirs n.2 ≡ true → is_some (get nat_cmp firsts n.2) ≡ true)
    → (i : ℕ) → contains nat_cmp dirs i ≡ true → held_first firsts i ≡ or_else (held_first firsts i) (first_if i n)
first_kept dirs firsts n skipped i there = by (n.2 == i) refl
  where
    kept : (o : Option HeldName) → is_some o ≡ true → option_map name_held o ≡ or_else (option_map name_held o) (Some (name_held n))
    kept None some = absurd (false≢true some)
    kept (Some m) some = refl

    by : (b : Bool) → (n.2 == i) ≡ b → held_first firsts i ≡ or_else (held_first firsts i) (cond b (Some (name_held n)) None)
    by true e =
        let same : n.2 ≡ i = eqb-true n.2 i e in
        kept (get nat_cmp firsts i) (ap (λ (k : ℕ). is_some (get nat_cmp firsts k)) (sym same) ∙ skipped (ap (contains nat_cmp dirs) same ∙ there))
    by false e = sym (no_more (held_first firsts i))

pub first_noted : (old new : BTreeMap ℕ HeldName) (n : HeldName) → is_some (get nat_cmp old n.2) ≡ false
    → ((q : ℕ) → get nat_cmp new q ≡ cond (eq_by_cmp nat_cmp n.2 q) (Some n) (get nat_cmp old q))
    → (i : ℕ) → held_first new i ≡ or_else (held_first old i) (first_if i n)
first_noted old new n absent at i = by (n.2 == i) refl
  where
    was : (o : Option HeldName) → is_some o ≡ false → Some (name_held n) ≡ or_else (option_map name_held o) (Some (name_held n))
    was None none = refl
    was (Some m) none = absurd (false≢true (sym none))

    by : (b : Bool) → (n.2 == i) ≡ b → held_first new i ≡ or_else (held_first old i) (cond b (Some (name_held n)) None)
    by true e =
        ap (option_map name_held) (at i ∙ ap (λ (t : Bool). cond t (Some n) (get nat_cmp old i)) (unsigned_tied n.2 i ∙ e))
        ∙ was (get nat_cmp old i) (ap (λ (k : ℕ). is_some (get nat_cmp old k)) (sym (eqb-true n.2 i e)) ∙ absent)
    by false e =
        ap (option_map name_held) (at i ∙ ap (λ (t : Bool). cond t (Some n) (get nat_cmp old i)) (unsigned_tied n.2 i ∙ e))
        ∙ sym (no_more (held_first old i))

-- so far, and those that are left
abbrev pub FirstsSoFar : State → BTreeSet ℕ → BTreeMap ℕ HeldName → List NameOf → Type 0
FirstsSoFar s dirs firsts left = (i : ℕ) → contains nat_cmp dirs i ≡ true → or_else (held_first firsts i) (find (λ n. n.2 == i) left) ≡ first_name s i

pub firsts_begin : (s : State) (dirs : BTreeSet ℕ) (firsts : BTreeMap ℕ HeldName) (left : List NameOf) → firsts.entries ≡ [] → left ≡ all_entries s → FirstsSoFar s dirs firsts left
unfolding first_name
firsts_begin s dirs firsts left none all i there =
    ap (λ (es : List (ℕ × HeldName)). or_else (option_map name_held (lookup (eq_by_cmp nat_cmp i) es)) (find (λ n. n.2 == i) left)) none
    ∙ ap (find (λ n. n.2 == i)) all

pub firsts_more : (s : State) (dirs : BTreeSet ℕ) (old new : BTreeMap ℕ HeldName) (n : HeldName) (left rest : List NameOf) → left ≡ name_held n ∷ rest
    → ((i : ℕ) → contains nat_cmp dirs i ≡ true → held_first new i ≡ or_else (held_first old i) (first_if i n)) → FirstsSoFar s dirs old left → FirstsSoFar s dirs new rest
firsts_more s dirs old new n left rest is noted so_far i there =
    ap (λ (o : Option NameOf). or_else o (find (λ x. x.2 == i) rest)) (noted i there) ∙ one (held_first old i) (n.2 == i)
    ∙ ap (λ (l : List NameOf). or_else (held_first old i) (find (λ x. x.2 == i) l)) (sym is) ∙ so_far i there
  where
    one : (o : Option NameOf) (b : Bool) → or_else (or_else o (cond b (Some (name_held n)) None)) (find (λ x. x.2 == i) rest) ≡ or_else o (cond b (Some (name_held n)) (find (λ x. x.2 == i) rest))
    one None true = refl
    one None false = refl
    one (Some m) b = refl

pub firsts_all : (s : State) (dirs : BTreeSet ℕ) (firsts : BTreeMap ℕ HeldName) (left : List NameOf) → left ≡ [] → FirstsSoFar s dirs firsts left → AreFirsts s dirs firsts
firsts_all s dirs firsts left none so_far i there =
    sym (no_more (held_first firsts i)) ∙ ap (λ (l : List NameOf). or_else (held_first firsts i) (find (λ x. x.2 == i) l)) (sym none) ∙ so_far i there

-- ---- names of a list, one by one

pub names_next : (xs : List HeldName) (i : ℕ) (d x : HeldName) → i < length xs → x ≡ get_or xs i d → map name_held (drop i xs) ≡ name_held x ∷ map name_held (drop (i + 1) xs)
names_next xs i d x less is =
    ap (map name_held) (drop-cons xs i d less) ∙ ap (λ (y : HeldName). name_held y ∷ map name_held (drop (suc i) xs)) (sym is)
    ∙ ap (λ (k : ℕ). name_held x ∷ map name_held (drop k xs)) (sym (add-one i))

pub no_names_left : (xs : List HeldName) (i : ℕ) → length xs ≤ i → map name_held (drop i xs) ≡ []
no_names_left xs i most = ap (map name_held) (drop_all i xs most)

-- ---- a first name that is looked for

pub is_first_name : (s : State) (i : ℕ) → find (λ n. n.2 == i) (all_entries s) ≡ first_name s i
unfolding first_name
is_first_name s i = refl
