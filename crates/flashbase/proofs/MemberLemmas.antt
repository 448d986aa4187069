-- The elements of lists that are built from lists.
use Rattle.std.proofs.Common.{◌≡◌, ℕ, zero, suc, ◌<◌, Bool, true, false, cond, List, [], ◌∷◌, ◌++◌, map, Option, Some, None, refl, ap, sym, ◌∙◌, subst, ⊎_elim, inl, inr, arith, get_or}
use Rattle.std.specs.Prelude.{◌⊎◌, Contains, filter, filter_map}
use Rattle.std.specs.List.{flat_map, cons_option}
use Rattle.std.specs.Map.{lookup, set_value}
use Rattle.std.proofs.lemmas.Bool.{false≢true, cases_lt}
use Rattle.std.proofs.lemmas.Option.{same_Some}
use Rattle.std.proofs.lemmas.List.Elements.{Contains-append_left, Contains-append_right, Contains-append_cases, Contains-push, Contains-push_cases}
use Rattle.flashbase.specs.Lists.{below}

pub Contains-none : {X : Type 0} (x : X) → Contains [] x → ⊥
Contains-none x h = let below : h.0 < 0 = h.1 in absurd (omega arith)

pub Contains-here : {X : Type 0} (x : X) (xs : List X) → Contains (x ∷ xs) x
Contains-here x xs = (zero, omega arith, refl)

pub Contains-there : {X : Type 0} (y : X) (xs : List X) (x : X) → Contains xs x → Contains (y ∷ xs) x
Contains-there y xs x h = Contains-append_right (y ∷ []) xs x h

only_one : {X : Type 0} (y x : X) → Contains (y ∷ []) x → y ≡ x
only_one y x h = by_index h.0 h.1 h.2
  where
    by_index : (k : ℕ) → k < 1 → get_or (y ∷ []) k x ≡ x → y ≡ x
    by_index zero lt e = e
    by_index (suc k) lt e = absurd (omega arith)

pub Contains-cases : {X : Type 0} (y : X) (xs : List X) (x : X) → Contains (y ∷ xs) x → (y ≡ x) ⊎ Contains xs x
Contains-cases y xs x h = ⊎_elim (λ here. inl (only_one y x here)) (λ there. inr there) (Contains-append_cases (y ∷ []) xs x h)

pub Contains-map : {X Y : Type 0} (f : X → Y) (xs : List X) (x : X) → Contains xs x → Contains (map f xs) (f x)
Contains-map f [] x h = absurd (Contains-none x h)
Contains-map f (y ∷ ys) x h =
    ⊎_elim
    (λ (e : y ≡ x). subst (λ z. Contains (f y ∷ map f ys) (f z)) e (Contains-here (f y) (map f ys)))
    (λ later. Contains-there (f y) (map f ys) (f x) (Contains-map f ys x later))
    (Contains-cases y ys x h)

pub Contains-map_from : {X Y : Type 0} (f : X → Y) (xs : List X) (y : Y) → Contains (map f xs) y → (x : X) × Contains xs x × (f x ≡ y)
Contains-map_from f [] y h = absurd (Contains-none y h)
Contains-map_from f (x ∷ xs) y h =
    ⊎_elim
    (λ e. (x, Contains-here x xs, e))
    (λ later. let found = Contains-map_from f xs y later in (found.0, Contains-there x xs found.0 found.1, found.2))
    (Contains-cases (f x) (map f xs) y h)

pub Contains-flat_map : {X Y : Type 0} (f : X → List Y) (xs : List X) (x : X) (y : Y) → Contains xs x → Contains (f x) y → Contains (flat_map f xs) y
Contains-flat_map f [] x y h in_x = absurd (Contains-none x h)
Contains-flat_map f (z ∷ zs) x y h in_x =
    ⊎_elim
    (λ (e : z ≡ x). Contains-append_left (f z) (flat_map f zs) y (subst (λ w. Contains (f w) y) (sym e) in_x))
    (λ later. Contains-append_right (f z) (flat_map f zs) y (Contains-flat_map f zs x y later in_x))
    (Contains-cases z zs x h)

pub Contains-flat_map_from : {X Y : Type 0} (f : X → List Y) (xs : List X) (y : Y) → Contains (flat_map f xs) y → (x : X) × Contains xs x × Contains (f x) y
Contains-flat_map_from f [] y h = absurd (Contains-none y h)
Contains-flat_map_from f (x ∷ xs) y h =
    ⊎_elim
    (λ here. (x, Contains-here x xs, here))
    (λ later. let found = Contains-flat_map_from f xs y later in (found.0, Contains-there x xs found.0 found.1, found.2))
    (Contains-append_cases (f x) (flat_map f xs) y h)

in_cons_option : {Y : Type 0} (o : Option Y) (ys : List Y) (y : Y) → o ≡ Some y → Contains (cons_option o ys) y
in_cons_option None ys y is = let no : None ≡ Some y = is in cc
in_cons_option (Some x) ys y is = subst (λ z. Contains (x ∷ ys) z) (same_Some x y is) (Contains-here x ys)

in_cons_option_later : {Y : Type 0} (o : Option Y) (ys : List Y) (y : Y) → Contains ys y → Contains (cons_option o ys) y
in_cons_option_later None ys y h = h
in_cons_option_later (Some x) ys y h = Contains-there x ys y h

pub Contains-filter_map : {X Y : Type 0} (f : X → Option Y) (xs : List X) (x : X) (y : Y) → Contains xs x → f x ≡ Some y → Contains (filter_map f xs) y
Contains-filter_map f [] x y h is = absurd (Contains-none x h)
Contains-filter_map f (z ∷ zs) x y h is =
    ⊎_elim
    (λ (same : z ≡ x). in_cons_option (f z) (filter_map f zs) y (ap f same ∙ is))
    (λ later. in_cons_option_later (f z) (filter_map f zs) y (Contains-filter_map f zs x y later is))
    (Contains-cases z zs x h)

from_cons_option : {X Y : Type 0} (f : X → Option Y) (z : X) (zs : List X) (o : Option Y) (ys : List Y) (y : Y) → f z ≡ o → Contains (cons_option o ys) y
    → (Contains ys y → (x : X) × Contains zs x × (f x ≡ Some y)) → (x : X) × Contains (z ∷ zs) x × (f x ≡ Some y)
from_cons_option f z zs None ys y is h later = let found = later h in (found.0, Contains-there z zs found.0 found.1, found.2)
from_cons_option f z zs (Some w) ys y is h later =
    ⊎_elim
    (λ (same : w ≡ y). (z, Contains-here z zs, is ∙ ap Some same))
    (λ there. let found = later there in (found.0, Contains-there z zs found.0 found.1, found.2))
    (Contains-cases w ys y h)

pub Contains-filter_map_from : {X Y : Type 0} (f : X → Option Y) (xs : List X) (y : Y) → Contains (filter_map f xs) y → (x : X) × Contains xs x × (f x ≡ Some y)
Contains-filter_map_from f [] y h = absurd (Contains-none y h)
Contains-filter_map_from f (z ∷ zs) y h = from_cons_option f z zs (f z) (filter_map f zs) y refl h (Contains-filter_map_from f zs y)

in_filter : {X : Type 0} (b : Bool) (y : X) (ys : List X) (x : X) → b ≡ true → y ≡ x → Contains (cond b (y ∷ ys) ys) x
in_filter true y ys x t e = subst (λ z. Contains (y ∷ ys) z) e (Contains-here y ys)
in_filter false y ys x t e = absurd (false≢true t)

in_filter_later : {X : Type 0} (b : Bool) (y : X) (ys : List X) (x : X) → Contains ys x → Contains (cond b (y ∷ ys) ys) x
in_filter_later true y ys x h = Contains-there y ys x h
in_filter_later false y ys x h = h

pub Contains-filter : {X : Type 0} (p : X → Bool) (xs : List X) (x : X) → p x ≡ true → Contains xs x → Contains (filter p xs) x
Contains-filter p [] x t h = absurd (Contains-none x h)
Contains-filter p (y ∷ ys) x t h =
    ⊎_elim
    (λ (e : y ≡ x). in_filter (p y) y (filter p ys) x (ap p e ∙ t) e)
    (λ later. in_filter_later (p y) y (filter p ys) x (Contains-filter p ys x t later))
    (Contains-cases y ys x h)

from_filter : {X : Type 0} (p : X → Bool) (b : Bool) (y : X) (ys : List X) (x : X) → p y ≡ b → Contains (cond b (y ∷ ys) ys) x → ((p y ≡ true) × (y ≡ x)) ⊎ Contains ys x
from_filter p true y ys x e h = ⊎_elim (λ here. inl (e, here)) (λ later. inr later) (Contains-cases y ys x h)
from_filter p false y ys x e h = inr h

pub Contains-filter_from : {X : Type 0} (p : X → Bool) (xs : List X) (x : X) → Contains (filter p xs) x → Contains xs x × (p x ≡ true)
Contains-filter_from p [] x h = absurd (Contains-none x h)
Contains-filter_from p (y ∷ ys) x h =
    ⊎_elim
    (λ here. (subst (λ z. Contains (y ∷ ys) z) here.1 (Contains-here y ys), ap p (sym here.1) ∙ here.0))
    (λ later. let found = Contains-filter_from p ys x later in (Contains-there y ys x found.0, found.1))
    (from_filter p (p y) y (filter p ys) x refl h)

-- a list around one of its elements
pub split_around : {X : Type 0} (xs : List X) (x : X) → Contains xs x → (before after : List X) × (xs ≡ before ++ x ∷ after)
split_around [] x h = absurd (Contains-none x h)
split_around (y ∷ ys) x h =
    ⊎_elim
    (λ (same : y ≡ x). ([], ys, ap (λ z. z ∷ ys) same))
    (λ later. let found = split_around ys x later in (y ∷ found.0, found.1, ap (λ l. y ∷ l) found.2))
    (Contains-cases y ys x h)

-- ---- the numbers below a bound

pub Contains-below : (n k : ℕ) → k < n → Contains (below n) k
Contains-below zero k less = absurd (omega arith)
Contains-below (suc n) k less =
    ⊎_elim
    (λ (before : k < n). Contains-append_left (below n) (n ∷ []) k (Contains-below n k before))
    (λ last. let same : n ≡ k = omega arith in subst (Contains (below n ++ n ∷ [])) same (Contains-push (below n) n))
    (cases_lt k n)

pub Contains-below_from : (n k : ℕ) → Contains (below n) k → k < n
Contains-below_from zero k h = absurd (Contains-none k h)
Contains-below_from (suc n) k h =
    ⊎_elim
    (λ before. let less : k < n = Contains-below_from n k before in omega arith)
    (λ (last : n ≡ k). omega arith)
    (Contains-push_cases (below n) n k h)

-- ---- a look-up that takes any test

found_at : {K X : Type 0} (test : K → Bool) (b : Bool) (e : K × X) (es : List (K × X)) (x : X) → test e.0 ≡ b → cond b (Some e.1) (lookup test es) ≡ Some x
    → (lookup test es ≡ Some x → (k : K) × Contains es (k, x) × (test k ≡ true)) → (k : K) × Contains (e ∷ es) (k, x) × (test k ≡ true)
found_at test true e es x t found later =
    let same : e.1 ≡ x = same_Some e.1 x found in
    (e.0, subst (λ y. Contains (e ∷ es) (e.0, y)) same (Contains-here e es), t)
found_at test false e es x t found later = let deep = later found in (deep.0, Contains-there e es (deep.0, x) deep.1, deep.2)

pub Contains-lookup : {K X : Type 0} (test : K → Bool) (es : List (K × X)) (x : X) → lookup test es ≡ Some x → (k : K) × Contains es (k, x) × (test k ≡ true)
Contains-lookup test [] x h = let no : None ≡ Some x = h in cc
Contains-lookup test (e ∷ es) x h = found_at test (test e.0) e es x refl h (Contains-lookup test es x)

-- ---- a value is written that shows as the one before it

written : {K X Y : Type 0} (f : K × X → Y) (b : Bool) (e : K × X) (es later : List (K × X)) (old new : X) (found : Option X) → cond b (Some e.1) found ≡ Some old
    → ((k : K) → f (k, new) ≡ f (k, old)) → (found ≡ Some old → map f later ≡ map f es) → map f (cond b ((e.0, new) ∷ es) (e ∷ later)) ≡ f e ∷ map f es
written f true e es later old new found h same rest =
    let was : e.1 ≡ old = same_Some e.1 old h in
    ap (λ y. y ∷ map f es) (same e.0 ∙ ap (λ x. f (e.0, x)) (sym was))
written f false e es later old new found h same rest = ap (λ ys. f e ∷ ys) (rest h)

pub map-set_value : {K X Y : Type 0} (f : K × X → Y) (test : K → Bool) (es : List (K × X)) (old new : X) → lookup test es ≡ Some old → ((k : K) → f (k, new) ≡ f (k, old)) → map f (set_value test es new) ≡ map f es
map-set_value f test [] old new h same = refl
map-set_value f test (e ∷ es) old new h same =
    written f (test e.0) e es (set_value test es new) old new (lookup test es) h same (λ deep. map-set_value f test es old new deep same)
