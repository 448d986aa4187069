-- Of nodes that pass a test, one that is above all others that do.
use Rattle.std.proofs.Common.{◌≡◌, ℕ, ◌<◌, ◌≤◌, Bool, true, false, cond, List, [], ◌∷◌, map, Option, Some, None, refl, ap, sym, subst, ◌∙◌, arith, inl, inr, ⊎_elim}
use Rattle.std.specs.Prelude.{◌⊎◌, ◌&&◌, ◌||◌, ◌==◌, nat_lt, not, filter, Contains}
use Rattle.std.specs.List.{list_any, Any}
use Rattle.std.proofs.lemmas.Bool.{ltb-true, ltb-false, eqb-true, eq-eqb, false_from_ne_true, true≢false, false≢true}
use Rattle.std.proofs.lemmas.List.Elements.{Contains-get_or}
use Rattle.std.proofs.lemmas.List.Folds.{list_any_at, list_any_none, Any-from_list_any}
use Rattle.flashbase.specs.Lists.{newest}
use Rattle.flashbase.proofs.ListLemmas.{newest_is_newest, newest_of_none}
use Rattle.flashbase.proofs.MemberLemmas.{Contains-none, Contains-here, Contains-there, Contains-filter, Contains-filter_from}
use Rattle.jname.proofs.LiveLemmas.{both_true}
use Rattle.jmount.specs.StateOf.{version_of}
use Rattle.jcompact.specs.Matters.{Placed, is_above}

-- ---- tests

pub either_true : (b c : Bool) → (b || c) ≡ true → (b ≡ true) ⊎ (c ≡ true)
either_true true c h = inl refl
either_true false c h = inr h

pub left_or : (b c : Bool) → b ≡ true → (b || c) ≡ true
left_or b c h = ap (λ (x : Bool). x || c) h

pub right_or : (b c : Bool) → c ≡ true → (b || c) ≡ true
right_or true c h = refl
right_or false c h = h

pub both : (b c : Bool) → b ≡ true → c ≡ true → (b && c) ≡ true
both b c h k = ap (λ (x : Bool). x && c) h ∙ k

pub not_true : (b : Bool) → not b ≡ true → b ≡ false
not_true true h = absurd (false≢true h)
not_true false h = refl

pub any_of : {X : Type 0} (p : X → Bool) (xs : List X) (x : X) → Contains xs x → p x ≡ true → list_any p xs ≡ true
any_of p xs x (k, within, at_k) h = list_any_at p xs k x within (ap p at_k ∙ h)

of_any : {X : Type 0} (p : X → Bool) (xs : List X) → Any (λ x. p x ≡ true) xs → (x : X) × Contains xs x × (p x ≡ true)
of_any p xs (k, x, k_in, at_k, here) = (x, (k, k_in, at_k), here)

pub any_from : {X : Type 0} (p : X → Bool) (xs : List X) → list_any p xs ≡ true → (x : X) × Contains xs x × (p x ≡ true)
any_from p xs h = of_any p xs (Any-from_list_any p xs h)

pub none_of : {X : Type 0} (p : X → Bool) (xs : List X) → list_any p xs ≡ false → (x : X) → Contains xs x → p x ≡ false
none_of p xs none x c = false_from_ne_true (p x) (λ h. true≢false (sym (any_of p xs x c h) ∙ none))

pub none_any : {X : Type 0} (p : X → Bool) (xs : List X) → ((x : X) → Contains xs x → p x ≡ false) → list_any p xs ≡ false
none_any p xs h = list_any_none p xs (λ k d l. h _ (Contains-get_or xs k d l))

pub map_same : {X Y : Type 0} (f g : X → Y) (xs : List X) → ((x : X) → Contains xs x → f x ≡ g x) → map f xs ≡ map g xs
map_same f g [] h = refl
map_same f g (x ∷ xs) h = λ i. h x (Contains-here x xs) i ∷ map_same f g xs (λ y c. h y (Contains-there x xs y c)) i

pub filter_all : {X : Type 0} (p : X → Bool) (xs : List X) → ((x : X) → Contains xs x → p x ≡ true) → filter p xs ≡ xs
filter_all p [] h = refl
filter_all {X} p (x ∷ xs) h =
    ap (λ (b : Bool). cond b (x ∷ filter p xs) (filter p xs)) (h x (Contains-here x xs))
    ∙ ap (λ (ys : List X). x ∷ ys) (filter_all p xs (λ y c. h y (Contains-there x xs y c)))

-- ---- above

pub above_cases : (m n : Placed) → is_above m n ≡ true → (version_of n.1 < version_of m.1) ⊎ ((version_of m.1 ≡ version_of n.1) × (n.0 < m.0))
above_cases m n h =
    ⊎_elim
    (λ a. inl (ltb-true (version_of n.1) (version_of m.1) a))
    (λ b. let parts = both_true (version_of m.1 == version_of n.1) (nat_lt n.0 m.0) b in inr (eqb-true _ _ parts.0, ltb-true _ _ parts.1))
    (either_true (nat_lt (version_of n.1) (version_of m.1)) ((version_of m.1 == version_of n.1) && nat_lt n.0 m.0) h)

-- what is not above has no higher version
pub not_above : (m n : Placed) → is_above m n ≡ false → version_of m.1 ≤ version_of n.1
not_above m n h = by (nat_lt (version_of n.1) (version_of m.1)) refl
  where
    by : (b : Bool) → nat_lt (version_of n.1) (version_of m.1) ≡ b → version_of m.1 ≤ version_of n.1
    by true e = absurd (true≢false (sym (left_or (nat_lt (version_of n.1) (version_of m.1)) ((version_of m.1 == version_of n.1) && nat_lt n.0 m.0) e) ∙ h))
    by false e = omega (arith, ltb-false _ _ e)

-- ---- one that none is above

newest_there : {X : Type 0} (version : X → ℕ) (xs : List X) (x : X) → Contains xs x → (y : X) × Contains xs y × ((z : X) → Contains xs z → version z ≤ version y)
newest_there {X} version xs x c = by (newest version xs) refl
  where
    by : (o : Option X) → newest version xs ≡ o → (y : X) × Contains xs y × ((z : X) → Contains xs z → version z ≤ version y)
    by None e = absurd (Contains-none x (subst (λ (ys : List X). Contains ys x) (newest_of_none xs version e) c))
    by (Some y) e = let is = newest_is_newest xs version y e in (y, is.0, is.1)

pub record IsTopOf (p : Placed → Bool) (ns : List Placed) (n y : Placed) : Type 0 where
  pub there : Contains ns y
  pub passes : p y ≡ true
  pub high : version_of n.1 ≤ version_of y.1
  pub none : (m : Placed) → Contains ns m → p m ≡ true → is_above m y ≡ false

pub top_of : (p : Placed → Bool) (ns : List Placed) (n : Placed) → Contains ns n → p n ≡ true → (y : Placed) × IsTopOf p ns n y
top_of p ns n c h =
    let first = newest_there (λ (m : Placed). version_of m.1) (filter p ns) n (Contains-filter p ns n h c) in
    let x : Placed = first.0 in
    let in_x = Contains-filter_from p ns x first.1 in
    let q = λ (m : Placed). p m && (version_of m.1 == version_of x.1) in
    let last = newest_there (λ (m : Placed). m.0) (filter q ns) x (Contains-filter q ns x (both (p x) (version_of x.1 == version_of x.1) in_x.1 (eq-eqb _ _ refl)) in_x.0) in
    let y : Placed = last.0 in
    let in_y = Contains-filter_from q ns y last.1 in
    let parts = both_true (p y) (version_of y.1 == version_of x.1) in_y.1 in
    let same : version_of y.1 ≡ version_of x.1 = eqb-true _ _ parts.1 in
    let front : version_of n.1 ≤ version_of x.1 = first.2 n (Contains-filter p ns n h c) in (
      y,
      record {
        there = in_y.0;
        passes = parts.0;
        high = omega arith;
        none = λ m cm pm.
            false_from_ne_true (is_above m y)
            (λ up.
            ⊎_elim
            (λ (more : version_of y.1 < version_of m.1). let le : version_of m.1 ≤ version_of x.1 = first.2 m (Contains-filter p ns m pm cm) in absurd (omega arith))
            (λ (tie : (version_of m.1 ≡ version_of y.1) × (y.0 < m.0)).
            let le : m.0 ≤ y.0 = last.2 m (Contains-filter q ns m (both (p m) (version_of m.1 == version_of x.1) pm (eq-eqb _ _ (tie.0 ∙ same))) cm) in
            let lt : y.0 < m.0 = tie.1 in absurd (omega arith))
            (above_cases m y up));
      },
    )
