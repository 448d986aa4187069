-- Lists that are merged into one.
use Rattle.std.proofs.Common.{◌≡◌, ℕ, ◌+◌, Bool, true, false, cond, List, [], ◌∷◌, ◌++◌, length, filter_map, refl, sym, ap, ap₂, subst, ◌∙◌, arith, inl, inr, Option, None, Some, Contains, length-append}
use Rattle.std.specs.Prelude.{filter, flat_map, ◌||◌}
use Rattle.std.specs.List.{cons_option, list_any}
use Rattle.flashbase.proofs.MemberLemmas.{Contains-here, Contains-there}
use Rattle.jrow.specs.Merging.{Interleaves}

-- ---- what stands in front

pub merged_left : {X : Type 0} (fs xs ys zs : List X) → Interleaves xs ys zs → Interleaves (fs ++ xs) ys (fs ++ zs)
merged_left [] xs ys zs h = h
merged_left (f ∷ fs) xs ys zs h = inl (fs ++ xs, refl, merged_left fs xs ys zs h)

pub merged_right : {X : Type 0} (fs xs ys zs : List X) → Interleaves xs ys zs → Interleaves xs (fs ++ ys) (fs ++ zs)
merged_right [] xs ys zs h = h
merged_right (f ∷ fs) xs ys zs h = inr (fs ++ ys, refl, merged_right fs xs ys zs h)

-- ---- lists for numbers, of which those that pass a test are the one's, and the others the other's

pub merged_by_test : {X : Type 0} (p : ℕ → Bool) (f g : ℕ → List X) (ks : List ℕ) → ((k : ℕ) → Contains ks k → p k ≡ true → g k ≡ [])
    → ((k : ℕ) → Contains ks k → p k ≡ false → f k ≡ g k)
    → Interleaves (flat_map g ks) (flat_map f (filter p ks)) (flat_map f ks)
merged_by_test p f g [] none same = (refl, refl)
merged_by_test {X} p f g (k ∷ ks) none same =
    by_case (p k) refl (merged_by_test p f g ks (λ j has. none j (Contains-there k ks j has)) (λ j has. same j (Contains-there k ks j has)))
  where
    by_case : (b : Bool) → p k ≡ b → Interleaves (flat_map g ks) (flat_map f (filter p ks)) (flat_map f ks)
        → Interleaves (g k ++ flat_map g ks) (flat_map f (cond b (k ∷ filter p ks) (filter p ks))) (f k ++ flat_map f ks)
    by_case true passes later =
        subst (λ (l : List X). Interleaves (l ++ flat_map g ks) (f k ++ flat_map f (filter p ks)) (f k ++ flat_map f ks)) (sym (none k (Contains-here k ks) passes))
        (merged_right (f k) (flat_map g ks) (flat_map f (filter p ks)) (flat_map f ks) later)
    by_case false fails later =
        subst (λ (l : List X). Interleaves (g k ++ flat_map g ks) (flat_map f (filter p ks)) (l ++ flat_map f ks)) (sym (same k (Contains-here k ks) fails))
        (merged_left (g k) (flat_map g ks) (flat_map f (filter p ks)) (flat_map f ks) later)

-- ---- what is taken of each element

option_left : {Y : Type 0} (o : Option Y) (xs ys zs : List Y) → Interleaves xs ys zs → Interleaves (cons_option o xs) ys (cons_option o zs)
option_left None xs ys zs h = h
option_left (Some y) xs ys zs h = inl (xs, refl, h)

option_right : {Y : Type 0} (o : Option Y) (xs ys zs : List Y) → Interleaves xs ys zs → Interleaves xs (cons_option o ys) (cons_option o zs)
option_right None xs ys zs h = h
option_right (Some y) xs ys zs h = inr (ys, refl, h)

pub merged_taken : {X Y : Type 0} (f : X → Option Y) (xs ys zs : List X) → Interleaves xs ys zs → Interleaves (filter_map f xs) (filter_map f ys) (filter_map f zs)
merged_taken f xs ys [] h = (ap (filter_map f) h.0, ap (filter_map f) h.1)
merged_taken {X} {Y} f xs ys (z ∷ zs) (inl (rest, is, more)) =
    subst (λ (l : List X). Interleaves (filter_map f l) (filter_map f ys) (cons_option (f z) (filter_map f zs))) (sym is)
    (option_left (f z) (filter_map f rest) (filter_map f ys) (filter_map f zs) (merged_taken f rest ys zs more))
merged_taken {X} {Y} f xs ys (z ∷ zs) (inr (rest, is, more)) =
    subst (λ (l : List X). Interleaves (filter_map f xs) (filter_map f l) (cons_option (f z) (filter_map f zs))) (sym is)
    (option_right (f z) (filter_map f xs) (filter_map f rest) (filter_map f zs) (merged_taken f xs rest zs more))

-- ---- lengths and tests

pub merged_length : {X Y : Type 0} (f : X → List Y) (xs ys zs : List X) → Interleaves xs ys zs → length (flat_map f zs) ≡ length (flat_map f xs) + length (flat_map f ys)
merged_length f xs ys [] h =
    let left : length (flat_map f xs) ≡ 0 = ap (λ l. length (flat_map f l)) h.0 in
    let right : length (flat_map f ys) ≡ 0 = ap (λ l. length (flat_map f l)) h.1 in
    omega (arith, left, right)
merged_length {X} f xs ys (z ∷ zs) (inl (rest, is, more)) =
    let front : length (flat_map f xs) ≡ length (f z ++ flat_map f rest) = ap (λ (l : List X). length (flat_map f l)) is in
    omega (arith, front, length-append (f z) (flat_map f rest), length-append (f z) (flat_map f zs), merged_length f rest ys zs more)
merged_length {X} f xs ys (z ∷ zs) (inr (rest, is, more)) =
    let front : length (flat_map f ys) ≡ length (f z ++ flat_map f rest) = ap (λ (l : List X). length (flat_map f l)) is in
    omega (arith, front, length-append (f z) (flat_map f rest), length-append (f z) (flat_map f zs), merged_length f xs rest zs more)

or_assoc : (a b c : Bool) → (a || (b || c)) ≡ ((a || b) || c)
or_assoc true b c = refl
or_assoc false b c = refl

or_swap : (a b c : Bool) → (a || (b || c)) ≡ (b || (a || c))
or_swap true true c = refl
or_swap true false c = refl
or_swap false b c = refl

pub merged_any : {X : Type 0} (p : X → Bool) (xs ys zs : List X) → Interleaves xs ys zs → list_any p zs ≡ (list_any p xs || list_any p ys)
merged_any p xs ys [] h = ap₂ (λ (a b : Bool). a || b) (sym (ap (list_any p) h.0)) (sym (ap (list_any p) h.1))
merged_any {X} p xs ys (z ∷ zs) (inl (rest, is, more)) =
    ap (λ (b : Bool). p z || b) (merged_any p rest ys zs more)
    ∙ (or_assoc (p z) (list_any p rest) (list_any p ys) ∙ ap (λ (l : List X). list_any p l || list_any p ys) (sym is))
merged_any {X} p xs ys (z ∷ zs) (inr (rest, is, more)) =
    ap (λ (b : Bool). p z || b) (merged_any p xs rest zs more)
    ∙ (or_swap (p z) (list_any p xs) (list_any p rest) ∙ ap (λ (l : List X). list_any p xs || list_any p l) (sym is))
