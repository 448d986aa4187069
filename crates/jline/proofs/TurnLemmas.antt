-- Texts that go out one after another, up to a fault.
use Rattle.std.proofs.Common.{◌≡◌, ℕ, ◌+◌, ◌<◌, List, [], ◌∷◌, ◌++◌, length, sym, ap, ◌∙◌, subst, take, drop, get_or, append-nil, Option}
use Rattle.std.specs.Prelude.{Result, IsErr}
use Rattle.std.proofs.lemmas.List.{take-append-drop}
use Rattle.std.proofs.Math.Seq.{drop-cons, take-add}
use Rattle.std.specs.List.{flat_map}
use Rattle.std.proofs.lemmas.Grind.{flat_map-append}
use Rattle.std.specs.Io.KnownBytes.{Appends}
use Rattle.std.proofs.KnownBytes.{Appends-trans}
use Rattle.flashbase.specs.Device.{PutsPart, Puts, next_count}
use Rattle.flashbase.proofs.DeviceLemmas.{first_failed, part_behind}

-- ---- the texts of the items of a list

pub flat_map-split : {X : Type 0} (f : X → List ℕ) (xs : List X) (i : ℕ) → flat_map f (take i xs) ++ flat_map f (drop i xs) ≡ flat_map f xs
flat_map-split f xs i = sym (flat_map-append f (take i xs) (drop i xs)) ∙ ap (flat_map f) (take-append-drop i xs)

pub flat_map-next : {X : Type 0} (f : X → List ℕ) (xs : List X) (i : ℕ) (d x : X) → i < length xs → x ≡ get_or xs i d
    → flat_map f (take i xs) ++ f x ≡ flat_map f (take (i + 1) xs)
flat_map-next {X} f xs i d x within here =
    ap (λ (l : List ℕ). flat_map f (take i xs) ++ l) (sym (append-nil (f x)))
    ∙ sym (flat_map-append f (take i xs) (x ∷ []))
    ∙ ap (λ (l : List X). flat_map f (take i xs ++ l)) (ap (λ (y : X). y ∷ []) here ∙ sym (ap (take 1) (drop-cons xs i d within)))
    ∙ ap (flat_map f) (sym (take-add i 1 xs))

pub flat_map-around : {X : Type 0} (f : X → List ℕ) (xs : List X) (i : ℕ) (d x : X) → i < length xs → x ≡ get_or xs i d
    → (flat_map f (take i xs) ++ f x) ++ flat_map f (drop (i + 1) xs) ≡ flat_map f xs
flat_map-around {X} f xs i d x within here =
    ap (λ (l : List ℕ). l ++ flat_map f (drop (i + 1) xs)) (flat_map-next f xs i d x within here) ∙ flat_map-split f xs (i + 1)

-- the items before one went out, and then its own text as far as it did
pub item_failed : {X T E : Type 0} (f : X → List ℕ) (xs : List X) (i : ℕ) (d x : X) (a b c : Option (List ℕ)) (before mid now : ℕ) (r : Result T E)
    → IsErr r → i < length xs → x ≡ get_or xs i d → Appends a b (flat_map f (take i xs)) → mid ≡ before
    → PutsPart b c (f x) → now ≡ next_count mid → Puts a c before now (flat_map f xs) r
item_failed f xs i d x a b c before mid now r err within here put same part failed =
    subst (λ (l : List ℕ). Puts a c before now l r) (flat_map-around f xs i d x within here)
    (first_failed a c before now (flat_map f (take i xs) ++ f x) (flat_map f (drop (i + 1) xs)) r err
    (part_behind a b c (flat_map f (take i xs)) (f x) put part) (failed ∙ ap next_count same))

-- ---- the texts of the pieces of a list

-- the pieces before one went out, and then its own text
pub piece_put : {X : Type 0} (f : X → List ℕ) (xs : List X) (i n : ℕ) (a b c : Option (List ℕ)) → Appends a b (flat_map f (take i xs))
    → Appends b c (flat_map f (take n (drop i xs))) → Appends a c (flat_map f (take (i + n) xs))
piece_put {X} f xs i n a b c put next =
    subst (Appends a c) (sym (flat_map-append f (take i xs) (take n (drop i xs))) ∙ ap (flat_map f) (sym (take-add i n xs)))
    (Appends-trans a b c _ _ put next)

pub piece_failed : {X T E : Type 0} (f : X → List ℕ) (xs : List X) (i n : ℕ) (a b c : Option (List ℕ)) (before mid now : ℕ) (r : Result T E)
    → IsErr r → Appends a b (flat_map f (take i xs)) → mid ≡ before
    → PutsPart b c (flat_map f (take n (drop i xs))) → now ≡ next_count mid → Puts a c before now (flat_map f xs) r
piece_failed {X} f xs i n a b c before mid now r err put same part failed =
    let upto = flat_map f (take i xs) ++ flat_map f (take n (drop i xs)) in
    let joined : upto ≡ flat_map f (take (i + n) xs) =
    sym (flat_map-append f (take i xs) (take n (drop i xs))) ∙ ap (flat_map f) (sym (take-add i n xs)) in
    subst (λ (l : List ℕ). Puts a c before now l r) (ap (λ (l : List ℕ). l ++ flat_map f (drop (i + n) xs)) joined ∙ flat_map-split f xs (i + n))
    (first_failed a c before now upto (flat_map f (drop (i + n) xs)) r err (part_behind a b c _ _ put part) (failed ∙ ap next_count same))
