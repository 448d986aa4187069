-- Bytes that go out piece by piece, and texts that go out one after another, up to a fault.
use Rattle.std.proofs.Common.{◌≡◌, ℕ, ◌+◌, ◌-◌, List, ◌++◌, Option, length, take, drop, sym, refl, Bool, true, false, nat_lt, subst, ap, ◌∙◌, arith, take_all}
use Rattle.std.proofs.Math.Seq.{take-add, take-append_seam, take-append-add}
use Rattle.std.proofs.lemmas.List.{take_rest, take-append-le}
use Rattle.std.proofs.lemmas.Bool.{ltb-true, ltb-false}
use Rattle.std.specs.Io.KnownBytes.{Appends}
use Rattle.std.proofs.KnownBytes.{Appends-trans}
use Rattle.std.specs.Prelude.{Result, Ok, Err, IsErr}
use Rattle.flashbase.specs.Device.{PutsPart, Puts, next_count}

-- the first i bytes went out, and then n more of the slice that begins there
pub Appends-take : (a b c : Option (List ℕ)) (bytes : List ℕ) (i n : ℕ) → Appends a b (take i bytes)
    → Appends b c (take n (take (length bytes - i) (drop i bytes))) → Appends a c (take (i + n) bytes)
Appends-take a b c bytes i n before now =
    subst (Appends a c) (ap (λ l. take i bytes ++ take n l) (take_rest bytes i) ∙ sym (take-add i n bytes))
    (Appends-trans a b c _ _ before now)

-- a beginning of a text begins any text that goes on from it
pub part_before : (a b : Option (List ℕ)) (s t : List ℕ) → PutsPart a b s → PutsPart a b (s ++ t)
part_before a b s t part = by (nat_lt (length s) part.0) refl
  where
    by : (long : Bool) → nat_lt (length s) part.0 ≡ long → PutsPart a b (s ++ t)
    by true e =
        let all : take part.0 s ≡ take (length s) (s ++ t) = take_all part.0 s (omega (arith, ltb-true _ _ e)) ∙ sym (take-append_seam s t) in
        (length s, subst (Appends a b) all part.1)
    by false e = (part.0, subst (Appends a b) (sym (take-append-le part.0 s t (ltb-false _ _ e))) part.1)

-- a whole text and a beginning of the next
pub part_behind : (a b c : Option (List ℕ)) (s t : List ℕ) → Appends a b s → PutsPart b c t → PutsPart a c (s ++ t)
part_behind a b c s t whole part =
    (length s + part.0, subst (Appends a c) (sym (take-append-add s t part.0)) (Appends-trans a b c _ _ whole part.1))

-- ---- two texts, up to a fault

-- the first failed
pub first_failed : {T E : Type 0} (old new : Option (List ℕ)) (before now : ℕ) (s t : List ℕ) (r : Result T E) → IsErr r
    → PutsPart old new s → now ≡ next_count before → Puts old new before now (s ++ t) r
first_failed old new before now s t (Ok x) err part failed = cc
first_failed old new before now s t (Err e) err part failed = (part_before old new s t part, failed)

-- the first went out, and then the other as far as it did
pub then_puts : {T E : Type 0} (a b c : Option (List ℕ)) (before mid now : ℕ) (s t : List ℕ) (r : Result T E)
    → Appends a b s → mid ≡ before → Puts b c mid now t r → Puts a c before now (s ++ t) r
then_puts a b c before mid now s t (Ok x) put same next = (Appends-trans a b c s t put next.0, next.1 ∙ same)
then_puts a b c before mid now s t (Err e) put same next = (part_behind a b c s t put next.0, next.1 ∙ ap next_count same)

-- the call for the other failed
pub then_failed : {T E : Type 0} (a b c : Option (List ℕ)) (before mid now : ℕ) (s t : List ℕ) (r : Result T E) → IsErr r
    → Appends a b s → mid ≡ before → PutsPart b c t → now ≡ next_count mid → Puts a c before now (s ++ t) r
then_failed a b c before mid now s t (Ok x) err put same part failed = cc
then_failed a b c before mid now s t (Err e) err put same part failed = (part_behind a b c s t put part, failed ∙ ap next_count same)
