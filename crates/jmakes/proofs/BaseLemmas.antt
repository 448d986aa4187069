-- What is told of a base: two notes, of which each may be missing.
use Rattle.std.proofs.Common.{◌≡◌, ℕ, List, ◌++◌, Option, Some, None, Result, refl, subst, sym}
use Rattle.std.proofs.lemmas.List.{append-nil}
use Rattle.flashbase.specs.Device.{Puts}
use Rattle.jmakes.specs.Notes.{both_said, text_or_none}

both_text : (first second : Option (List ℕ)) → text_or_none first ++ text_or_none second ≡ text_or_none (both_said first second)
both_text None second = refl
both_text (Some first) None = append-nil first
both_text (Some first) (Some second) = refl

-- one text was put, and then the other
pub both_put : {T E : Type 0} (old new : Option (List ℕ)) (before now : ℕ) (first second : Option (List ℕ)) (r : Result T E)
    → Puts old new before now (text_or_none first ++ text_or_none second) r → Puts old new before now (text_or_none (both_said first second)) r
both_put old new before now first second r put = subst (λ (text : List ℕ). Puts old new before now text r) (both_text first second) put

pub first_alone : (first : Option (List ℕ)) → first ≡ both_said first None
first_alone None = refl
first_alone (Some first) = refl

pub with_second : (first : Option (List ℕ)) (second : List ℕ) → Some (text_or_none (both_said first (Some second))) ≡ both_said first (Some second)
with_second None second = refl
with_second (Some first) second = refl
