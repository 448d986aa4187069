-- How `pack` ends that left out objects.
use Rattle.std.proofs.Common.{◌≡◌, ◌∙◌, ℕ, Bool, true, false, ap, refl, sym}
use Rattle.std.specs.Prelude.{◌==◌, if◌then◌else◌}
use Rattle.jcommand.specs.Status.{outcome_of}
use Rattle.jcommand.specs.declared.outcome.Outcome.{Outcome}
use Rattle.jcommand.specs.declared.outcome.Outcome.TheVariants as outcome
use Rattle.jedge.specs.Told.{either}

ends_by : (b : Bool) (n m : ℕ) (is with : Outcome) → (n == 0) ≡ b → is ≡ outcome_of m → with ≡ (if b then is else outcome.Found) → with ≡ outcome_of (if b then m else n)
ends_by true n m is with zero ended same = same ∙ ended
ends_by false n m is with zero ended same = same ∙ sym (ap (λ (c : Bool). if c then outcome.Done else outcome.Found) zero)

pub ends_with : (left_out m : ℕ) (is with : Outcome) → is ≡ outcome_of m → with ≡ (if left_out == 0 then is else outcome.Found) → with ≡ outcome_of (either left_out m)
ends_with left_out m is with ended same = ends_by (left_out == 0) left_out m is with refl ended same
