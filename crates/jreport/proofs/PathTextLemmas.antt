-- Targets as they are printed.
use Rattle.std.proofs.Common.{◌≡◌, ℕ, ◌≤◌, ◌-◌, Bool, false, nat_lt, min, List, ◌++◌, length, take, drop, take_all, ap, arith, codes, if◌then◌else◌, sym, ◌∙◌}
use Rattle.std.proofs.lemmas.Grind.{common_steps}
use Rattle.jline.specs.Words.{escaped}
use Rattle.jmount.proofs.PieceLemmas.{piece_read}
use Rattle.jreport.specs.TreeText.{target_shown}

pub target_short : (target : List ℕ) → length target ≤ 4095 → codes " -> " ++ escaped target ≡ target_shown target
unfolding target_shown
target_short target short = ap (λ (long : Bool). if long then codes " -> (long)" else codes " -> " ++ escaped target) (sym (ltb-false' (length target) short))
  where
    ltb-false' : (n : ℕ) → n ≤ 4095 → nat_lt 4095 n ≡ false
    ltb-false' n small = grind (arith, common_steps)

-- a symlink's target, as it was read
pub target_read : (target old new : List ℕ) (n : ℕ) → n ≡ min 4095 (length target - 0) → new ≡ take n (drop 0 target) ++ drop n old → length target ≤ 4095
    → take n new ≡ target
target_read target old new n count is short = piece_read target old new 0 n 4095 count is ∙ take_all n target (omega (arith, count))
