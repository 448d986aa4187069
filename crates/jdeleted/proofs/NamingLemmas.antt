-- Names that are cut.
use Rattle.std.proofs.Common.{ℕ, zero, suc, ◌≤◌, Bool, true, false, cond, List, arith}
use Rattle.std.specs.Prelude.{slice_index}
use Rattle.jdeleted.specs.Naming.{cut_len, is_inner_byte}

cut_by : (name : List ℕ) (n : ℕ) (b : Bool) → cut_len name n ≤ n → cond b (cut_len name n) (suc n) ≤ suc n
cut_by name n true h = omega arith
cut_by name n false h = omega arith

pub cut_within : (name : List ℕ) (n : ℕ) → cut_len name n ≤ n
cut_within name zero = omega arith
cut_within name (suc n) = cut_by name n (is_inner_byte (slice_index name (suc n))) (cut_within name n)
