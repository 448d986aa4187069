-- A base's bytes up to an address.
use Rattle.std.proofs.Common.{◌≡◌, ℕ, ◌+◌, ◌-◌, ◌≤◌, List, ◌++◌, length, take, ap, ◌∙◌, sym, arith}
use Rattle.std.proofs.Math.Seq.{take-append-add}
use Rattle.std.proofs.lemmas.List.{take-append-le, take-replicate}
use Rattle.flashbase.specs.Bytes.{erased}
use Rattle.jlog.specs.Left.{front_of}

-- a base that is long enough
pub front_within : (base : List ℕ) (from : ℕ) → from ≤ length base → take from base ≡ front_of base from
front_within base from within = sym (take-append-le from base (erased from) within)

-- a base that is not
pub front_past : (base : List ℕ) (from : ℕ) → length base ≤ from → base ++ erased (from - length base) ≡ front_of base from
front_past base from past =
    let more : from - length base ≤ from = omega arith in
    let sum : length base + (from - length base) ≡ from = omega arith in
    ap (λ (l : List ℕ). base ++ l) (sym (take-replicate (from - length base) from 0xFF more))
    ∙ (sym (take-append-add base (erased from) (from - length base)) ∙ ap (λ (n : ℕ). take n (base ++ erased from)) sum)
