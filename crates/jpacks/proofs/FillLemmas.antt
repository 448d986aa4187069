-- A file that is filled up is no longer than its flash.
use Rattle.std.proofs.Common.{◌≡◌, ◌∙◌, ℕ, zero, suc, ◌+◌, ◌-◌, ◌*◌, ◌/◌, ◌%◌, ◌<◌, ◌≤◌, Bool, true, false, List, ◌++◌, length, length-append, Option, Some, None, ap, arith, inl, inr, refl}
use Rattle.std.specs.Prelude.{◌==◌, if◌then◌else◌}
use Rattle.std.proofs.Math.Nat.{lt_of_mul-lt-mul_right, mod-eq_of_lt, mod_self, mul-le-mul_right}
use Rattle.std.proofs.lemmas.Bool.{cases_lt}
use Rattle.std.proofs.lemmas.List.{length-replicate}
use Rattle.std.proofs.lemmas.Nat.{div-add-mod', mod_below}
use Rattle.flashbase.specs.Bytes.{erased}
use Rattle.jmakes.specs.Making.{fill_length}
use Rattle.jmakes.specs.declared.wanted.Filling.{Filling}
use Rattle.jmakes.specs.declared.wanted.Filling.TheVariants as filling
use Rattle.jpacks.specs.Packing.{blocks_packed, filling_packed}
use Rattle.jupdates.proofs.FilledLemmas.{FillsWithin, filled_long}

-- up to the end of a block
end_of_block : (size blocks n : ℕ) → 0 < size → n ≤ blocks * size → n + (size - n % size) % size ≤ blocks * size
end_of_block size blocks n some within = elim (cases_lt 0 (n % size)) [
  | inl rest ↦
      let less : n % size < size = mod_below n size some in
      let small : (size - n % size) % size ≡ size - n % size = mod-eq_of_lt (omega (arith, rest, some)) in
      let whole : n / size * size + n % size ≡ n = div-add-mod' n size in
      let below : n / size * size < blocks * size = omega (arith, rest, whole, within) in
      let next : n / size < blocks = lt_of_mul-lt-mul_right size below in
      let room : (n / size + 1) * size ≤ blocks * size = mul-le-mul_right size (omega (arith, next)) in
      omega (arith, less, small, whole, room)
  | inr none ↦
      let all : size - n % size ≡ size = omega (arith, none) in
      let is : (size - n % size) % size ≡ 0 = ap (λ (r : ℕ). r % size) all ∙ mod_self size in
      omega (arith, is, within)
]

end_by : (size blocks n : ℕ) (b : Bool) → (size == 0) ≡ b → n ≤ blocks * size → n + (if b then 0 else (size - n % size) % size) ≤ blocks * size
end_by size blocks n true is within = omega (arith, within)
end_by zero blocks n false is within = let no : ⊥ = cc in absurd no
end_by (suc k) blocks n false is within = end_of_block (suc k) blocks n (omega arith) within

pub packed_within : (pad : Bool) (size : ℕ) (given : Option ℕ) → FillsWithin (blocks_packed size given * size) (filling_packed pad size given)
packed_within false size given bytes within = within
packed_within true size (Some blocks) bytes within = omega (arith, within, filled_long bytes (fill_length (filling.Length (blocks * size)) (length bytes)))
packed_within true size None bytes within =
    omega (arith, end_by size (blocks_packed size None) (length bytes) (size == 0) refl within, filled_long bytes (fill_length (filling.Block size) (length bytes)))
