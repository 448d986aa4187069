-- The names beside one.
use Rattle.std.proofs.Common.{◌≡◌, ℕ, false, List, refl}
use Rattle.std.specs.Prelude.{◌==◌, ◌++◌, codes, decimal}
use Rattle.std.proofs.lemmas.Bool.{ne_eqb}
use Rattle.jsystem.specs.Beside.{beside_name}

pub first_name : (name : List ℕ) (i : ℕ) → i ≡ 0 → name ++ codes ".tmp" ≡ beside_name name i
first_name name i none = rw none refl

pub next_name : (name : List ℕ) (i : ℕ) → (i ≡ 0 → ⊥) → name ++ (codes ".tmp" ++ decimal i) ≡ beside_name name i
next_name name i some =
    let not_first : (i == 0) ≡ false = ne_eqb i 0 some in
    rw not_first refl
