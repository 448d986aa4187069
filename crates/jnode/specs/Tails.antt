-- What a walk from the last byte of a message to the first knows of those behind a place.
use Rattle.std.specs.Prelude.{◌≡◌, ℕ, ◌-◌, ◌<◌, ◌≤◌, ◌^◌, Bool, true, false, IsTrue, Option, Some, None, List, length, drop, bit_xor}
use Rattle.flashbase.specs.Bytes.{erased}
use Rattle.flashbase.specs.Crc.{crc_after}
use Rattle.jnode.specs.Weak.{is_hidden}
use Rattle.jnode.specs.declared.weak.Tail.{Tail}

-- Before the tail and before as many erased bytes, exactly the remainders that are this far apart
-- lead to one.
pub record IsGap (tail : List ℕ) (gap : ℕ) : Type 0 where
  pub to : (x y : ℕ) → x < 2 ^ 32 → y < 2 ^ 32
      → crc_after x tail ≡ crc_after y (erased (length tail)) → bit_xor x y ≡ gap
  pub from : (x y : ℕ) → x < 2 ^ 32 → y < 2 ^ 32
      → bit_xor x y ≡ gap → crc_after x tail ≡ crc_after y (erased (length tail))

-- the least of the cuts from a place on
abbrev pub IsLeastFrom : List ℕ → ℕ → Option ℕ → Type 0
IsLeastFrom bytes place None = (j : ℕ) → place ≤ j → is_hidden bytes j ≡ false
IsLeastFrom bytes place (Some j) = IsTrue (is_hidden bytes j)
    × ((i : ℕ) → place ≤ i → IsTrue (is_hidden bytes i) → j ≤ i)

-- the gap of the bytes from a place on, whether they differ from erased ones, and the least cut
pub record Walked (bytes : List ℕ) (place gap : ℕ) (differs : Bool) (cut : Option ℕ) : Type 0 where
  pub within : place ≤ length bytes
  pub gap_is : IsGap (drop place bytes) gap
  pub same : differs ≡ false → drop place bytes ≡ erased (length bytes - place)
  pub other : differs ≡ true → drop place bytes ≡ erased (length bytes - place) → ⊥
  pub least_is : IsLeastFrom bytes place cut

abbrev pub IsTailFrom : List ℕ → ℕ → Tail → Type 0
IsTailFrom bytes place tail = Walked bytes place tail.gap tail.differs tail.least
