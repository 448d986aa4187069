-- Laws of these words. Each is a statement: it holds where a function's contract names it.
use Rattle.std.specs.Prelude.{◌≡◌, ◌↔◌, ◌==◌, ℕ, ◌%◌, ◌≤◌, ◌<◌, List, [], ◌∷◌, ◌++◌, length, Contains, Option, Some, None, slice_get, if◌then◌else◌}
use Rattle.std.specs.List.{list_any}
use Rattle.std.specs.Ordering.{nat_cmp}
use Rattle.std.specs.FinMap.{get}
use Rattle.flashbase.specs.Bytes.{IsErasedRun, erased_run, pad4_of}
use Rattle.flashbase.specs.Crc.{crc_after}
use Rattle.flashbase.specs.Lists.{below, each_below, newest, higher_of, IsNewest, tabled, greatest}
use Rattle.flashbase.specs.Ranges.{IsWord}

-- the checksum goes on from what it was
abbrev pub CrcGoesOn : Type 0
CrcGoesOn = (start : ℕ) (a b : List ℕ) → crc_after (crc_after start a) b ≡ crc_after start (a ++ b)

-- the checksum is a number of 32 bits
abbrev pub CrcIsWord : Type 0
CrcIsWord = (start : ℕ) (bytes : List ℕ) → IsWord start → IsWord (crc_after start bytes)

-- no multiple of 4 that is at least n is less
pub record IsPad4 (n padded : ℕ) : Type 0 where
  pub at_least : n ≤ padded
  pub multiple : padded % 4 ≡ 0
  pub least : (m : ℕ) → n ≤ m → m % 4 ≡ 0 → padded ≤ m

abbrev pub Pad4IsLeast : Type 0
Pad4IsLeast = (n : ℕ) → IsPad4 n (pad4_of n)

-- the longest beginning of 0xFF is as long as its computable form says
abbrev pub ErasedRunIsLongest : Type 0
ErasedRunIsLongest = (bytes : List ℕ) (n : ℕ) → IsErasedRun bytes n ↔ (n ≡ erased_run bytes)

-- as many numbers as asked for, and the i-th is i
abbrev pub BelowIsBelow : Type 0
BelowIsBelow = (n : ℕ) → (length (below n) ≡ n) × ((i : ℕ) → i < n → slice_get (below n) i ≡ Some i)

-- as many values as asked for, and the i-th is the function's at i
abbrev pub EachBelowIsEach : Type 0 → Type 0
EachBelowIsEach X = (n : ℕ) (f : ℕ → X) → (length (each_below n f) ≡ n)
    × ((i : ℕ) → i < n → slice_get (each_below n f) i ≡ Some (f i))

-- what `newest` finds is one of the list that no other passes
abbrev pub NewestIsNewest : Type 0 → Type 0
NewestIsNewest X =
    (xs : List X) (version : X → ℕ) (x : X) → newest version xs ≡ Some x → IsNewest version xs x

-- it finds one where there is one
abbrev pub NewestOfNone : Type 0 → Type 0
NewestOfNone X = (xs : List X) (version : X → ℕ) → newest version xs ≡ None → xs ≡ []

-- one more at the end is the newest only where it is higher than the newest before
abbrev pub NewestOfOneMore : Type 0 → Type 0
NewestOfOneMore X = (xs : List X) (version : X → ℕ) (x y : X) → newest version xs ≡ Some y
    → newest version (xs ++ x ∷ []) ≡ Some (higher_of version y (Some x))

-- At a key the map of keys by a function has what the function gives there, if the key is one of
-- them, as often as it may be there.
abbrev pub GetOfTabled : Type 0 → Type 0
GetOfTabled X = (keys : List ℕ) (f : ℕ → Option X) (q : ℕ)
    → get (tabled nat_cmp keys f) q ≡ (if list_any (λ k. q == k) keys then f q else None)

-- none is greater, and it is one of them, if there are any
abbrev pub GreatestIsGreatest : Type 0
GreatestIsGreatest = (ns : List ℕ) → ((n : ℕ) → Contains ns n → n ≤ greatest ns)
    × (0 < length ns → Contains ns (greatest ns))
