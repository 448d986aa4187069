-- What a write to a row of openings that stopped leaves.
use Rattle.std.specs.Prelude.{◌≡◌, ℕ, ◌+◌, ◌-◌, ◌*◌, ◌≤◌, List, [], ◌∷◌, ◌++◌, length, map, take, Contains}
use Rattle.jnode.specs.declared.order.Endian.{Endian}
use Rattle.jscan.specs.Image.{block_of}
use Rattle.jlog.specs.Places.{places}
use Rattle.jlog.specs.Left.{IsLeft, count_whole, intact}
use Rattle.jrests.specs.Shares.{Share, output_to}

-- Each block of these shares, as a flash of its own, is left as a stop leaves it: of so many bytes
-- the first ones went to the first opening, and the others to those after it.
abbrev pub SharesAreLeft : Endian → ℕ → List ℕ → List Share → ℕ → List ℕ → Type 0
SharesAreLeft e size base [] k image = Unit {0}
SharesAreLeft e size base (share ∷ shares) k image =
    let b = share.0.block in
    let out = output_to e size share in
    IsLeft e size 1 (block_of size base b) share.0.place out k (block_of size image b)
    × SharesAreLeft e size base shares (k - length out) image

-- rule: The log: The flash after a stop, in blank blocks and the rests of begun ones.
--   definitions: jrests.Left.IsLeftOfShares
--   laws: jrests::laws::left_in_openings
-- A stop after k bytes that went out to these shares may leave this image of the base: every other
-- block is the base's.
pub record IsLeftOfShares (e : Endian) (size blocks : ℕ) (base : List ℕ) (shares : List Share)
    (k : ℕ) (image : List ℕ) : Type 0 where
  pub no_longer : length image ≤ blocks * size
  pub stays : (b : ℕ) → (Contains (map (λ share. share.0.block) shares) b → ⊥)
      → block_of size image b ≡ block_of size base b
  pub written : SharesAreLeft e size base shares k image

-- ---- which forms stand whole

-- those that do after k bytes: of the first shares all, and of one the first ones
abbrev pub kept_in_shares : Endian → ℕ → List Share → ℕ → List (List ℕ)
kept_in_shares e size [] k = []
kept_in_shares e size (share ∷ shares) k =
    take (intact size share.0.place k share.1) share.1
    ++ kept_in_shares e size shares (k - length (output_to e size share))

-- how many do
abbrev pub whole_in_shares : Endian → ℕ → List Share → ℕ → ℕ
whole_in_shares e size [] k = 0
whole_in_shares e size (share ∷ shares) k =
    let out = output_to e size share in
    count_whole share.0.place out k (places size share.0.place share.1)
    + whole_in_shares e size shares (k - length out)

-- how many bytes go out in all
abbrev pub all_bytes : Endian → ℕ → List Share → ℕ
all_bytes e size [] = 0
all_bytes e size (share ∷ shares) = length (output_to e size share) + all_bytes e size shares
