-- Reading behind bytes that are there.
use Rattle.std.proofs.Common.{◌≡◌, ℕ, ◌≤◌, ◌++◌, List, Option, length}
use Rattle.std.specs.Io.KnownBytes.{Consumes}

-- some of what a source had stands behind the bytes, at most so many
pub record IsReadOn (limit : ℕ) (old now : List ℕ) (rest left : Option (List ℕ)) : Type 0 where
  pub more : List ℕ
  pub stands : now ≡ old ++ more
  pub within : length more ≤ limit
  pub consumed : Consumes rest left more
