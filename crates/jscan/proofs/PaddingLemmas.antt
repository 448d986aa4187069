-- What a padded length is.
use Rattle.std.proofs.Common.{◌≡◌, ℕ, ◌%◌, ◌≤◌, arith}
use Rattle.flashbase.specs.Bytes.{pad4_of}

-- the padded length of a node is within what is left
pub pad4_fits : (n size : ℕ) → size % 4 ≡ 0 → n ≤ size → (pad4_of n ≤ size) × (n ≤ pad4_of n) × (pad4_of n % 4 ≡ 0)
unfolding pad4_of
pad4_fits n size words within = (omega arith, omega arith, omega arith)

pub pad4_up : (n : ℕ) → (n ≤ pad4_of n) × (pad4_of n % 4 ≡ 0)
unfolding pad4_of
pad4_up n = (omega arith, omega arith)
