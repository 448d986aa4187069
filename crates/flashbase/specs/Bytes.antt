-- Padding to words of 4 bytes, where each node begins (Woodhouse 2001), and erased flash, all of
-- whose bits are 1.
use Rattle.std.specs.Prelude.{◌≡◌, ◌≢◌, ◌==◌, ℕ, ◌+◌, ◌*◌, ◌/◌, ◌<◌, ◌≤◌, List, length, replicate, slice_index}
use Rattle.std.specs.List.{prefix_len}

-- rule: Bytes and nodes: Lengths are rounded up to multiples of 4.
--   definitions: flashbase.Bytes.pad4_of
--   code: flashbase::bytes::pad4
--   laws: flashbase::laws::pad4_is_least, flashbase::laws::known_lengths
-- n rounded up to a multiple of 4
unfoldable pub pad4_of : ℕ → ℕ
pad4_of n = (n + 3) / 4 * 4

-- n bytes of erased flash
abbrev pub erased : ℕ → List ℕ
erased n = replicate n 0xFF

-- the longest beginning of 0xFF has n bytes
pub record IsErasedRun (bytes : List ℕ) (n : ℕ) : Type 0 where
  pub within : n ≤ length bytes
  pub erased : (k : ℕ) → k < n → slice_index bytes k ≡ 0xFF
  pub stops : n < length bytes → slice_index bytes n ≢ 0xFF

-- rule: Bytes and nodes: An erased run is the longest beginning of 0xFF.
--   definitions: flashbase.Bytes.erased_run
--   code: flashbase::bytes::erased_run
--   laws: flashbase::laws::erased_run_is_longest
-- how many bytes 0xFF the list begins with
abbrev pub erased_run : List ℕ → ℕ
erased_run bytes = prefix_len (λ b. b == 0xFF) bytes
