-- An image that is filled up with erased flash shows the same.
use Rattle.std.proofs.Common.{◌≡◌, ◌∙◌, ℕ, ◌+◌, ◌-◌, ◌*◌, ◌≤◌, Bool, true, false, List, ◌++◌, length, length-append, Option, Some, None, ap, arith, sym}
use Rattle.std.specs.Prelude.{IsTrue, if◌then◌else◌}
use Rattle.std.proofs.lemmas.List.{length-replicate}
use Rattle.flashbase.specs.Bytes.{erased}
use Rattle.jnode.specs.declared.order.Endian.{Endian}
use Rattle.jscan.specs.Image.{greatest_image, is_block_size}
use Rattle.jmount.specs.Tree.{State}
use Rattle.jview.specs.Through.{MountsThroughAs}
use Rattle.jlog.proofs.ByteLemmas.{erased_end}
use Rattle.jrow.proofs.WrittenLemmas.{same_mounts_through}
use Rattle.jmakes.specs.Making.{fill_length, filled_to}
use Rattle.jmakes.specs.declared.wanted.Filling.{Filling}
use Rattle.jmakes.specs.declared.wanted.Filling.TheVariants as filling

-- a file is filled up to no more than a flash of so many bytes holds
abbrev pub FillsWithin : ℕ → Option Filling → Type 0
FillsWithin most to = (bytes : List ℕ) → length bytes ≤ most → length (filled_to to bytes) ≤ most

pub filled_long : (bytes : List ℕ) (n : ℕ) → length (bytes ++ erased n) ≡ length bytes + n
filled_long bytes n = length-append bytes (erased n) ∙ ap (λ (m : ℕ). length bytes + m) (length-replicate {A = ℕ} n 0xFF)

-- up to the end of the flash
pub asked_within : (pad : Bool) (most : ℕ) → FillsWithin most (if pad then Some (filling.Length most) else None)
asked_within false most bytes within = within
asked_within true most bytes within = omega (arith, within, filled_long bytes (fill_length (filling.Length most) (length bytes)))

pub filled_shows : (e : Endian) (size blocks : ℕ) (image : List ℕ) (to : Option Filling) (s : State) → IsTrue (is_block_size size) → blocks * size ≤ greatest_image → length image ≤ blocks * size
    → FillsWithin (blocks * size) to → MountsThroughAs e size image s → MountsThroughAs e size (filled_to to image) s
filled_shows e size blocks image None s size_is small within fills mounts = mounts
filled_shows e size blocks image (Some filling) s size_is small within fills mounts =
    same_mounts_through e size blocks image (filled_to (Some filling) image) s size_is small within (fills image within)
    (λ at. sym (erased_end image (fill_length filling (length image)) at)) mounts
