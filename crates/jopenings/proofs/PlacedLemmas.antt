-- What survives in an image that is put with what went out to its openings.
use Rattle.std.proofs.Common.{ℕ, ◌*◌, ◌≤◌, List, length}
use Rattle.std.specs.Prelude.{IsTrue, nat_le, nat_lt, ◌&&◌}
use Rattle.std.proofs.lemmas.Bool.{and_parts, leb-true}
use Rattle.jscan.specs.Image.{is_block_size, greatest_image}
use Rattle.jlog.specs.Headline.{is_flash_of}
use Rattle.jlog.specs.Places.{is_writable_flash}
use Rattle.jrests.specs.Left.{IsLeftOfShares, all_bytes}
use Rattle.jrests.specs.Shares.{Share, shares}
use Rattle.jrests.proofs.SurviveLemmas.{forms_survive_in_openings}
use Rattle.jopenings.specs.Placed.{placed_image, FormsSurvivePlaced}
use Rattle.jopenings.proofs.StretchLemmas.{image_with_shares_is_left}

-- the flash is read, and the base is no longer
limits : (size blocks : ℕ) (base : List ℕ) → IsTrue (is_flash_of size blocks base) → IsTrue (is_block_size size) × (length base ≤ blocks * size)
limits size blocks base ok =
    let both = and_parts (is_writable_flash size blocks) (nat_le (length base) (blocks * size)) ok in
    let last = and_parts (is_block_size size && nat_le 8192 size && nat_lt 0 blocks) (nat_le (blocks * size) greatest_image) both.0 in
    let some = and_parts (is_block_size size && nat_le 8192 size) (nat_lt 0 blocks) last.0 in
    ((and_parts (is_block_size size) (nat_le 8192 size) some.0).0, leb-true _ _ both.1)

pub forms_survive_placed : FormsSurvivePlaced
forms_survive_placed page e size blocks n base row ops forms is_page room is_base are_bytes fits opens accepted =
    let flash = limits size blocks base is_base.flash in
    let ss : List Share = shares size row forms in
    let survive = forms_survive_in_openings page e size blocks n base row ops forms is_page room is_base are_bytes fits opens accepted in
    let left : (k : ℕ) → IsLeftOfShares e size blocks base ss k (placed_image e size blocks base row forms k) =
    λ k. image_with_shares_is_left e size blocks k base row forms flash.0 flash.1 opens in
    record {
      cuts = λ none k. survive.cuts none k (placed_image e size blocks base row forms k) (left k);
      whole = survive.whole (placed_image e size blocks base row forms (all_bytes e size ss)) (left (all_bytes e size ss));
    }
