-- Where a node goes in the greatest flash, and what goes out for it.
use Rattle.std.proofs.Common.{◌≡◌, ℕ, ◌+◌, ◌*◌, ◌/◌, ◌%◌, ◌<◌, ◌≤◌, max, cond, List, ◌++◌, length, refl, sym, ap, subst, ◌∙◌, arith, Option, None, Some, Ok, Err, nat_le, IsTrue, ⊎_elim}
use Rattle.std.specs.Prelude.{Result}
use Rattle.std.specs.Io.KnownBytes.{Appends}
use Rattle.std.proofs.lemmas.Nat.{div-add-mod'}
use Rattle.std.proofs.lemmas.Bool.{leb-true, leb-false, cases_Bool, cond_both, cond-true, cond-false}
use Rattle.flashbase.specs.Bytes.{pad4_of}
use Rattle.flashbase.specs.Device.{Puts, PutsPart}
use Rattle.flashbase.proofs.BytesLemmas.{le_pad4, pad4_words, pad4_least}
use Rattle.jnode.specs.Writing.{filled}
use Rattle.jnode.specs.declared.order.Endian.{Endian}
use Rattle.jscan.specs.Image.{is_block_size, greatest_image}
use Rattle.jlog.specs.Places.{place_after, end_after, place_within}
use Rattle.jlog.specs.Output.{gap}
use Rattle.jlog.proofs.PlaceLemmas.{times_words, pad4_behind, block_floor}
use Rattle.jexpand.proofs.SightedLemmas.{size_words, size_some}
use Rattle.jconvert.specs.Converting.{least_written, greatest_blocks}
use Rattle.jconvert.specs.Tallying.{IsCursor, EndsWithin, IsRoomAfter}
use Rattle.jconvert.specs.Putting.{form_piece}

-- a place is made of words
pub place_words : (size from len : ℕ) → size % 4 ≡ 0 → place_after size from len % 4 ≡ 0
place_words size from len words =
    let start : ℕ = pad4_of from / size * size in
    let sw : start % 4 ≡ 0 = times_words (pad4_of from / size) size words in
    let pw : pad4_of from % 4 ≡ 0 = pad4_words from in
    cond_both (nat_le (max (pad4_of from) (start + 12) + len) (start + size)) (max (pad4_of from) (start + 12)) (start + size + 12) (λ (x : ℕ). x % 4 ≡ 0)
    (λ _. omega arith) (λ _. omega arith)

-- it is not before the address
pub place_up : (size from len : ℕ) → 0 < size → from ≤ place_after size from len
place_up size from len some =
    let start : ℕ = pad4_of from / size * size in
    let up : from ≤ pad4_of from = le_pad4 from in
    let floor = block_floor (pad4_of from) size some in
    cond_both (nat_le (max (pad4_of from) (start + 12) + len) (start + size)) (max (pad4_of from) (start + 12)) (start + size + 12) (λ (x : ℕ). from ≤ x)
    (λ _. omega arith) (λ _. omega arith)

-- what a place within the flash is
pub within_some : (size blocks from len at : ℕ) → place_within size blocks from len ≡ Some at → (at ≡ place_after size from len) × (place_after size from len + len ≤ blocks * size)
within_some size blocks from len at h =
    let place : ℕ = place_after size from len in
    ⊎_elim
    (λ inside.
    let is : Some place ≡ Some at = sym (cond-true (nat_le (place + len) (blocks * size)) (Some place) None inside) ∙ h in
    let same : at ≡ place = cc in (same, leb-true _ _ inside))
    (λ outside. let none : None ≡ Some at = sym (cond-false (nat_le (place + len) (blocks * size)) (Some place) None outside) ∙ h in absurd (cc))
    (cases_Bool (nat_le (place + len) (blocks * size)))

pub greatest_flash : (size : ℕ) → greatest_blocks size * size ≤ greatest_image
greatest_flash size = omega (arith, div-add-mod' greatest_image size)

-- where the next node may begin
pub next_cursor : (size from len at : ℕ) → IsTrue (is_block_size size) → place_within size (greatest_blocks size) from len ≡ Some at → IsCursor size (at + pad4_of len)
next_cursor size from len at is found =
    let words : size % 4 ≡ 0 = size_words size is in
    let some = within_some size (greatest_blocks size) from len at found in
    let aligned : at % 4 ≡ 0 = ap (λ (n : ℕ). n % 4) some.0 ∙ place_words size from len words in
    let ends : at + len ≤ greatest_blocks size * size = subst (λ (n : ℕ). n + len ≤ greatest_blocks size * size) (sym some.0) some.1 in
    let whole : (greatest_blocks size * size) % 4 ≡ 0 = times_words (greatest_blocks size) size words in
    let behind : pad4_of (at + len) ≡ at + pad4_of len = pad4_behind at len aligned in
    let most : pad4_of (at + len) ≤ greatest_blocks size * size = pad4_least (at + len) (greatest_blocks size * size) ends whole in
    let word : pad4_of len % 4 ≡ 0 = pad4_words len in
    (subst (λ (n : ℕ). n ≤ greatest_blocks size * size) behind most, omega arith)

pub next_small : (size from len at : ℕ) → IsTrue (is_block_size size) → place_within size (greatest_blocks size) from len ≡ Some at → at + pad4_of len ≤ greatest_image
next_small size from len at is found =
    let at_most = (next_cursor size from len at is found).0 in
    let all : greatest_blocks size * size ≤ greatest_image = greatest_flash size in
    omega (arith, at_most, all)

pub room_taken : (size from len at : ℕ) (room : Option ℕ) → room ≡ Some from → IsTrue (is_block_size size)
    → place_within size (greatest_blocks size) from len ≡ Some at → IsRoomAfter size room len (Some (at + pad4_of len))
room_taken size from len at room is size_is found =
    let some = within_some size (greatest_blocks size) from len at found in
    subst (λ (o : Option ℕ). IsRoomAfter size o len (Some (at + pad4_of len))) (sym is)
    (some.1, ap (λ (n : ℕ). n + pad4_of len) some.0, next_cursor size from len at size_is found)

pub no_place : (size blocks from len : ℕ) → place_within size blocks from len ≡ None → place_after size from len + len ≤ blocks * size → ⊥
no_place size blocks from len none ends =
    let place : ℕ = place_after size from len in
    ⊎_elim
    (λ inside. let some : Some place ≡ None = sym (cond-true (nat_le (place + len) (blocks * size)) (Some place) None inside) ∙ none in absurd (cc))
    (λ outside. let out : blocks * size < place + len = leb-false _ _ outside in omega (arith, out, ends))
    (cases_Bool (nat_le (place + len) (blocks * size)))

-- the piece of a node at its place
pub piece_is : (e : Endian) (size from at : ℕ) (form : List ℕ) → at ≡ place_after size from (length form) → gap e size from at ++ filled form ≡ form_piece e size from form
piece_is e size from at form is = ap (λ (n : ℕ). gap e size from n ++ filled form) is
