-- The bytes that a read gives.
use Rattle.std.proofs.Common.{◌≡◌, ℕ, ◌+◌, ◌-◌, ◌<◌, ◌≤◌, Bool, true, false, ◌==◌, ◌||◌, cond, List, [], ◌++◌, length, take, drop, slice_index, Some, None, refl, ap, sym, ◌∙◌, arith}
use Rattle.std.specs.Prelude.{min}
use Rattle.std.proofs.lemmas.Bool.{false≢true}
use Rattle.std.proofs.lemmas.List.{same_lists, length-take, length-drop, get_or-take, get_or-drop, get_or_append_left}
use Rattle.flashbase.specs.Lists.{each_below}
use Rattle.flashbase.proofs.ListLemmas.{length-each_below, get_or-each_below}
use Rattle.jmount.specs.Tree.{ObjectOf, type_bits, regular_bits, symlink_bits}
use Rattle.jfrag.specs.Overlays.{byte_at}
use Rattle.jfrag.specs.Pieces.{body_byte, is_zeros}
use Rattle.jfrag.specs.IntervalMap.{Interval, is_hole, seen}
use Rattle.jfrag.specs.Intervals.{piece_at}
use Rattle.jfrag.specs.declared.piece.Body.{Body}
use Rattle.jfrag.specs.declared.piece.Body.TheVariants.{Zero, Bytes}
use Rattle.jmount.specs.Shown.{bytes_if}
use Rattle.jmount.specs.Stored.{stored_object, visible_in}
use Rattle.jmount.specs.declared.stored.Stored.{Stored}

-- a part of what a function gives is what it gives from the part's place on
pub part-of_each : (size offset count : ℕ) (f : ℕ → ℕ) → count ≤ size - offset → take count (drop offset (each_below size f)) ≡ each_below count (λ k. f (offset + k))
part-of_each size offset count f fits =
    let all = each_below size f in
    let part = each_below count (λ k. f (offset + k)) in
    let whole : length all ≡ size = length-each_below size f in
    let some : length part ≡ count = length-each_below count (λ k. f (offset + k)) in
    let taken : length (take count (drop offset all)) ≡ min count (length (drop offset all)) = length-take count (drop offset all) in
    let left : length (drop offset all) ≡ length all - offset = length-drop offset all in
    same_lists (take count (drop offset all)) part (omega arith)
    (λ k d h.
    let within : k < count = omega arith in
    let there : offset + k < size = omega arith in
    get_or-take count (drop offset all) k d within ∙ get_or-drop offset all k d ∙ get_or-each_below size (offset + k) f d there
    ∙ sym (get_or-each_below count k (λ j. f (offset + j)) d within))

pub bytes-stored : (o : ObjectOf (List ℕ)) → ((type_bits o.mode == regular_bits) || (type_bits o.mode == symlink_bits)) ≡ true → bytes_if (Some o) ≡ o.body
bytes-stored o has = ap (λ b. cond b o.body []) has

pub length-stored : (stored : Stored) → ((type_bits stored.mode == regular_bits) || (type_bits stored.mode == symlink_bits)) ≡ true
    → length (bytes_if (Some (stored_object stored))) ≡ stored.size
length-stored stored has =
    ap length (bytes-stored (stored_object stored) has) ∙ length-each_below stored.size (λ place. byte_at (visible_in stored.bytes place))

pub length-stored_most : (stored : Stored) → length (bytes_if (Some (stored_object stored))) ≤ stored.size
length-stored_most stored = by_kind ((type_bits stored.mode == regular_bits) || (type_bits stored.mode == symlink_bits)) refl
  where
    by_kind : (b : Bool) → ((type_bits stored.mode == regular_bits) || (type_bits stored.mode == symlink_bits)) ≡ b → length (bytes_if (Some (stored_object stored))) ≤ stored.size
    by_kind true has = omega (arith, length-stored stored has)
    by_kind false has = omega (arith, ap (λ b. length (cond b (stored_object stored).body [])) has)

-- a byte at the front of a buffer that was read from an offset on
pub byte-read : (bytes rest : List ℕ) (offset count k : ℕ) → count ≤ length bytes - offset → k < count
    → slice_index (take count (take count (drop offset bytes) ++ rest)) k ≡ slice_index bytes (offset + k)
byte-read bytes rest offset count k fits within =
    let front = take count (drop offset bytes) in
    let len : length front ≡ count = omega (arith, length-take count (drop offset bytes), length-drop offset bytes) in
    get_or-take count (front ++ rest) k 0 within ∙ get_or_append_left front rest 0 k (omega arith)
    ∙ get_or-take count (drop offset bytes) k 0 within ∙ get_or-drop offset bytes k 0

-- ---- zeros that no node has

zeros_are_0 : (body : Body) (k : ℕ) → is_zeros body ≡ true → body_byte k body ≡ 0
zeros_are_0 (Zero count) k h = refl
zeros_are_0 (Bytes bytes) k h = absurd (false≢true h)

hole_is_0 : (interval : Interval) (i : ℕ) → is_hole interval ≡ true → byte_at (seen interval i) ≡ 0
hole_is_0 None i h = refl
hole_is_0 (Some p) i h = zeros_are_0 p.body (i - p.offset) h

pub stored_hole : (stored : Stored) → ((type_bits stored.mode == regular_bits) || (type_bits stored.mode == symlink_bits)) ≡ true
    → (i : ℕ) → i < stored.size → is_hole (piece_at stored.bytes i) ≡ true → slice_index (bytes_if (Some (stored_object stored))) i ≡ 0
stored_hole stored has i within hole =
    ap (λ (bytes : List ℕ). slice_index bytes i) (bytes-stored (stored_object stored) has)
    ∙ get_or-each_below stored.size i (λ place. byte_at (visible_in stored.bytes place)) 0 within
    ∙ hole_is_0 (piece_at stored.bytes i) i hole
