-- The line of a block, and the tally of the blocks so far.
use Rattle.std.proofs.Common.{◌≡◌, ℕ, zero, suc, ◌+◌, ◌*◌, ◌^◌, ◌<◌, ◌≤◌, List, ◌++◌, length, sym, ap, arith, ◌∙◌, subst, IsTrue, length-append}
use Rattle.std.proofs.lemmas.List.{length-map}
use Rattle.flashbase.specs.Lists.{below}
use Rattle.flashbase.proofs.ListLemmas.{length-below}
use Rattle.jnode.specs.declared.order.Endian.{Endian}
use Rattle.jscan.specs.Counts.{extents_of_block, extents_below}
use Rattle.jscan.specs.Extents.{extents}
use Rattle.jscan.specs.Image.{block_of, block_count, greatest_image, is_block_size}
use Rattle.jscan.proofs.StreamCounts.{readable_some}
use Rattle.std.proofs.Math.Nat.{mul-le-mul_right}
use Rattle.std.proofs.lemmas.Grind.{div_ceil_times}
use Rattle.std.specs.Prelude.{Result, Ok, Err, OnOk, nat_le, ◌&&◌, ◌==◌, ◌%◌}
use Rattle.std.proofs.lemmas.Bool.{and_parts, leb-true}
use Rattle.jmap.specs.ByteKinds.{byte_kinds, tally_of}
use Rattle.jmap.specs.MapText.{bar_mark, bar_of, block_map, map_line}
use Rattle.jmap.specs.declared.kind.ByteKind.{ByteKind}
use Rattle.jmap.specs.declared.tally.Tally.{Tally}
use Rattle.jmap.proofs.BlockLemmas.{below_more, block_long}
use Rattle.jmap.proofs.TallyLemmas.{kinds_both, kinds_of_block, kinds_of_image_block}

-- of a block as it is cut out of the image
pub line_is : (e : Endian) (size : ℕ) (image kept : List ℕ) (k : ℕ) (block : List ℕ) (t : Tally) (bar : List ℕ) → block ≡ block_of size image k
    → t ≡ tally_of (byte_kinds kept (extents e (k * size) block)) → bar ≡ bar_of (length block) (byte_kinds kept (extents e (k * size) block))
    → map_line k (k * size) t bar ≡ block_map e size image kept k
unfolding block_map
line_is e size image kept k block t bar is tally marks =
    ap (λ (u : Tally). map_line k (k * size) u bar) tally
    ∙ ap (map_line k (k * size) (tally_of (byte_kinds kept (extents e (k * size) block)))) marks
    ∙ ap (λ (n : ℕ). map_line k (k * size) (tally_of (byte_kinds kept (extents e (k * size) block))) (bar_of n (byte_kinds kept (extents e (k * size) block)))) (block_long size image k block is)
    ∙ ap (λ (l : List ℕ). map_line k (k * size) (tally_of (byte_kinds kept (extents e (k * size) l))) (bar_of size (byte_kinds kept (extents e (k * size) l)))) is

pub bar_is_long : (size : ℕ) (kinds : List ByteKind) → length (bar_of size kinds) ≡ 50
unfolding bar_of
bar_is_long size kinds = length-map (below 50) (bar_mark size kinds) ∙ length-below 50

kinds_next : (e : Endian) (size : ℕ) (image kept : List ℕ) (k : ℕ)
    → byte_kinds kept (extents_below e size image (k + 1)) ≡ byte_kinds kept (extents_below e size image k) ++ byte_kinds kept (extents_of_block e size image k)
kinds_next e size image kept k =
    ap (byte_kinds kept) (below_more (extents_of_block e size image) k) ∙ kinds_both kept (extents_below e size image k) (extents_of_block e size image k)

pub kinds_below : (e : Endian) (size : ℕ) (image kept : List ℕ) (k : ℕ) → length (byte_kinds kept (extents_below e size image k)) ≡ k * size
kinds_below e size image kept zero = let none : 0 ≡ 0 * size = omega arith in none
kinds_below e size image kept (suc k) =
    let next : suc k ≡ k + 1 = omega arith in
    let more = ap length (kinds_next e size image kept k)
    ∙ length-append (byte_kinds kept (extents_below e size image k)) (byte_kinds kept (extents_of_block e size image k)) in
    let sum : (k + 1) * size ≡ k * size + size = grind arith in
    let long : length (byte_kinds kept (extents_below e size image (k + 1))) ≡ (k + 1) * size =
    omega (arith, more, sum, kinds_below e size image kept k, kinds_of_image_block e size image kept k) in
    subst (λ (n : ℕ). length (byte_kinds kept (extents_below e size image n)) ≡ n * size) (sym next) long

pub tally_next : (e : Endian) (size : ℕ) (image kept : List ℕ) (k : ℕ) (block : List ℕ) → block ≡ block_of size image k
    → tally_of (byte_kinds kept (extents_below e size image k) ++ byte_kinds kept (extents e (k * size) block)) ≡ tally_of (byte_kinds kept (extents_below e size image (k + 1)))
tally_next e size image kept k block is =
    ap (λ (l : List ℕ). tally_of (byte_kinds kept (extents_below e size image k) ++ byte_kinds kept (extents e (k * size) l))) is
    ∙ ap tally_of (sym (kinds_next e size image kept k))

readable_small : (size : ℕ) → IsTrue (is_block_size size) → size ≤ 4194304
readable_small size h =
    let parts = and_parts (nat_le 4096 size && nat_le size 4194304) (size % 4 == 0) h in
    leb-true size 4194304 (and_parts (nat_le 4096 size) (nat_le size 4194304) parts.0).1

-- there is room to count one block more
pub room_for_block : (e : Endian) (size : ℕ) (image kept : List ℕ) (k : ℕ) (block : List ℕ) → block ≡ block_of size image k → IsTrue (is_block_size size)
    → length image ≤ greatest_image → k < block_count size image
    → length (byte_kinds kept (extents_below e size image k)) + length (byte_kinds kept (extents e (k * size) block)) < 2 ^ 64
room_for_block e size image kept k block is fits small next =
    let some = readable_some size fits in
    let least = readable_small size fits in
    let ceiling = div_ceil_times (length image) size (omega (arith, some)) in
    let upto = mul-le-mul_right {m = k + 1} {n = block_count size image} size (omega (arith, next)) in
    let sum : (k + 1) * size ≡ k * size + size = grind arith in
    omega (arith, some, least, ceiling.1, upto, sum, small, kinds_below e size image kept k, kinds_of_block e (k * size) block kept, block_long size image k block is)

pub always : {T E A : Type 0} (r : Result T E) → A → OnOk r A
always (Ok x) holds = holds
always (Err e) holds = tt
