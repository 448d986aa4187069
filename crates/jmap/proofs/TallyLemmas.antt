-- How many bytes of some kinds there are.
use Rattle.std.proofs.Common.{◌≡◌, ℕ, ◌+◌, ◌*◌, ◌≤◌, Bool, cond, drop, length-take, List, [], ◌∷◌, ◌++◌, length, replicate, refl, ap, arith, ◌∙◌, append-nil, count_by, length-append}
use Rattle.std.specs.Prelude.{sum_by}
use Rattle.std.proofs.lemmas.Grind.{common_steps, flat_map-append}
use Rattle.std.proofs.lemmas.List.{length-replicate}
use Rattle.std.proofs.lemmas.List.Folds.{sum_by-replicate}
use Rattle.std.proofs.lemmas.List.Sums.{sum_by-cons}
use Rattle.flashbase.specs.Bytes.{erased}
use Rattle.jnode.specs.declared.order.Endian.{Endian}
use Rattle.jscan.specs.Counts.{extents_of_block}
use Rattle.jscan.specs.Extents.{extents}
use Rattle.jscan.specs.Image.{block_of}
use Rattle.jscan.specs.declared.extent.Extent.{Extent}
use Rattle.jscan.proofs.ExtentLaws.{extents_make_up}
use Rattle.jmap.specs.ByteKinds.{byte_kind, byte_kinds, tally_of, is_live, is_superseded, is_obsolete, is_damaged_kind, is_free}
use Rattle.jmap.specs.declared.kind.ByteKind.{ByteKind}
use Rattle.jmap.specs.declared.kind.ByteKind.TheVariants.{Live, Superseded, Obsolete, Damaged, Free}

pub number_of_both : {X : Type 0} (test : X → Bool) (xs ys : List X) → count_by test (xs ++ ys) ≡ count_by test xs + count_by test ys
number_of_both test xs ys = grind (arith, common_steps)

-- so many more of one kind
pub number_more : (test : ByteKind → Bool) (kinds : List ByteKind) (n : ℕ) (kind : ByteKind) → count_by test (kinds ++ replicate n kind) ≡ count_by test kinds + n * cond (test kind) 1 0
number_more test kinds n kind =
    number_of_both test kinds (replicate n kind) ∙ ap (λ (m : ℕ). count_by test kinds + m) (sum_by-replicate (λ k. cond (test k) 1 0) n kind)

-- those of both lists
pub tally_both : (kinds others : List ByteKind) → tally_of (kinds ++ others) ≡ record {
  live = count_by is_live kinds + count_by is_live others;
  superseded = count_by is_superseded kinds + count_by is_superseded others;
  obsolete = count_by is_obsolete kinds + count_by is_obsolete others;
  damaged = count_by is_damaged_kind kinds + count_by is_damaged_kind others;
  free = count_by is_free kinds + count_by is_free others;
}
tally_both kinds others = λ i. record {
  live = number_of_both is_live kinds others i;
  superseded = number_of_both is_superseded kinds others i;
  obsolete = number_of_both is_obsolete kinds others i;
  damaged = number_of_both is_damaged_kind kinds others i;
  free = number_of_both is_free kinds others i;
}

-- every byte is of one kind
pub tally_sum : (kinds : List ByteKind) → let t = tally_of kinds in t.live + t.superseded + t.obsolete + t.damaged + t.free ≡ length kinds
tally_sum [] = refl
tally_sum (kind ∷ kinds) =
    let more = tally_sum kinds in
    omega (
      arith,
      more,
      one kind,
      sum_by-cons (λ k. cond (is_live k) 1 0) kind kinds,
      sum_by-cons (λ k. cond (is_superseded k) 1 0) kind kinds,
      sum_by-cons (λ k. cond (is_obsolete k) 1 0) kind kinds,
      sum_by-cons (λ k. cond (is_damaged_kind k) 1 0) kind kinds,
      sum_by-cons (λ k. cond (is_free k) 1 0) kind kinds,
    )
  where
    one : (k : ByteKind) → cond (is_live k) 1 0 + cond (is_superseded k) 1 0 + cond (is_obsolete k) 1 0 + cond (is_damaged_kind k) 1 0 + cond (is_free k) 1 0 ≡ 1
    one Live = refl
    one Superseded = refl
    one Obsolete = refl
    one Damaged = refl
    one Free = refl

-- ---- the kinds of extents

pub kinds_both : (kept : List ℕ) (ss ts : List Extent) → byte_kinds kept (ss ++ ts) ≡ byte_kinds kept ss ++ byte_kinds kept ts
kinds_both kept ss ts = flat_map-append (λ (s : Extent). replicate s.len (byte_kind kept s)) ss ts

pub kinds_more : (kept : List ℕ) (ss : List Extent) (s : Extent) → byte_kinds kept (ss ++ s ∷ []) ≡ byte_kinds kept ss ++ replicate s.len (byte_kind kept s)
kinds_more kept ss s = kinds_both kept ss (s ∷ []) ∙ ap (λ (l : List ByteKind). byte_kinds kept ss ++ l) (append-nil (replicate s.len (byte_kind kept s)))

pub kinds_long : (kept : List ℕ) (ss : List Extent) → length (byte_kinds kept ss) ≡ sum_by (λ s. s.len) ss
kinds_long kept [] = refl
kinds_long kept (s ∷ ss) =
    let long = length-append (replicate s.len (byte_kind kept s)) (byte_kinds kept ss) in
    omega (arith, long, length-replicate s.len (byte_kind kept s), kinds_long kept ss, sum_by-cons (λ (t : Extent). t.len) s ss)

pub kinds_of_block : (e : Endian) (start : ℕ) (block kept : List ℕ) → length (byte_kinds kept (extents e start block)) ≡ length block
kinds_of_block e start block kept = kinds_long kept (extents e start block) ∙ (extents_make_up e start block).whole

pub length_block_of : (size : ℕ) (image : List ℕ) (k : ℕ) → length (block_of size image k) ≡ size
length_block_of size image k =
    let present = drop (k * size) image in
    omega (arith, length-take size (present ++ erased size), length-append present (erased size), length-replicate {A = ℕ} size 0xFF)

pub kinds_of_image_block : (e : Endian) (size : ℕ) (image kept : List ℕ) (k : ℕ) → length (byte_kinds kept (extents_of_block e size image k)) ≡ size
kinds_of_image_block e size image kept k = kinds_of_block e (k * size) (block_of size image k) kept ∙ length_block_of size image k

-- an extent's bytes are among the block's
pub kinds_within : (e : Endian) (start : ℕ) (block kept : List ℕ) (before after : List Extent) (s : Extent)
    → extents e start block ≡ before ++ s ∷ after → length (byte_kinds kept before) + s.len ≤ length block
kinds_within e start block kept before after s split =
    let whole = kinds_of_block e start block kept in
    let parts = ap (λ (ss : List Extent). length (byte_kinds kept ss)) split ∙ ap length (kinds_both kept before (s ∷ after))
    ∙ length-append (byte_kinds kept before) (byte_kinds kept (s ∷ after)) in
    let here = length-append (replicate s.len (byte_kind kept s)) (byte_kinds kept after) in
    omega (arith, whole, parts, here, length-replicate s.len (byte_kind kept s))

pub kinds_more_long : (kept : List ℕ) (ss : List Extent) (s : Extent) → length (byte_kinds kept (ss ++ s ∷ [])) ≡ length (byte_kinds kept ss) + s.len
kinds_more_long kept ss s =
    ap length (kinds_more kept ss s) ∙ length-append (byte_kinds kept ss) (replicate s.len (byte_kind kept s))
    ∙ ap (λ (n : ℕ). length (byte_kinds kept ss) + n) (length-replicate s.len (byte_kind kept s))
