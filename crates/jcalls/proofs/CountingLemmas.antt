-- Counting the extents of all blocks, one after another.
use Rattle.std.proofs.Common.{◌≡◌, ℕ, ◌+◌, ◌*◌, ◌%◌, ◌≤◌, List, [], ◌∷◌, length, ap, ◌∙◌, Bool, arith}
use Rattle.std.specs.List.{flat_map}
use Rattle.std.proofs.lemmas.List.{length-append}
use Rattle.std.proofs.lemmas.List.Sums.{count_by-le-length, sum_by-cons}
use Rattle.flashbase.specs.Lists.{below}
use Rattle.flashbase.proofs.ListLemmas.{length-below}
use Rattle.jnode.specs.declared.order.Endian.{Endian}
use Rattle.jscan.specs.Counts.{is_entry_tile, is_inode_tile, is_found, count_in, counted, counts_of, extents_of_block, one_if}
use Rattle.jscan.specs.Image.{block_count, block_of}
use Rattle.jscan.specs.Scans.{IsScannable, image_extents}
use Rattle.jscan.specs.declared.counts.Counts.{Counts}
use Rattle.jscan.specs.declared.extent.ExtentKind.{ExtentKind}
use Rattle.jscan.specs.declared.extent.Extent.{Extent}
use Rattle.jscan.proofs.ExtentLaws.{extents_are_few}
use Rattle.jscan.proofs.ImageLemmas.{starts_small}
use Rattle.jscan.proofs.PartLemmas.{block_length}
use Rattle.jscan.proofs.StreamCounts.{readable_words}

-- what is counted and what is left come to the same as all
pub record CountingAll (all left : List Extent) (blocks : ℕ) (now : Counts) : Type 0 where
  pub blocks_are : now.blocks ≡ blocks
  pub entries : now.entries + count_in is_entry_tile left ≡ count_in is_entry_tile all
  pub inodes : now.inodes + count_in is_inode_tile left ≡ count_in is_inode_tile all
  pub findings : now.findings + count_in is_found left ≡ count_in is_found all

number_cons : (test : ExtentKind → Bool) (s : Extent) (ss : List Extent) → count_in test (s ∷ ss) ≡ one_if (test s.kind) + count_in test ss
number_cons test s ss = sum_by-cons (λ (t : Extent). one_if (test t.kind)) s ss

pub counting_begins : (all : List Extent) (blocks : ℕ) (now : Counts) → now.blocks ≡ blocks → now.entries ≡ 0 → now.inodes ≡ 0 → now.findings ≡ 0 → CountingAll all all blocks now
counting_begins all blocks now b e i f = record {
  blocks_are = b;
  entries = omega (arith, e);
  inodes = omega (arith, i);
  findings = omega (arith, f);
}

pub counting_goes_on : (all left : List Extent) (blocks : ℕ) (now : Counts) (s : Extent) → CountingAll all (s ∷ left) blocks now → CountingAll all left blocks (counted now s.kind)
counting_goes_on all left blocks now s before = record {
  blocks_are = before.blocks_are;
  entries = omega (arith, before.entries, number_cons is_entry_tile s left);
  inodes = omega (arith, before.inodes, number_cons is_inode_tile s left);
  findings = omega (arith, before.findings, number_cons is_found s left);
}

pub counting_ends : (e : Endian) (size : ℕ) (image : List ℕ) (now : Counts) → CountingAll (image_extents e size image) [] (block_count size image) now
    → now ≡ counts_of e size image (block_count size image)
counting_ends e size image now done =
    let entries : now.entries ≡ count_in is_entry_tile (image_extents e size image) = omega (arith, done.entries) in
    let inodes : now.inodes ≡ count_in is_inode_tile (image_extents e size image) = omega (arith, done.inodes) in
    let findings : now.findings ≡ count_in is_found (image_extents e size image) = omega (arith, done.findings) in
    λ i. record { blocks = done.blocks_are i; entries = entries i; inodes = inodes i; findings = findings i }

few_in : (e : Endian) (size : ℕ) (image ks : List ℕ) → size % 4 ≡ 0 → length (flat_map (extents_of_block e size image) ks) ≤ length ks * size
few_in e size image [] words = omega arith
few_in e size image (k ∷ ks) words =
    let whole : length (block_of size image k) ≡ size = block_length size image k in
    let few = extents_are_few e (k * size) (block_of size image k) (ap (λ n. n % 4) whole ∙ words) in
    omega (arith, length-append (extents_of_block e size image k) (flat_map (extents_of_block e size image) ks), few, whole, few_in e size image ks words)

-- they are no more than the image may have bytes
pub extents_few : (e : Endian) (size : ℕ) (image : List ℕ) → IsScannable size image → length (image_extents e size image) ≤ 272629760
extents_few e size image scannable =
    let n : ℕ = block_count size image in
    let few : length (image_extents e size image) ≤ length (below n) * size = few_in e size image (below n) (readable_words size scannable.0) in
    let small : n * size ≤ 272629760 = starts_small size n image scannable.0 scannable.1 (omega arith) in
    let same : length (below n) * size ≡ n * size = ap (λ m. m * size) (length-below n) in
    omega (arith, few, small, same)

-- a test that passes of some extents is counted no more often
pub all_few : (test : ExtentKind → Bool) (e : Endian) (size : ℕ) (image : List ℕ) → IsScannable size image → count_in test (image_extents e size image) ≤ 272629760
all_few test e size image scannable =
    omega (arith, count_by-le-length (λ (s : Extent). test s.kind) (image_extents e size image), extents_few e size image scannable)
