-- Counting extent by extent, and block by block.
use Rattle.std.proofs.Common.{◌≡◌, ℕ, ◌+◌, ◌%◌, ◌≤◌, Bool, List, [], ◌∷◌, length, arith}
use Rattle.std.proofs.lemmas.List.Sums.{count_by-le-length, sum_by-cons}
use Rattle.jnode.specs.declared.order.Endian.{Endian}
use Rattle.jscan.specs.Counts.{is_entry_tile, is_inode_tile, is_found, count_in, counted, block_counted, one_if}
use Rattle.jscan.specs.Extents.{extents}
use Rattle.jscan.specs.declared.counts.Counts.{Counts}
use Rattle.jscan.specs.declared.extent.ExtentKind.{ExtentKind}
use Rattle.jscan.specs.declared.extent.Extent.{Extent}
use Rattle.jscan.proofs.ExtentLaws.{extents_are_few}

-- what is counted and what is left come to the same as all
pub record Counting (old : Counts) (all left : List Extent) (now : Counts) : Type 0 where
  pub blocks : now.blocks ≡ old.blocks + 1
  pub entries : now.entries + count_in is_entry_tile left ≡ old.entries + count_in is_entry_tile all
  pub inodes : now.inodes + count_in is_inode_tile left ≡ old.inodes + count_in is_inode_tile all
  pub findings : now.findings + count_in is_found left ≡ old.findings + count_in is_found all

number_cons : (test : ExtentKind → Bool) (s : Extent) (ss : List Extent) → count_in test (s ∷ ss) ≡ one_if (test s.kind) + count_in test ss
number_cons test s ss = sum_by-cons (λ (t : Extent). one_if (test t.kind)) s ss

pub counting_next : (old : Counts) (all left : List Extent) (now : Counts) (s : Extent) → Counting old all (s ∷ left) now → Counting old all left (counted now s.kind)
counting_next old all left now s before = record {
  blocks = before.blocks;
  entries = omega (arith, before.entries, number_cons is_entry_tile s left);
  inodes = omega (arith, before.inodes, number_cons is_inode_tile s left);
  findings = omega (arith, before.findings, number_cons is_found s left);
}

pub counting_end : (old : Counts) (all : List Extent) (now : Counts) → Counting old all [] now → now ≡ block_counted old all
counting_end old all now done =
    let entries : now.entries ≡ old.entries + count_in is_entry_tile all = omega (arith, done.entries) in
    let inodes : now.inodes ≡ old.inodes + count_in is_inode_tile all = omega (arith, done.inodes) in
    let findings : now.findings ≡ old.findings + count_in is_found all = omega (arith, done.findings) in
    λ i. record { blocks = done.blocks i; entries = entries i; inodes = inodes i; findings = findings i }

-- as many as the block has bytes, at most
pub number_fits : (test : ExtentKind → Bool) (e : Endian) (start : ℕ) (block : List ℕ) → length block % 4 ≡ 0 → count_in test (extents e start block) ≤ length block
number_fits test e start block words =
    omega (arith, count_by-le-length (λ (s : Extent). test s.kind) (extents e start block), extents_are_few e start block words)
