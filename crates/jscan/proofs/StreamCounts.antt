-- What is counted while a source is read block by block.
use Rattle.std.proofs.Common.{◌≡◌, ℕ, suc, ◌+◌, ◌-◌, ◌*◌, ◌%◌, ◌≤◌, Bool, true, false, List, [], ◌∷◌, ◌++◌, length, Option, None, Some, IfSome, IfNone, sym, ap, subst, ◌∙◌, arith, append-nil}
use Rattle.std.specs.Prelude.{◌==◌, ◌&&◌, flat_map, nat_le}
use Rattle.std.proofs.lemmas.Bool.{and_parts, eqb-true, leb-true}
use Rattle.std.proofs.lemmas.Grind.{flat_map-append}
use Rattle.std.proofs.lemmas.List.Sums.{sum_by-append}
use Rattle.flashbase.specs.Lists.{below}
use Rattle.flashbase.specs.declared.source.Source.{Ghosts as OfSource}
use Rattle.jnode.specs.declared.order.Endian.{Endian}
use Rattle.jscan.specs.Counts.{is_entry_tile, is_inode_tile, is_found, one_if, count_in, extents_of_block, extents_below, counts_of, block_counted, no_counts}
use Rattle.jscan.specs.Image.{block_of, block_count, is_block_size, greatest_image}
use Rattle.jscan.specs.Filling.{Breaks}
use Rattle.jscan.specs.Stream.{IsAtStart, IsNextBlock, GivesBlock, GivesNone, GivesFault, size_of, start_of, source_of, rest_of, failures_of, fault_of, has_ended}
use Rattle.jscan.specs.Extents.{extents}
use Rattle.jscan.specs.declared.counts.Counts.{Counts}
use Rattle.jscan.specs.declared.stream.BlockReader.{BlockReader}
use Rattle.jscan.specs.declared.stream.StreamFault.{StreamFault}
use Rattle.jscan.specs.declared.extent.ExtentKind.{ExtentKind}
use Rattle.jscan.specs.declared.extent.Extent.{Extent}
use Rattle.jscan.proofs.CountLemmas.{number_fits}
use Rattle.jscan.proofs.StreamLemmas.{IsAtBlock, IsWhole, block_here, at_next, at_last}

-- where the source's bytes are known: what is left of them, and the counts of the blocks before
pub record IsCounted (e : Endian) (size start : ℕ) (counts : Counts) (image : List ℕ) (rest : Option (List ℕ)) : Type 0 where
  pub place : IsAtBlock size start image rest
  pub so_far : counts ≡ counts_of e size image counts.blocks

-- so far a scan has given and counted the blocks before `start`
pub record Scanning {S : Type 0} {o : OfSource S} (e : Endian) (source : S) (size start : ℕ) (counts : Counts) (reader : BlockReader S o) : Type 0 where
  pub blocks_of : size_of reader ≡ size
  pub readable : is_block_size size ≡ true
  pub here : start_of reader ≡ start
  pub blocks : counts.blocks * size ≡ start
  pub entries : counts.entries ≤ start
  pub inodes : counts.inodes ≤ start
  pub findings : counts.findings ≤ start
  pub well : fault_of reader ≡ None
  pub none_failed : failures_of reader ≡ o.failures source
  pub known : IfSome (o.rest source) (λ image. IsCounted e size start counts image (rest_of reader))

-- ---- the sizes of blocks

pub readable_words : (size : ℕ) → is_block_size size ≡ true → size % 4 ≡ 0
readable_words size h =
    let parts = and_parts (nat_le 4096 size && nat_le size 4194304) (size % 4 == 0) h in
    eqb-true (size % 4) 0 parts.1

pub readable_some : (size : ℕ) → is_block_size size ≡ true → 4096 ≤ size
readable_some size h =
    let parts = and_parts (nat_le 4096 size && nat_le size 4194304) (size % 4 == 0) h in
    leb-true 4096 size (and_parts (nat_le 4096 size) (nat_le size 4194304) parts.0).0

-- ---- no block yet

pub scanning_start : {S : Type 0} {o : OfSource S} (e : Endian) (source : S) (size : ℕ) (counts : Counts) (reader : BlockReader S o)
    → counts ≡ no_counts → IsAtStart size reader → source_of reader ≡ source → Scanning e source size 0 counts reader
scanning_start {S} {o} e source size counts reader none begins is =
    record {
      blocks_of = begins.1;
      readable = begins.0;
      here = begins.2;
      blocks = omega (arith, ap (λ (k : ℕ). k * size) no_blocks);
      entries = omega (arith, ap (λ (c : Counts). c.entries) none);
      inodes = omega (arith, ap (λ (c : Counts). c.inodes) none);
      findings = omega (arith, ap (λ (c : Counts). c.findings) none);
      well = begins.3;
      none_failed = ap o.failures is;
      known = known (o.rest source) (ap o.rest is);
    }
  where
    no_blocks : counts.blocks ≡ 0
    no_blocks = ap (λ (c : Counts). c.blocks) none

    known : (known_bytes : Option (List ℕ)) → rest_of reader ≡ known_bytes → IfSome known_bytes (λ image. IsCounted e size 0 counts image (rest_of reader))
    known None left = tt
    known (Some image) left = record {
      place = record { left = left; fits = omega arith; tight = omega (arith, readable_some size begins.0) };
      so_far = none ∙ ap (counts_of e size image) (sym no_blocks);
    }

-- ---- one block more

number_append : (test : ExtentKind → Bool) (ss ts : List Extent) → count_in test (ss ++ ts) ≡ count_in test ss + count_in test ts
number_append test ss ts = sum_by-append (λ (s : Extent). one_if (test s.kind)) ss ts

more_extents : (e : Endian) (size : ℕ) (image : List ℕ) (n : ℕ)
    → extents_below e size image (n + 1) ≡ extents_below e size image n ++ extents_of_block e size image n
more_extents e size image n =
    let f = λ (k : ℕ). extents_of_block e size image k in
    let step : n + 1 ≡ suc n = omega arith in
    ap (λ (m : ℕ). flat_map f (below m)) step ∙ flat_map-append f (below n) (n ∷ [])
    ∙ ap (λ (l : List Extent). flat_map f (below n) ++ l) (append-nil (f n))

counts_grow : (e : Endian) (size : ℕ) (image : List ℕ) (n : ℕ)
    → counts_of e size image (n + 1) ≡ block_counted (counts_of e size image n) (extents_of_block e size image n)
counts_grow e size image n =
    let more = more_extents e size image n in
    let grows = λ (test : ExtentKind → Bool). ap (count_in test) more ∙ number_append test (extents_below e size image n) (extents_of_block e size image n) in
    λ i. record { blocks = n + 1; entries = grows is_entry_tile i; inodes = grows is_inode_tile i; findings = grows is_found i }

known_next : (e : Endian) (size start : ℕ) (counts now : Counts) (image : List ℕ) (old new : Option (List ℕ)) (block : List ℕ)
    → counts.blocks * size ≡ start → IsCounted e size start counts image old → IsNextBlock size start old new block
    → now ≡ block_counted counts (extents e start block) → IsCounted e size (start + size) now image new
known_next e size start counts now image old new block here before next is =
    let n = counts.blocks in
    let same : extents e start block ≡ extents_of_block e size image n =
    ap (extents e start) (block_here size start n image old new block here before.place next)
    ∙ ap (λ (k : ℕ). extents e k (block_of size image n)) (sym here) in
    let total : now ≡ counts_of e size image (n + 1) =
    is ∙ ap (λ (c : Counts). block_counted c (extents e start block)) before.so_far
    ∙ ap (block_counted (counts_of e size image n)) same ∙ sym (counts_grow e size image n) in
    record {
      place = at_next size start image old new block before.place next;
      so_far = total ∙ ap (counts_of e size image) (sym (ap (λ (c : Counts). c.blocks) total));
    }

pub scanning_next : {S : Type 0} {o : OfSource S} (e : Endian) (source : S) (size start : ℕ) (counts now : Counts) (old new : BlockReader S o) (block : List ℕ)
    → Scanning e source size start counts old → GivesBlock old new block → now ≡ block_counted counts (extents e start block)
    → Scanning e source size (start + size) now new
scanning_next {S} {o} e source size start counts now old new block before gives is =
    let long : length block ≡ size = gives.whole ∙ before.blocks_of in
    let words : length block % 4 ≡ 0 = ap (λ (n : ℕ). n % 4) long ∙ readable_words size before.readable in
    let blocks : now.blocks ≡ counts.blocks + 1 = ap (λ (c : Counts). c.blocks) is in
    let entries : now.entries ≡ counts.entries + count_in is_entry_tile (extents e start block) = ap (λ (c : Counts). c.entries) is in
    let inodes : now.inodes ≡ counts.inodes + count_in is_inode_tile (extents e start block) = ap (λ (c : Counts). c.inodes) is in
    let findings : now.findings ≡ counts.findings + count_in is_found (extents e start block) = ap (λ (c : Counts). c.findings) is in
    let next : IsNextBlock size start (rest_of old) (rest_of new) block =
    subst (λ (s : ℕ). IsNextBlock s start (rest_of old) (rest_of new) block) before.blocks_of
    (subst (λ (s : ℕ). IsNextBlock (size_of old) s (rest_of old) (rest_of new) block) before.here gives.bytes) in
    record {
      blocks_of = gives.same_size ∙ before.blocks_of;
      readable = before.readable;
      here = gives.moves_on ∙ omega (arith, before.here, before.blocks_of);
      blocks = ap (λ (n : ℕ). n * size) blocks ∙ omega (arith, before.blocks);
      entries = omega (arith, entries, before.entries, long, number_fits is_entry_tile e start block words);
      inodes = omega (arith, inodes, before.inodes, long, number_fits is_inode_tile e start block words);
      findings = omega (arith, findings, before.findings, long, number_fits is_found e start block words);
      well = gives.going_on;
      none_failed = gives.none_failed ∙ before.none_failed;
      known = known (o.rest source) before.known next;
    }
  where
    known : (known_bytes : Option (List ℕ)) → IfSome known_bytes (λ image. IsCounted e size start counts image (rest_of old)) → IsNextBlock size start (rest_of old) (rest_of new) block
        → IfSome known_bytes (λ image. IsCounted e size (start + size) now image (rest_of new))
    known None so_far next = tt
    known (Some image) so_far next = known_next e size start counts now image (rest_of old) (rest_of new) block before.blocks so_far next is

-- ---- the end

pub scanning_end : {S : Type 0} {o : OfSource S} (e : Endian) (source : S) (size start : ℕ) (counts : Counts) (old new : BlockReader S o)
    → Scanning e source size start counts old → GivesNone old new → IfSome (o.rest source) (λ image. IsWhole size counts.blocks image)
scanning_end {S} {o} e source size start counts old new before gives = known (o.rest source) before.known
  where
    known : (known_bytes : Option (List ℕ)) → IfSome known_bytes (λ image. IsCounted e size start counts image (rest_of old)) → IfSome known_bytes (λ image. IsWhole size counts.blocks image)
    known None so_far = tt
    known (Some image) so_far =
        at_last size start counts.blocks image (rest_of old) (omega (arith, readable_some size before.readable)) before.blocks so_far.place gives.at_end

pub all_given : (size : ℕ) (n : ℕ) (known_bytes : Option (List ℕ)) → IfSome known_bytes (λ image. IsWhole size n image)
    → IfSome known_bytes (λ image. n ≡ block_count size image)
all_given size n None whole = tt
all_given size n (Some image) whole = whole.all

pub all_within : (size : ℕ) (n : ℕ) (known_bytes : Option (List ℕ)) → IfSome known_bytes (λ image. IsWhole size n image)
    → IfSome known_bytes (λ image. length image ≤ greatest_image)
all_within size n None whole = tt
all_within size n (Some image) whole = whole.within

-- ---- a fault

module _ {S : Type 0} {o : OfSource S} (e : Endian) (source : S) (size start : ℕ) (counts : Counts) (old new : BlockReader S o) where
  -- the reader has answered none before
  pub breaks_here : (fault : StreamFault) → Scanning e source size start counts old → GivesFault old new fault
      → Breaks (rest_of old) (failures_of old) (failures_of new) size (greatest_image - start) fault
  breaks_here fault before gives =
      let first : (has_ended old ≡ false) × Breaks (rest_of old) (failures_of old) (failures_of new) (size_of old) (greatest_image - start_of old) fault =
      subst (λ (f : Option StreamFault). IfNone f ((has_ended old ≡ false)
      × Breaks (rest_of old) (failures_of old) (failures_of new) (size_of old) (greatest_image - start_of old) fault)) before.well gives.first in
      subst (λ (s : ℕ). Breaks (rest_of old) (failures_of old) (failures_of new) s (greatest_image - start) fault) before.blocks_of
      (subst (λ (s : ℕ). Breaks (rest_of old) (failures_of old) (failures_of new) (size_of old) (greatest_image - s) fault) before.here first.1)
