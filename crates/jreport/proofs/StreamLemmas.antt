-- The report of a source while it goes out block by block.
use Rattle.std.proofs.Common.{◌≡◌, ◌≢◌, ℕ, ◌+◌, ◌-◌, ◌*◌, ◌/◌, ◌<◌, ◌≤◌, min, List, [], ◌++◌, length, drop, take, Option, None, Some, IfSome, IfNone, ⊎_elim, refl, sym, ap, subst, ◌∙◌, arith, append_assoc, append-nil, length-drop}
use Rattle.std.specs.Prelude.{Result, Ok, Err, IsErrAnd, IsErrOf}
use Rattle.std.specs.Io.KnownBytes.{Appends, IsAtEnd, Keeps}
use Rattle.std.proofs.KnownBytes.{Appends-trans, Appends-nil}
use Rattle.std.proofs.lemmas.Bool.{cases_lt}
use Rattle.std.proofs.lemmas.Grind.{div_ceil_times}
use Rattle.std.proofs.lemmas.List.{drop-drop}
use Rattle.std.proofs.lemmas.Nat.{div_below, le-div}
use Rattle.std.proofs.Math.Nat.{mul-le-mul_right}
use Rattle.flashbase.specs.Device.{PutsPart, next_count}
use Rattle.flashbase.specs.declared.source.LoadFault.TheVariants as load
use Rattle.flashbase.specs.declared.source.Source.{Ghosts as OfSource}
use Rattle.flashbase.proofs.DeviceLemmas.{part_before, part_behind}
use Rattle.jnode.specs.declared.order.Endian.{Endian}
use Rattle.jscan.specs.Counts.{counts_of, block_counted, no_counts}
use Rattle.jscan.specs.Filling.{Breaks, StopsPast, StopsWithin}
use Rattle.jscan.specs.Image.{block_count, greatest_image}
use Rattle.jscan.specs.Stream.{IsAtStart, IsNextBlock, GivesBlock, GivesNone, GivesFault, size_of, source_of, rest_of, failures_of}
use Rattle.jscan.specs.Extents.{extents}
use Rattle.jscan.specs.declared.counts.Counts.{Counts}
use Rattle.jscan.specs.declared.stream.BlockReader.{BlockReader}
use Rattle.jscan.specs.declared.stream.StreamFault.{StreamFault}
use Rattle.jscan.specs.declared.stream.StreamFault.TheVariants as stream
use Rattle.jscan.specs.declared.geometry.ScanFault.TheVariants as scan
use Rattle.jscan.proofs.StreamCounts.{Scanning, IsCounted, breaks_here, scanning_start, scanning_next, scanning_end, readable_some}
use Rattle.jscan.proofs.StreamLemmas.{IsAtBlock, IsWhole, at_next, block_here}
use Rattle.jreport.specs.Faults.{fault_of_stream}
use Rattle.jreport.specs.Report.{scan_text, lines_of_block, lines_below, block_lines, totals_line}
use Rattle.jreport.specs.Stream.{BreaksOff, HandsBack, OfSomeImage, PutsStream, ReadsTo, StopsBehind}
use Rattle.jreport.specs.declared.faults.ProgramFault.{ProgramFault}
use Rattle.jreport.specs.declared.faults.ProgramFault.TheVariants as program
use Rattle.jreport.proofs.BlockLemmas.{lines_below_more, lines_begin, one_more}
use Rattle.jreport.proofs.GrowingLemmas.{Untold, untold_next, untold_count, untold_part}
use Rattle.jreport.proofs.SinkLemmas.{sink_change}

-- an image that fits what a source tells
fitting : (known_bytes : Option (List ℕ)) → (image : List ℕ) × IfSome known_bytes (λ bytes. image ≡ bytes)
fitting None = ([], tt)
fitting (Some bytes) = (bytes, refl)

-- of an image that was not read there is nothing to say
of_unread : {P : List ℕ → Type 0} (known_bytes : Option (List ℕ)) → ((image : List ℕ) → P image) → OfSomeImage known_bytes P
of_unread known_bytes all = ((fitting known_bytes).0, (fitting known_bytes).1, all (fitting known_bytes).0)

-- the lines of the first n blocks of these bytes have gone out
abbrev pub Gone : Endian → ℕ → ℕ → Option (List ℕ) → Option (List ℕ) → List ℕ → Type 0
Gone e size n old new image = Appends old new (lines_below e size image n)

-- The blocks before `start` were read and counted, and their lines have gone out.
pub record Streaming {S : Type 0} {o : OfSource S} (e : Endian) (source : S) (size start : ℕ) (counts : Counts) (reader : BlockReader S o)
    (old new : Option (List ℕ)) (before now : ℕ) : Type 0 where
  pub scanning : Scanning e source size start counts reader
  pub put : IfSome (o.rest source) (Gone e size counts.blocks old new)
  pub untold : IfNone (o.rest source) (Untold e size counts old new)
  pub none_failed : now ≡ before

-- all blocks of these bytes were counted, and their lines have gone out
pub record Ended (e : Endian) (size : ℕ) (counts : Counts) (old new : Option (List ℕ)) (image : List ℕ) : Type 0 where
  pub totals : counts ≡ counts_of e size image (block_count size image)
  pub within : length image ≤ greatest_image
  pub gone : Gone e size (block_count size image) old new image

-- ---- the next block of an image

lines_here : (e : Endian) (size start n : ℕ) (image : List ℕ) (rest new : Option (List ℕ)) (block : List ℕ) → n * size ≡ start
    → IsAtBlock size start image rest → IsNextBlock size start rest new block → lines_of_block n (extents e start block) ≡ block_lines e size image n
unfolding block_lines
lines_here e size start n image rest new block here at next =
    ap (λ (s : ℕ). lines_of_block n (extents e s block)) (sym here)
    ∙ ap (λ (l : List ℕ). lines_of_block n (extents e (n * size) l)) (block_here size start n image rest new block here at next)

-- there is such a block
inside : (size start n : ℕ) (image : List ℕ) (rest new : Option (List ℕ)) (block : List ℕ) → 0 < size → n * size ≡ start
    → IsAtBlock size start image rest → IsNextBlock size start rest new block → n < block_count size image
inside size start n image rest new block some here at next =
    let left : IsNextBlock size start (Some (drop start image)) new block = subst (λ (r : Option (List ℕ)). IsNextBlock size start r new block) at.left next in
    let more : 0 < length (drop start image) = left.0 in
    let bounds = div_ceil_times (length image) size some in
    ⊎_elim (λ less. less)
    (λ past. let upto = mul-le-mul_right size past in absurd (omega (arith, upto, bounds.0, here, more, length-drop start image)))
    (cases_lt n (block_count size image))

-- no more blocks were given than there are
upto_count : (size start n : ℕ) (image : List ℕ) (rest : Option (List ℕ)) → 0 < size → n * size ≡ start → IsAtBlock size start image rest
    → n ≤ block_count size image
upto_count size start n image rest some here at =
    let count = block_count size image in
    let bounds = div_ceil_times (length image) size some in
    ⊎_elim (λ more. let upto = mul-le-mul_right {m = count + 1} {n = n} size (omega (arith, more)) in
    absurd (omega (arith, upto, one_more count size, bounds.0, here, at.tight)))
    (λ within. within)
    (cases_lt count n)

-- the next block holds a byte past the greatest image
at_limit : (size start n : ℕ) (image : List ℕ) (rest : Option (List ℕ)) → 0 < size → n * size ≡ start → IsAtBlock size start image rest
    → IfSome rest (λ bytes. greatest_image - start < min size (length bytes)) → greatest_image / size ≡ n
at_limit size start n image rest some here at past =
    let left : greatest_image - start < min size (length (drop start image)) =
    subst (λ (r : Option (List ℕ)). IfSome r (λ bytes. greatest_image - start < min size (length bytes))) at.left past in
    let long = length-drop start image in
    let upto : n * size ≤ greatest_image = omega (arith, left, long, at.fits, here) in
    let below : greatest_image < (n + 1) * size = omega (arith, left, here, one_more n size) in
    omega (arith, le-div n greatest_image size some upto, div_below greatest_image size (n + 1) some below)

-- known bytes are still there
still_some : (a b : Option (List ℕ)) (bytes : List ℕ) → Keeps a b → a ≡ Some bytes → b ≡ Some bytes
still_some None b bytes kept is = cc
still_some (Some xs) None bytes kept is = absurd kept
still_some (Some xs) (Some ys) bytes kept is = ap Some kept ∙ is

-- the lines of fewer blocks come first
lines_upto : (e : Endian) (size : ℕ) (image : List ℕ) (n m : ℕ) → n ≤ m
    → (rest : List ℕ) × (lines_below e size image m ≡ lines_below e size image n ++ rest)
lines_upto e size image n m upto = ⊎_elim
    (λ fewer.
    let (rest, is) = lines_begin e size image n m fewer in (
      block_lines e size image n ++ rest,
      is ∙ append_assoc (lines_below e size image n) (block_lines e size image n) rest,
    ))
    (λ from.
    let same : m ≡ n = omega (arith, upto, from) in ([], ap (λ (k : ℕ). lines_below e size image k) same ∙ sym (append-nil (lines_below e size image n))))
    (cases_lt n m)

-- ---- block after block

module _ {S : Type 0} {o : OfSource S} where
  next_of : (e : Endian) (source : S) (size start : ℕ) (counts : Counts) (old new : BlockReader S o) (block : List ℕ)
      → Scanning e source size start counts old → GivesBlock old new block → IsNextBlock size start (rest_of old) (rest_of new) block
  next_of e source size start counts old new block before gives =
      subst (λ (s : ℕ). IsNextBlock s start (rest_of old) (rest_of new) block) before.blocks_of
      (subst (λ (s : ℕ). IsNextBlock (size_of old) s (rest_of old) (rest_of new) block) before.here gives.bytes)

  pub streaming_start : (e : Endian) (source : S) (size : ℕ) (counts : Counts) (reader : BlockReader S o) (a : Option (List ℕ)) (n : ℕ)
      → counts ≡ no_counts → IsAtStart size reader → source_of reader ≡ source → Streaming e source size 0 counts reader a a n n
  streaming_start e source size counts reader a n none begins is = record {
    scanning = scanning_start e source size counts reader none begins is;
    put = gone (o.rest source);
    untold = empty (o.rest source);
    none_failed = refl;
  }
    where
      no_blocks : counts.blocks ≡ 0
      no_blocks = ap (λ (c : Counts). c.blocks) none

      nothing : (image : List ℕ) → Gone e size counts.blocks a a image
      nothing image = subst (λ (k : ℕ). Appends a a (lines_below e size image k)) (sym no_blocks) (Appends-nil a)

      gone : (known_bytes : Option (List ℕ)) → IfSome known_bytes (Gone e size counts.blocks a a)
      gone None = tt
      gone (Some image) = nothing image

      empty : (known_bytes : Option (List ℕ)) → IfNone known_bytes (Untold e size counts a a)
      empty None = record {
        image = [];
        whole = omega (arith, ap (λ (k : ℕ). k * size) no_blocks);
        counted = none ∙ ap (counts_of e size []) (sym no_blocks);
        gone = nothing [];
      }
      empty (Some image) = tt

  pub streaming_next : (e : Endian) (source : S) (size start : ℕ) (counts now : Counts) (old new : BlockReader S o) (block : List ℕ)
      (a b c : Option (List ℕ)) (n m k : ℕ) → Streaming e source size start counts old a b n m → GivesBlock old new block
      → now ≡ block_counted counts (extents e start block) → Appends b c (lines_of_block counts.blocks (extents e start block)) → k ≡ m
      → Streaming e source size (start + size) now new a c n k
  streaming_next e source size start counts now old new block a b c n m k before gives is put none =
      record {
        scanning = scanning_next e source size start counts now old new block before.scanning gives is;
        put = known (o.rest source) before.scanning.known before.put;
        untold = grown (o.rest source) before.untold;
        none_failed = none ∙ before.none_failed;
      }
    where
      grown : (known_bytes : Option (List ℕ)) → IfNone known_bytes (Untold e size counts a b) → IfNone known_bytes (Untold e size now a c)
      grown None so_far =
          untold_next e size start counts now block a b c so_far (gives.whole ∙ before.scanning.blocks_of) before.scanning.blocks is put
      grown (Some image) so_far = tt

      known : (known_bytes : Option (List ℕ)) → IfSome known_bytes (λ image. IsCounted e size start counts image (rest_of old)) → IfSome known_bytes (Gone e size counts.blocks a b)
          → IfSome known_bytes (Gone e size now.blocks a c)
      known None so_far gone = tt
      known (Some image) so_far gone =
          let blocks : now.blocks ≡ counts.blocks + 1 = ap (λ (x : Counts). x.blocks) is in
          let next = next_of e source size start counts old new block before.scanning gives in
          let line = lines_here e size start counts.blocks image (rest_of old) (rest_of new) block before.scanning.blocks so_far.place next in
          subst (λ (i : ℕ). Appends a c (lines_below e size image i)) (sym blocks)
          (subst (Appends a c) (sym (lines_below_more e size image counts.blocks))
          (Appends-trans a b c (lines_below e size image counts.blocks) (block_lines e size image counts.blocks) gone (subst (Appends b c) line put)))

  -- the sink failed at a block
  pub began_at_block : (e : Endian) (source : S) (size start : ℕ) (counts : Counts) (old new : BlockReader S o) (block : List ℕ)
      (a b c : Option (List ℕ)) (n m : ℕ) → Streaming e source size start counts old a b n m → GivesBlock old new block
      → PutsPart b c (lines_of_block counts.blocks (extents e start block)) → IfSome (o.rest source) (λ image. PutsPart a c (scan_text e size image))
  unfolding scan_text
  began_at_block e source size start counts old new block a b c n m before gives part = known (o.rest source) before.scanning.known before.put
    where
      known : (known_bytes : Option (List ℕ)) → IfSome known_bytes (λ image. IsCounted e size start counts image (rest_of old)) → IfSome known_bytes (Gone e size counts.blocks a b)
          → IfSome known_bytes (λ image. PutsPart a c (scan_text e size image))
      known None so_far gone = tt
      known (Some image) so_far gone =
          let k = counts.blocks in
          let some : 0 < size = omega (arith, readable_some size before.scanning.readable) in
          let next = next_of e source size start counts old new block before.scanning gives in
          let line = lines_here e size start k image (rest_of old) (rest_of new) block before.scanning.blocks so_far.place next in
          let less = inside size start k image (rest_of old) (rest_of new) block some before.scanning.blocks so_far.place next in
          let count = block_count size image in
          let (rest, is) = lines_begin e size image k count less in
          let here = part_behind a b c (lines_below e size image k) (block_lines e size image k) gone (subst (PutsPart b c) line part) in
          part_before a c (lines_below e size image count) (totals_line (counts_of e size image count))
          (subst (PutsPart a c) (sym is) (part_before a c (lines_below e size image k ++ block_lines e size image k) rest here))

  -- ---- where the source fails

  pub gone_before : (e : Endian) (source : S) (size start : ℕ) (counts : Counts) (reader : BlockReader S o) (a b : Option (List ℕ)) (n m : ℕ)
      → Streaming e source size start counts reader a b n m
      → IfSome (o.rest source) (λ image. (k : ℕ) × (k ≤ block_count size image) × Gone e size k a b image)
  gone_before e source size start counts reader a b n m before = known (o.rest source) before.scanning.known before.put
    where
      known : (known_bytes : Option (List ℕ)) → IfSome known_bytes (λ image. IsCounted e size start counts image (rest_of reader)) → IfSome known_bytes (Gone e size counts.blocks a b)
          → IfSome known_bytes (λ image. (k : ℕ) × (k ≤ block_count size image) × Gone e size k a b image)
      known None so_far gone = tt
      known (Some image) so_far gone =
          let some : 0 < size = omega (arith, readable_some size before.scanning.readable) in
          (counts.blocks, upto_count size start counts.blocks image (rest_of reader) some before.scanning.blocks so_far.place, gone)

  -- where the device failed, less than a block is gone of what follows the blocks whose lines have gone out
  pub stopped : (e : Endian) (source : S) (size start : ℕ) (counts : Counts) (old new : BlockReader S o) (fault : StreamFault)
      (a b : Option (List ℕ)) (n m : ℕ) → Streaming e source size start counts old a b n m → GivesFault old new fault → fault ≡ stream.Device
      → IfSome (o.rest source) (BreaksOff e size a b (rest_of new))
  stopped e source size start counts old new fault a b n m before gives is = known (o.rest source) before.scanning.known before.put
    where
      torn : StopsWithin (rest_of old) (rest_of new) size
      torn = subst (StopsWithin (rest_of old) (rest_of new)) before.scanning.blocks_of (gives.torn is before.scanning.well)

      known : (known_bytes : Option (List ℕ)) → IfSome known_bytes (λ image. IsCounted e size start counts image (rest_of old)) → IfSome known_bytes (Gone e size counts.blocks a b)
          → IfSome known_bytes (BreaksOff e size a b (rest_of new))
      known None so_far gone = tt
      known (Some image) so_far gone =
          let some : 0 < size = omega (arith, readable_some size before.scanning.readable) in
          let behind : rest_of old ≡ Some (drop (counts.blocks * size) image) = so_far.place.left ∙ ap (λ (k : ℕ). Some (drop k image)) (sym before.scanning.blocks) in (
            counts.blocks,
            upto_count size start counts.blocks image (rest_of old) some before.scanning.blocks so_far.place,
            subst (λ (r : Option (List ℕ)). StopsWithin r (rest_of new) size) behind torn,
            gone,
          )

  pub gone_to_limit : (e : Endian) (source : S) (size start : ℕ) (counts : Counts) (old new : BlockReader S o) (fault : StreamFault)
      (a b : Option (List ℕ)) (n m : ℕ) → Streaming e source size start counts old a b n m → GivesFault old new fault → fault ≡ stream.TooLarge
      → IfSome (o.rest source) (Gone e size (greatest_image / size) a b)
  gone_to_limit e source size start counts old new fault a b n m before gives is = known (o.rest source) before.scanning.known before.put
    where
      past : IfSome (rest_of old) (λ bytes. greatest_image - start < min size (length bytes))
      past = (subst (Breaks (rest_of old) (failures_of old) (failures_of new) size (greatest_image - start)) is
          (breaks_here e source size start counts old new fault before.scanning gives)).0

      known : (known_bytes : Option (List ℕ)) → IfSome known_bytes (λ image. IsCounted e size start counts image (rest_of old)) → IfSome known_bytes (Gone e size counts.blocks a b)
          → IfSome known_bytes (Gone e size (greatest_image / size) a b)
      known None so_far gone = tt
      known (Some image) so_far gone =
          let some : 0 < size = omega (arith, readable_some size before.scanning.readable) in
          let count = at_limit size start counts.blocks image (rest_of old) some before.scanning.blocks so_far.place past in
          subst (λ (k : ℕ). Appends a b (lines_below e size image k)) (sym count) gone

  -- ---- the end

  pub streaming_end : (e : Endian) (source : S) (size start : ℕ) (counts : Counts) (old new : BlockReader S o) (a b : Option (List ℕ)) (n m : ℕ)
      → Streaming e source size start counts old a b n m → GivesNone old new → IfSome (o.rest source) (Ended e size counts a b)
  streaming_end e source size start counts old new a b n m before gives =
      known (o.rest source) before.scanning.known before.put (scanning_end e source size start counts old new before.scanning gives)
    where
      known : (known_bytes : Option (List ℕ)) → IfSome known_bytes (λ image. IsCounted e size start counts image (rest_of old)) → IfSome known_bytes (Gone e size counts.blocks a b)
          → IfSome known_bytes (λ image. IsWhole size counts.blocks image) → IfSome known_bytes (Ended e size counts a b)
      known None so_far gone whole = tt
      known (Some image) so_far gone whole = record {
        totals = so_far.so_far ∙ ap (counts_of e size image) whole.all;
        within = whole.within;
        gone = subst (λ (k : ℕ). Appends a b (lines_below e size image k)) whole.all gone;
      }

-- ---- what is put, of the image that was read

-- all blocks were counted, and their lines have gone out
pub record Finished (e : Endian) (size : ℕ) (counts : Counts) (old new : Option (List ℕ)) (image : List ℕ) : Type 0 where
  pub totals : counts ≡ counts_of e size image (block_count size image)
  pub gone : Gone e size (block_count size image) old new image

pub finished : (e : Endian) (size : ℕ) (counts : Counts) (a b : Option (List ℕ)) (known_bytes : Option (List ℕ)) → 0 < size
    → IfSome known_bytes (Ended e size counts a b) → IfNone known_bytes (Untold e size counts a b) → OfSomeImage known_bytes (Finished e size counts a b)
finished e size counts a b None some ended untold =
    let count = sym (untold_count size counts.blocks untold.image some untold.whole) in (
      untold.image,
      tt,
      record {
        totals = untold.counted ∙ ap (counts_of e size untold.image) count;
        gone = subst (λ (k : ℕ). Appends a b (lines_below e size untold.image k)) count untold.gone;
      },
    )
finished e size counts a b (Some image) some ended untold = (image, refl, record { totals = ended.totals; gone = ended.gone })

-- and then the last
pub all_put : (e : Endian) (size : ℕ) (counts : Counts) (a b c : Option (List ℕ)) (before mid now : ℕ) (known_bytes : Option (List ℕ))
    → OfSomeImage known_bytes (Finished e size counts a b) → Appends b c (totals_line counts) → mid ≡ before → now ≡ mid
    → OfSomeImage known_bytes (λ image. PutsStream e size image (sink_change a c before now) (Ok counts.findings))
unfolding scan_text
all_put e size counts a b c before mid now known_bytes all put stayed stays =
    let image = all.0 in (
      image,
      all.1,
      (
        ap (λ (n : Counts). n.findings) all.2.totals,
        Appends-trans a b c (lines_below e size image (block_count size image)) (totals_line (counts_of e size image (block_count size image))) all.2.gone
            (subst (λ (n : Counts). Appends b c (totals_line n)) all.2.totals put),
        stays ∙ stayed,
      ),
    )

-- or a beginning of it
pub total_failed : (e : Endian) (size : ℕ) (counts : Counts) (a b c : Option (List ℕ)) (before mid now : ℕ) (known_bytes : Option (List ℕ)) (r : Result ℕ ProgramFault)
    → IsErrAnd r (λ x. x ≡ program.Output) → OfSomeImage known_bytes (Finished e size counts a b) → PutsPart b c (totals_line counts) → mid ≡ before → now ≡ next_count mid
    → OfSomeImage known_bytes (λ image. PutsStream e size image (sink_change a c before now) r)
unfolding scan_text
total_failed e size counts a b c before mid now known_bytes (Ok x) is all part stayed failed = absurd is
total_failed e size counts a b c before mid now known_bytes (Err x) is all part stayed failed =
    let image = all.0 in (
      image,
      all.1,
      subst (λ (y : ProgramFault). PutsStream e size image (sink_change a c before now) (Err y)) (sym is) (
        part_behind a b c (lines_below e size image (block_count size image)) (totals_line (counts_of e size image (block_count size image))) all.2.gone
            (subst (λ (n : Counts). PutsPart b c (totals_line n)) all.2.totals part),
        failed ∙ ap next_count stayed,
      ),
    )

module _ {S : Type 0} {o : OfSource S} where
  -- the sink failed at the lines of a block
  pub block_failed : (e : Endian) (source : S) (size start : ℕ) (counts : Counts) (old new : BlockReader S o) (block : List ℕ)
      (a b c : Option (List ℕ)) (before mid now : ℕ) (r : Result ℕ ProgramFault) → IsErrAnd r (λ x. x ≡ program.Output)
      → Streaming e source size start counts old a b before mid → GivesBlock old new block
      → PutsPart b c (lines_of_block counts.blocks (extents e start block)) → now ≡ next_count mid
      → OfSomeImage (o.rest source) (λ image. PutsStream e size image (sink_change a c before now) r)
  block_failed e source size start counts old new block a b c before mid now (Ok x) is so_far gives part failed = absurd is
  block_failed e source size start counts old new block a b c before mid now (Err x) is so_far gives part failed =
      known (o.rest source) so_far.untold (began_at_block e source size start counts old new block a b c before mid so_far gives part)
    where
      put : (image : List ℕ) → PutsPart a c (scan_text e size image) → PutsStream e size image (sink_change a c before now) (Err x)
      put image text = subst (λ (y : ProgramFault). PutsStream e size image (sink_change a c before now) (Err y)) (sym is) (text, failed ∙ ap next_count so_far.none_failed)

      known : (known_bytes : Option (List ℕ)) → IfNone known_bytes (Untold e size counts a b) → IfSome known_bytes (λ image. PutsPart a c (scan_text e size image))
          → OfSomeImage known_bytes (λ image. PutsStream e size image (sink_change a c before now) (Err x))
      known None untold text =
          let some : 0 < size = omega (arith, readable_some size so_far.scanning.readable) in
          let began = untold_part e size start counts block a b c some untold (gives.whole ∙ so_far.scanning.blocks_of) so_far.scanning.blocks part in
          (began.0, tt, put began.0 began.1)
      known (Some image) untold text = (image, refl, put image text)

  -- the source was not read on
  pub source_failed : (e : Endian) (source : S) (size start : ℕ) (counts : Counts) (old new : BlockReader S o) (fault : StreamFault)
      (a b : Option (List ℕ)) (before mid : ℕ) (r : Result ℕ ProgramFault) → IsErrAnd r (λ x. x ≡ fault_of_stream fault)
      → Streaming e source size start counts old a b before mid → GivesFault old new fault
      → OfSomeImage (o.rest source) (λ image. PutsStream e size image (sink_change a b before mid) r)
  source_failed e source size start counts old new fault a b before mid (Ok x) is so_far gives = absurd is
  source_failed e source size start counts old new fault a b before mid (Err x) is so_far gives =
      known (o.rest source) so_far.untold (gone_before e source size start counts old a b before mid so_far)
    where
      by : (image : List ℕ) (f : StreamFault) → Breaks (rest_of old) (failures_of old) (failures_of new) size (greatest_image - start) f
          → (k : ℕ) × (k ≤ block_count size image) × Gone e size k a b image → PutsStream e size image (sink_change a b before mid) (Err (fault_of_stream f))
      by image stream.Device breaks gone = (gone.0, gone.1, gone.2, so_far.none_failed)
      by image stream.TooLarge breaks gone = (gone.0, gone.1, gone.2, so_far.none_failed)
      by image stream.BlockSize breaks gone = absurd breaks
      by image stream.OutOfMemory breaks gone = absurd breaks

      put : (image : List ℕ) → (k : ℕ) × (k ≤ block_count size image) × Gone e size k a b image → PutsStream e size image (sink_change a b before mid) (Err x)
      put image gone = subst (λ (y : ProgramFault). PutsStream e size image (sink_change a b before mid) (Err y)) (sym is) (by image fault (breaks_here e source size start counts old new fault so_far.scanning gives) gone)

      known : (known_bytes : Option (List ℕ)) → IfNone known_bytes (Untold e size counts a b) → IfSome known_bytes (λ image. (k : ℕ) × (k ≤ block_count size image) × Gone e size k a b image)
          → OfSomeImage known_bytes (λ image. PutsStream e size image (sink_change a b before mid) (Err x))
      known None untold gone =
          let some : 0 < size = omega (arith, readable_some size so_far.scanning.readable) in
          let count = untold_count size counts.blocks untold.image some untold.whole in
          (untold.image, tt, put untold.image (counts.blocks, omega (arith, count), untold.gone))
      known (Some image) untold gone = (image, refl, put image gone)

  -- and it failed once where it is blamed
  pub source_blamed : (e : Endian) (source : S) (size start : ℕ) (counts : Counts) (old new : BlockReader S o) (fault : StreamFault)
      (a b : Option (List ℕ)) (before mid : ℕ) (r : Result ℕ ProgramFault) → IsErrAnd r (λ x. x ≡ fault_of_stream fault)
      → Streaming e source size start counts old a b before mid → GivesFault old new fault → HandsBack (o.failures source) (Some (failures_of new)) r
  source_blamed e source size start counts old new fault a b before mid (Ok x) is so_far gives = absurd is
  source_blamed e source size start counts old new fault a b before mid (Err x) is so_far gives =
      subst (λ (y : ProgramFault). HandsBack (o.failures source) (Some (failures_of new)) (Err y)) (sym is) (by fault (breaks_here e source size start counts old new fault so_far.scanning gives))
    where
      by : (f : StreamFault) → Breaks (rest_of old) (failures_of old) (failures_of new) size (greatest_image - start) f
          → HandsBack (o.failures source) (Some (failures_of new)) (Err (fault_of_stream f))
      by stream.Device breaks = breaks ∙ ap next_count so_far.scanning.none_failed
      by stream.TooLarge breaks = breaks.1 ∙ so_far.scanning.none_failed
      by stream.BlockSize breaks = absurd breaks
      by stream.OutOfMemory breaks = absurd breaks

-- ---- how far the source is read

-- to its end
pub read_whole : {S : Type 0} {o : OfSource S} (source : S) (old new : BlockReader S o) → GivesNone old new → IfSome (o.rest source) (λ image. IsAtEnd (rest_of new))
read_whole {S} {o} source old new gives = known (o.rest source)
  where
    known : (known_bytes : Option (List ℕ)) → IfSome known_bytes (λ image. IsAtEnd (rest_of new))
    known None = tt
    known (Some image) = gives.left

module _ {S : Type 0} {o : OfSource S} (e : Endian) (source : S) (size start : ℕ) (counts : Counts) (old new : BlockReader S o) (a b : Option (List ℕ)) where
  past_limit : (n m : ℕ) → Streaming e source size start counts old a b n m → GivesFault old new stream.TooLarge
      → IfSome (o.rest source) (λ image. StopsPast (Some image) (rest_of new) greatest_image (greatest_image + size))
  past_limit n m before gives = known (o.rest source) before.scanning.known
    where
      past : StopsPast (rest_of old) (rest_of new) (greatest_image - start) size
      past = subst (StopsPast (rest_of old) (rest_of new) (greatest_image - start)) before.scanning.blocks_of
          (subst (λ (s : ℕ). StopsPast (rest_of old) (rest_of new) (greatest_image - s) (size_of old)) before.scanning.here (gives.passed refl before.scanning.well))

      known : (known_bytes : Option (List ℕ)) → IfSome known_bytes (λ image. IsCounted e size start counts image (rest_of old))
          → IfSome known_bytes (λ image. StopsPast (Some image) (rest_of new) greatest_image (greatest_image + size))
      known None so_far = tt
      known (Some image) so_far =
          let gone = subst (λ (r : Option (List ℕ)). StopsPast r (rest_of new) (greatest_image - start) size) so_far.place.left past in
          let more : greatest_image - start < min size (length (drop start image)) =
          subst (λ (r : Option (List ℕ)). IfSome r (λ bytes. greatest_image - start < min size (length bytes))) so_far.place.left
          (breaks_here e source size start counts old new stream.TooLarge before.scanning gives).0 in (
            start + gone.0,
            omega (arith, gone.1),
            omega (arith, gone.2, so_far.place.fits, more, length-drop start image),
            gone.3 ∙ ap Some (drop-drop gone.0 start image),
          )

  -- the source was not read on
  pub source_left : (n m : ℕ) (fault : StreamFault) (r : Result ℕ ProgramFault) → IsErrAnd r (λ x. x ≡ fault_of_stream fault)
      → Streaming e source size start counts old a b n m → GivesFault old new fault → IfSome (o.rest source) (λ image. ReadsTo e size image a b (rest_of new) r)
  source_left n m fault (Ok x) is before gives = absurd is
  source_left n m fault (Err x) is before gives =
      subst (λ (y : ProgramFault). IfSome (o.rest source) (λ image. ReadsTo e size image a b (rest_of new) (Err y))) (sym is) (by fault gives)
    where
      by : (f : StreamFault) → GivesFault old new f → IfSome (o.rest source) (λ image. ReadsTo e size image a b (rest_of new) (Err (fault_of_stream f)))
      by stream.Device broken = stopped e source size start counts old new stream.Device a b n m before broken refl
      by stream.TooLarge broken = past_limit n m before broken
      by stream.BlockSize broken = absurd (breaks_here e source size start counts old new stream.BlockSize before.scanning broken)
      by stream.OutOfMemory broken = absurd (breaks_here e source size start counts old new stream.OutOfMemory before.scanning broken)

  sink_left : (c : Option (List ℕ)) (n m k : ℕ) (text : List ℕ) (r : Result ℕ ProgramFault) → IsErrAnd r (λ x. x ≡ program.Output)
      → Streaming e source size start counts old a b n m → PutsPart b c text → k - 1 ≤ counts.blocks
      → IfSome (o.rest source) (λ image. (k ≤ block_count size image) × (rest_of new ≡ Some (drop (k * size) image)))
      → IfSome (o.rest source) (λ image. ReadsTo e size image a c (rest_of new) r)
  sink_left c n m k text (Ok x) is before part upto place = absurd is
  sink_left c n m k text (Err x) is before part upto place =
      subst (λ (y : ProgramFault). IfSome (o.rest source) (λ image. ReadsTo e size image a c (rest_of new) (Err y))) (sym is) (known (o.rest source) before.put place)
    where
      known : (known_bytes : Option (List ℕ)) → IfSome known_bytes (Gone e size counts.blocks a b)
          → IfSome known_bytes (λ image. (k ≤ block_count size image) × (rest_of new ≡ Some (drop (k * size) image)))
          → IfSome known_bytes (StopsBehind e size a c (rest_of new))
      known None gone place = tt
      known (Some image) gone place =
          let (more, is) = lines_upto e size image (k - 1) counts.blocks upto in (
            k,
            place.0,
            place.1,
            more ++ take part.0 text,
            subst (Appends a c) (ap (λ (l : List ℕ). l ++ take part.0 text) is ∙ append_assoc (lines_below e size image (k - 1)) more (take part.0 text))
                (Appends-trans a b c (lines_below e size image counts.blocks) (take part.0 text) gone part.1),
          )

  -- the sink failed at the lines of a block
  pub block_left : (c : Option (List ℕ)) (n m : ℕ) (block text : List ℕ) (r : Result ℕ ProgramFault) → IsErrAnd r (λ x. x ≡ program.Output)
      → Streaming e source size start counts old a b n m → GivesBlock old new block → PutsPart b c text
      → IfSome (o.rest source) (λ image. ReadsTo e size image a c (rest_of new) r)
  block_left c n m block text r is before gives part =
      sink_left c n m (counts.blocks + 1) text r is before part (omega arith) (known (o.rest source) before.scanning.known)
    where
      known : (known_bytes : Option (List ℕ)) → IfSome known_bytes (λ image. IsCounted e size start counts image (rest_of old))
          → IfSome known_bytes (λ image. (counts.blocks + 1 ≤ block_count size image) × (rest_of new ≡ Some (drop ((counts.blocks + 1) * size) image)))
      known None so_far = tt
      known (Some image) so_far =
          let some : 0 < size = omega (arith, readable_some size before.scanning.readable) in
          let next = next_of e source size start counts old new block before.scanning gives in
          let at = at_next size start image (rest_of old) (rest_of new) block so_far.place next in
          let here : (counts.blocks + 1) * size ≡ start + size = omega (arith, one_more counts.blocks size, before.scanning.blocks) in (
            upto_count size (start + size) (counts.blocks + 1) image (rest_of new) some here at,
            at.left ∙ ap (λ (k : ℕ). Some (drop k image)) (sym here),
          )

  -- or at the last line
  pub total_left : (c : Option (List ℕ)) (n m : ℕ) (text : List ℕ) (r : Result ℕ ProgramFault) → IsErrAnd r (λ x. x ≡ program.Output)
      → Streaming e source size start counts old a b n m → GivesNone old new → PutsPart b c text
      → IfSome (o.rest source) (λ image. ReadsTo e size image a c (rest_of new) r)
  total_left c n m text r is before gives part =
      sink_left c n m counts.blocks text r is before part (omega arith) (known (o.rest source) before.scanning.known)
    where
      known : (known_bytes : Option (List ℕ)) → IfSome known_bytes (λ image. IsCounted e size start counts image (rest_of old))
          → IfSome known_bytes (λ image. (counts.blocks ≤ block_count size image) × (rest_of new ≡ Some (drop (counts.blocks * size) image)))
      known None so_far = tt
      known (Some image) so_far =
          let some : 0 < size = omega (arith, readable_some size before.scanning.readable) in (
            upto_count size start counts.blocks image (rest_of old) some before.scanning.blocks so_far.place,
            still_some (rest_of old) (rest_of new) (drop (counts.blocks * size) image) gives.kept
                (so_far.place.left ∙ ap (λ (k : ℕ). Some (drop k image)) (sym before.scanning.blocks)),
          )

-- ---- the source is handed back

-- it did not fail, and the sink did
pub sink_blamed : (before now : ℕ) (r : Result ℕ ProgramFault) → IsErrAnd r (λ x. x ≡ program.Output) → now ≡ before → HandsBack before (Some now) r
sink_blamed before now (Ok x) is same = absurd is
sink_blamed before now (Err x) is same = subst (λ (y : ProgramFault). HandsBack before (Some now) (Err y)) (sym is) same

-- it is gone
pub unread_back : (before : ℕ) (f : StreamFault) (x : ProgramFault) → x ≡ fault_of_stream f → f ≢ stream.Device → f ≢ stream.TooLarge → HandsBack before None (Err x)
unread_back before f x is no_device no_limit = subst (λ (y : ProgramFault). HandsBack before None (Err y)) (sym is) (by f no_device no_limit)
  where
    by : (g : StreamFault) → g ≢ stream.Device → g ≢ stream.TooLarge → HandsBack before None (Err (fault_of_stream g))
    by stream.BlockSize no_device no_limit = tt
    by stream.OutOfMemory no_device no_limit = tt
    by stream.Device no_device no_limit = absurd (no_device refl)
    by stream.TooLarge no_device no_limit = absurd (no_limit refl)

-- what was read is not refused unread
pub read_not_refused : (before now : ℕ) (r : Result ℕ ProgramFault) → HandsBack before (Some now) r → IsErrOf r (program.Scan scan.BlockSize) → ⊥
read_not_refused before now r back is = subst (HandsBack before (Some now)) is back

pub read_not_wanting : (before now : ℕ) (r : Result ℕ ProgramFault) → HandsBack before (Some now) r → IsErrOf r (program.Load load.OutOfMemory) → ⊥
read_not_wanting before now r back is = subst (HandsBack before (Some now)) is back

-- nothing was read
pub unread_failed : (e : Endian) (size : ℕ) (a : Option (List ℕ)) (n : ℕ) (known_bytes : Option (List ℕ)) (f : StreamFault) (r : Result ℕ ProgramFault)
    → IsErrAnd r (λ x. x ≡ fault_of_stream f) → f ≢ stream.Device → f ≢ stream.TooLarge
    → OfSomeImage known_bytes (λ image. PutsStream e size image (sink_change a a n n) r)
unread_failed e size a n known_bytes f (Ok x) is no_device no_limit = absurd is
unread_failed e size a n known_bytes f (Err x) is no_device no_limit =
    of_unread known_bytes (λ image. subst (λ (y : ProgramFault). PutsStream e size image (sink_change a a n n) (Err y)) (sym is) (by image f no_device no_limit))
  where
    by : (image : List ℕ) (g : StreamFault) → g ≢ stream.Device → g ≢ stream.TooLarge → PutsStream e size image (sink_change a a n n) (Err (fault_of_stream g))
    by image stream.BlockSize no_device no_limit = (refl, refl)
    by image stream.OutOfMemory no_device no_limit = (refl, refl)
    by image stream.Device no_device no_limit = absurd (no_device refl)
    by image stream.TooLarge no_device no_limit = absurd (no_limit refl)

-- no byte past the greatest image was read
pub ended_within : (e : Endian) (size : ℕ) (counts : Counts) (a b : Option (List ℕ)) (known_bytes : Option (List ℕ)) → IfSome known_bytes (Ended e size counts a b)
    → IfSome known_bytes (λ image. length image ≤ greatest_image)
ended_within e size counts a b None ended = tt
ended_within e size counts a b (Some image) ended = ended.within

-- the fault that a stream's one is
pub is_limit : {T : Type 0} (r : Result T ProgramFault) (f : StreamFault) → IsErrAnd r (λ e. e ≡ fault_of_stream f) → IsErrOf r (program.Load load.TooLarge)
    → f ≡ stream.TooLarge
is_limit (Ok x) f is limit = absurd is
is_limit (Err e) stream.TooLarge is limit = refl
is_limit (Err e) stream.Device is limit = cc
is_limit (Err e) stream.BlockSize is limit = cc
is_limit (Err e) stream.OutOfMemory is limit = cc
