-- What is put of a file that is read as a stream, and how that ends.
use Rattle.std.proofs.Common.{◌≡◌, ◌∙◌, ◌++◌, ◌+◌, ◌-◌, ◌*◌, ◌/◌, ◌<◌, ◌≤◌, ◌↔◌, ℕ, List, [], ◌∷◌, Option, None, Some, IfSome, IsTrue, IsFalse, Ok, Err, ap, append-nil, arith, drop, length, length-append, length-take, min, refl, subst, sym, take}
use Rattle.std.specs.Prelude.{IsErrOf, IsSome, Result, string_bytes}
use Rattle.std.specs.Io.KnownBytes.{Appends, IsAtEnd}
use Rattle.std.proofs.Math.Nat.{div-mul-le_self, mul-le-mul_right}
use Rattle.std.proofs.lemmas.Bool.{true≢false}
use Rattle.std.proofs.lemmas.List.{drop-drop, length-replicate, take-append-drop}
use Rattle.flashbase.specs.Bytes.{erased}
use Rattle.flashbase.specs.Device.{next_count}
use Rattle.flashbase.specs.Sinks.{SinkChange}
use Rattle.flashbase.specs.declared.source.LoadFault.TheVariants as load
use Rattle.jnode.specs.declared.order.Endian.{Endian}
use Rattle.jscan.specs.Filling.{StopsPast}
use Rattle.jscan.specs.Image.{block_count, greatest_image, is_block_size}
use Rattle.jscan.specs.declared.geometry.ScanFault.TheVariants as scan
use Rattle.jscan.proofs.StreamCounts.{readable_some}
use Rattle.jreport.specs.Report.{lines_below, scan_text}
use Rattle.jreport.specs.Stream.{BreaksOff, HandsBack, OfSomeImage, PutsStream, ReadsTo, StopsBehind}
use Rattle.jreport.specs.declared.faults.ProgramFault.{ProgramFault}
use Rattle.jreport.specs.declared.faults.ProgramFault.TheVariants as program
use Rattle.jreport.proofs.BlockLemmas.{one_more}
use Rattle.jedge.specs.Acts.{DoesFrom, PutsBy}
use Rattle.jedge.specs.Calls.{Event, Failed, ReadPart}
use Rattle.jedge.specs.Showing.{IsFrontOf}
use Rattle.jedge.specs.Told.{Told}
use Rattle.jedge.specs.declared.fault.FailedFile.{FailedFile}
use Rattle.jedge.specs.declared.fault.Fault.{Fault}
use Rattle.jedge.specs.declared.fault.Fault.TheVariants as fault
use Rattle.jedge.proofs.CostLemmas.{none_put}
use Rattle.jedge.proofs.Steps.{History, nothing_done}
use Rattle.jreads.specs.Scanning.{AreLinesBefore, IsReadUpTo, NotBegun, ReportsUpTo, UpTo, UpToFailure, closes_stream, found_scanned, read_up_to, scan_closed, scan_found}
use Rattle.jreads.specs.Streaming.{PutsScan}
use Rattle.jreads.proofs.ScanTextLemmas.{CutText, count_part, cut_text, first_blocks, lines_erased, lines_part, no_blocks, part_length}

-- ---- the file is closed

-- it did not fail
pub closed_well : (name : List ℕ) (failures : ℕ) (read left : List ℕ) (events : List Event) (closed : Result Unit Fault) → failures ≡ 0
    → closes_stream name failures read left events closed → (closed ≡ Ok tt) × (events ≡ read_up_to name read left)
closed_well name failures read left events (Ok _) none is = (refl, is.1)
closed_well name failures read left events (Err (fault.File file)) none is = absurd is
closed_well name failures read left events (Err (fault.NotRead file)) none is = absurd (is.0 none)
closed_well name failures read left events (Err (fault.NoNodes of others)) none is = absurd is
closed_well name failures read left events (Err (fault.NoSpace folder)) none is = absurd is
closed_well name failures read left events (Err (fault.Findings of findings)) none is = absurd is
closed_well name failures read left events (Err (fault.Refused why)) none is = absurd is
closed_well name failures read left events (Err fault.Output) none is = absurd is
closed_well name failures read left events (Err fault.OutOfMemory) none is = absurd is

-- it failed
pub record ClosedBadly (name read : List ℕ) (events : List Event) (closed : Result Unit Fault) : Type 0 where
  pub file : FailedFile
  pub is : closed ≡ Err (fault.NotRead file)
  pub named : string_bytes file.name ≡ name
  pub happened : events ≡ Failed (ReadPart name read) file.reason ∷ []

one_failed : {n : ℕ} → n ≡ next_count 0 → n ≡ 0 → ⊥
one_failed one none = let no : 0 ≡ 1 = sym none ∙ one in omega (arith, no)

pub closed_badly : (name : List ℕ) (failures : ℕ) (read left : List ℕ) (events : List Event) (closed : Result Unit Fault) → failures ≡ next_count 0
    → closes_stream name failures read left events closed → ClosedBadly name read events closed
closed_badly name failures read left events (Ok _) one is = absurd (one_failed one is.0)
closed_badly name failures read left events (Err (fault.File file)) one is = absurd is
closed_badly name failures read left events (Err (fault.NotRead file)) one is = record {
  file = file;
  is = refl;
  named = is.1;
  happened = is.2;
}
closed_badly name failures read left events (Err (fault.NoNodes of others)) one is = absurd is
closed_badly name failures read left events (Err (fault.NoSpace folder)) one is = absurd is
closed_badly name failures read left events (Err (fault.Findings of findings)) one is = absurd is
closed_badly name failures read left events (Err (fault.Refused why)) one is = absurd is
closed_badly name failures read left events (Err fault.Output) one is = absurd is
closed_badly name failures read left events (Err fault.OutOfMemory) one is = absurd is

-- ---- how far it was read

-- Those bytes were read and these are left, of a file whose bytes may be told.
abbrev pub AreParts : Option (List ℕ) → Option (List ℕ) → List ℕ → List ℕ → Type 0
AreParts known rest read left = IfSome known (λ image. (image ≡ read ++ left) × IfSome rest (λ bytes. bytes ≡ left))

pub parts_told : (h : History) (known rest : Option (List ℕ)) (read left : List ℕ) → IfSome h (λ _. IsSome known) → AreParts known rest read left
    → IsReadUpTo h known rest read left
parts_told None known rest read left told are = tt
parts_told (Some events) None rest read left told are = absurd (true≢false (sym told))
parts_told (Some events) (Some image) rest read left told are = (ap (λ (l : List ℕ). Some l) are.0, are.1)

is_left : (rest : Option (List ℕ)) (left : List ℕ) → rest ≡ Some left → IfSome rest (λ bytes. bytes ≡ left)
is_left None left is = tt
is_left (Some bytes) left is = cc

at_end : (rest : Option (List ℕ)) → IsAtEnd rest → IfSome rest (λ bytes. bytes ≡ [])
at_end None is = tt
at_end (Some bytes) is = is

-- a file that did not fail
pub record ReadOn (e : Endian) (size : ℕ) (known rest : Option (List ℕ)) (s : SinkChange) (answer : Result Told Fault) : Type 0 where
  pub read : List ℕ
  pub left : List ℕ
  pub are : AreParts known rest read left
  pub puts : PutsBy (ReportsUpTo e size read left) s answer

-- one that failed
pub record BrokeOff (e : Endian) (size : ℕ) (known rest : Option (List ℕ)) (s : SinkChange) : Type 0 where
  pub read : List ℕ
  pub left : List ℕ
  pub text : List ℕ
  pub are : AreParts known rest read left
  pub lines : AreLinesBefore e size read text
  pub put : Appends s.old s.new text
  pub counts : s.now ≡ s.before

-- ---- each answer

-- an image that fits what a source tells
abbrev pub Fits : Option (List ℕ) → List ℕ → Type 0
Fits known image = IfSome known (λ bytes. image ≡ bytes)

-- it was read to its end
all_parts : (known rest : Option (List ℕ)) (image : List ℕ) → Fits known image → IfSome known (λ bytes. IsAtEnd rest) → AreParts known rest image []
all_parts None rest image fits end = tt
all_parts (Some bytes) rest image fits end = (sym fits ∙ sym (append-nil image), at_end rest end)

pub all_read : (e : Endian) (size n : ℕ) (known rest : Option (List ℕ)) (s : SinkChange) (image : List ℕ) → Fits known image → PutsStream e size image s (Ok n)
    → IfSome known (λ bytes. IsAtEnd rest) → ReadOn e size known rest s (scan_found (Ok n))
all_read e size n known rest s image fits put end = record {
  read = image;
  left = [];
  are = all_parts known rest image fits end;
  puts = record {
    text = scan_text e size image;
    says = (refl, refl, ap found_scanned put.0);
    put = put.1;
    counts = put.2;
  };
}

-- the sink failed
pub cut_short : (e : Endian) (size : ℕ) (known rest : Option (List ℕ)) (s : SinkChange) (image : List ℕ) → 0 < size → Fits known image
    → PutsStream e size image s (Err program.Output) → IfSome known (StopsBehind e size s.old s.new rest) → ReadOn e size known rest s (scan_found (Err program.Output))
cut_short e size None rest s image some fits put behind =
    let text : List ℕ = take put.0.0 (scan_text e size image) in
    let none : lines_below e size [] (block_count size [] - 1) ≡ [] = ap (λ (k : ℕ). lines_below e size [] (k - 1)) (no_blocks size some) in record {
      read = [];
      left = image;
      are = tt;
      puts = record {
        text = text;
        says = ((put.0.0, refl), (text, ap (λ (l : List ℕ). l ++ text) (sym none)));
        put = put.0.1;
        counts = put.1;
      };
    }
cut_short e size (Some known) rest s image some fits put behind =
    let blocks : ℕ = behind.0 in
    let read : List ℕ = take (blocks * size) known in
    let left : List ℕ = drop (blocks * size) known in
    let is : read ++ left ≡ known = take-append-drop (blocks * size) known in
    let cut : CutText e size blocks known s.old s.new =
    cut_text e size blocks known s.old s.new put.0.0 behind.3 behind.1 (subst (λ (l : List ℕ). Appends s.old s.new (take put.0.0 (scan_text e size l))) fits put.0.1) behind.4 in
    let before : lines_below e size read (block_count size read - 1) ≡ lines_below e size known (blocks - 1) =
    ap (λ (k : ℕ). lines_below e size read (k - 1)) (first_blocks size blocks known some behind.1)
    ∙ lines_part e size (blocks * size) (blocks - 1) known (mul-le-mul_right {m = blocks - 1} {n = blocks} size (omega arith)) in
    let front : IsFrontOf (scan_text e size (read ++ left)) cut.text = subst (λ (l : List ℕ). IsFrontOf (scan_text e size l) cut.text) (sym is) cut.front in record {
      read = read;
      left = left;
      are = (sym is, is_left rest left behind.2);
      puts = record {
        text = cut.text;
        says = (front, (cut.lines.0, cut.lines.1 ∙ ap (λ (l : List ℕ). l ++ cut.lines.0) (sym before)));
        put = cut.put;
        counts = put.1;
      };
    }

-- it is longer than the greatest image
pub too_long : (e : Endian) (size : ℕ) (known rest : Option (List ℕ)) (s : SinkChange) (image : List ℕ) → Fits known image
    → PutsStream e size image s (Err (program.Load load.TooLarge))
    → IfSome known (λ bytes. StopsPast (Some bytes) rest greatest_image (greatest_image + size))
    → IfSome known (λ bytes. greatest_image < length bytes)
    → IfSome known (λ bytes. Appends s.old s.new (lines_below e size bytes (greatest_image / size)))
    → ReadOn e size known rest s (scan_found (Err (program.Load load.TooLarge)))
too_long e size None rest s image fits put past long gone =
    let more : ℕ = put.0 * size + (greatest_image + 1) in
    let read : List ℕ = image ++ erased more in
    let count : length read ≡ length image + more = length-append image (erased more) ∙ ap (λ (k : ℕ). length image + k) (length-replicate {A = ℕ} more 0xFF) in record {
      read = read;
      left = [];
      are = tt;
      puts = record {
        text = lines_below e size read put.0;
        says = (refl, omega (arith, count), (put.0, omega (arith, count), refl));
        put = subst (λ (l : List ℕ). Appends s.old s.new l) (sym (lines_erased e size more put.0 image)) put.2;
        counts = put.3;
      };
    }
too_long e size (Some known) rest s image fits put past long gone =
    let m : ℕ = past.0 in
    let read : List ℕ = take m known in
    let n : ℕ = greatest_image / size in
    let whole : n * size ≤ greatest_image = div-mul-le_self greatest_image size in
    let count : length read ≡ min m (length known) = length-take m known in record {
      read = read;
      left = drop m known;
      are = (sym (take-append-drop m known), is_left rest (drop m known) past.3);
      puts = record {
        text = lines_below e size read n;
        says = (refl, omega (arith, count, past.1, long), (n, omega (arith, count, past.1, long, whole), refl));
        put = subst (λ (l : List ℕ). Appends s.old s.new l) (sym (lines_part e size m n known (omega (arith, whole, past.1)))) gone;
        counts = put.3;
      };
    }

-- it failed
pub broke_off : (e : Endian) (size : ℕ) (known rest : Option (List ℕ)) (s : SinkChange) (image : List ℕ) → 0 < size → Fits known image
    → PutsStream e size image s (Err (program.Load load.Device)) → IfSome known (BreaksOff e size s.old s.new rest) → BrokeOff e size known rest s
broke_off e size None rest s image some fits put off =
    let n : ℕ = put.0 in
    let m : ℕ = n * size in
    let read : List ℕ = take m image in record {
      read = read;
      left = [];
      text = lines_below e size read n;
      are = tt;
      lines = (n, count_part size m n image some put.1 (omega arith), omega (arith, part_length m image, one_more n size, some), refl);
      put = subst (λ (l : List ℕ). Appends s.old s.new l) (sym (lines_part e size m n image (omega arith))) put.2;
      counts = put.3;
    }
broke_off e size (Some known) rest s image some fits put off =
    let n : ℕ = off.0 in
    let j : ℕ = off.2.0 in
    let m : ℕ = n * size + j in
    let read : List ℕ = take m known in
    let left : List ℕ = drop m known in record {
      read = read;
      left = left;
      text = lines_below e size read n;
      are = (sym (take-append-drop m known), is_left rest left (off.2.2 ∙ ap (λ (l : List ℕ). Some l) (drop-drop j (n * size) known)));
      lines = (n, count_part size m n known some off.1 (omega arith), omega (arith, part_length m known, one_more n size, off.2.1), refl);
      put = subst (λ (l : List ℕ). Appends s.old s.new l) (sym (lines_part e size m n known (omega arith))) off.3;
      counts = put.3;
    }

-- ---- both

-- a file was read, which did not fail
pub did_well : (e : Endian) (size : ℕ) (name : List ℕ) {h new : History} (known rest : Option (List ℕ)) (failed : ℕ) (s : SinkChange) (put : Result ℕ ProgramFault) (closed : Result Unit Fault)
    → IfSome h (λ _. IsSome known) → failed ≡ 0 → ReadOn e size known rest s (scan_found put)
    → ((read left : List ℕ) → IsReadUpTo h known rest read left → DoesFrom h new (closes_stream name failed read left) closed)
    → PutsScan e size name h new s (scan_closed put closed)
did_well e size name {h} {new} known rest failed s put closed told none on ends =
    let done = ends on.read on.left (parts_told h known rest on.read on.left told on.are) in
    let well = closed_well name failed on.read on.left done.events closed none done.acts in
    subst (λ (c : Result Unit Fault). PutsScan e size name h new s (scan_closed put c)) (sym well.0) (record {
      progress = UpTo on.read on.left;
      reads = record { events = done.events; acts = (UpTo on.read on.left, refl, well.1); told = done.told };
      puts = record {
        text = on.puts.text;
        says = on.puts.says;
        put = on.puts.put;
        counts = on.puts.counts;
      };
    })

-- it failed
pub did_badly : (e : Endian) (size : ℕ) (name : List ℕ) {h new : History} (known rest : Option (List ℕ)) (failed : ℕ) (s : SinkChange) (put : Result ℕ ProgramFault) (closed : Result Unit Fault)
    → IfSome h (λ _. IsSome known) → failed ≡ next_count 0 → BrokeOff e size known rest s
    → ((read left : List ℕ) → IsReadUpTo h known rest read left → DoesFrom h new (closes_stream name failed read left) closed)
    → PutsScan e size name h new s (scan_closed put closed)
did_badly e size name {h} {new} known rest failed s put closed told one off ends =
    let done = ends off.read off.left (parts_told h known rest off.read off.left told off.are) in
    let bad = closed_badly name failed off.read off.left done.events closed one done.acts in
    subst (λ (c : Result Unit Fault). PutsScan e size name h new s (scan_closed put c)) (sym bad.is) (record {
      progress = UpToFailure off.read bad.file;
      reads = record {
        events = done.events;
        acts = (UpToFailure off.read bad.file, refl, (bad.named, bad.happened));
        told = done.told;
      };
      puts = record {
        text = off.text;
        says = (off.lines, refl);
        put = off.put;
        counts = off.counts;
      };
    })

-- What a call says that read a file by a source, which tells these bytes of it and failed so often.
pub record Streams (e : Endian) (size : ℕ) (known rest : Option (List ℕ)) (failed : ℕ) (s : SinkChange) (answer : Result ℕ ProgramFault) : Type 0 where
  pub image : List ℕ
  pub fits : Fits known image
  pub put : PutsStream e size image s answer
  pub back : HandsBack 0 (Some failed) answer
  pub to : IfSome known (λ bytes. ReadsTo e size bytes s.old s.new rest answer)
  pub too_large : IsErrOf answer (program.Load load.TooLarge) → IfSome known (λ bytes. greatest_image < length bytes)
  pub before_limit : IsErrOf answer (program.Load load.TooLarge) → IfSome known (λ bytes. Appends s.old s.new (lines_below e size bytes (greatest_image / size)))

pub streamed : (e : Endian) (size : ℕ) (name : List ℕ) {h new : History} (known rest : Option (List ℕ)) (failed : ℕ) (s : SinkChange) (put : Result ℕ ProgramFault) (closed : Result Unit Fault)
    → 0 < size → IfSome h (λ _. IsSome known) → Streams e size known rest failed s put
    → ((read left : List ℕ) → IsReadUpTo h known rest read left → DoesFrom h new (closes_stream name failed read left) closed)
    → PutsScan e size name h new s (scan_closed put closed)
streamed e size name known rest failed s (Ok n) closed some told is ends =
    did_well e size name known rest failed s (Ok n) closed told is.back (all_read e size n known rest s is.image is.fits is.put is.to) ends
streamed e size name known rest failed s (Err program.Output) closed some told is ends =
    did_well e size name known rest failed s (Err program.Output) closed told is.back (cut_short e size known rest s is.image some is.fits is.put is.to) ends
streamed e size name known rest failed s (Err (program.Load load.TooLarge)) closed some told is ends =
    did_well e size name known rest failed s (Err (program.Load load.TooLarge)) closed told is.back
    (too_long e size known rest s is.image is.fits is.put is.to (is.too_large refl) (is.before_limit refl)) ends
streamed e size name known rest failed s (Err (program.Load load.Device)) closed some told is ends =
    did_badly e size name known rest failed s (Err (program.Load load.Device)) closed told is.back
    (broke_off e size known rest s is.image some is.fits is.put is.to) ends
streamed e size name known rest failed s (Err (program.Load load.OutOfMemory)) closed some told is ends = absurd is.back
streamed e size name known rest failed s (Err (program.Scan scan.BlockSize)) closed some told is ends = absurd is.back
streamed e size name known rest failed s (Err (program.Scan scan.TooLarge)) closed some told is ends = absurd is.put
streamed e size name known rest failed s (Err (program.Scan (scan.Incompatible addr nodetype))) closed some told is ends = absurd is.put
streamed e size name known rest failed s (Err (program.Scan (scan.Compressed addr compr))) closed some told is ends = absurd is.put
streamed e size name known rest failed s (Err (program.Scan scan.OutOfMemory)) closed some told is ends = absurd is.put
streamed e size name known rest failed s (Err why) closed some told is ends = absurd is.put

-- ---- no source is left

-- there is no memory for a block
pub unread : (e : Endian) (size : ℕ) (name : List ℕ) {h : History} (s : SinkChange) (image : List ℕ) (put : Result ℕ ProgramFault)
    → IsTrue (is_block_size size) → (IsErrOf put (program.Scan scan.BlockSize) ↔ IsFalse (is_block_size size)) → PutsStream e size image s put → HandsBack 0 None put
    → PutsScan e size name h h s (scan_closed put (Ok tt))
unread e size name s image (Ok n) sized judged put back = absurd back
unread e size name s image (Err (program.Scan scan.BlockSize)) sized judged put back = absurd (true≢false (sym sized ∙ judged.0 refl))
unread e size name s image (Err (program.Load load.OutOfMemory)) sized judged put back = record {
  progress = NotBegun;
  reads = nothing_done refl (NotBegun, refl, refl);
  puts = record {
    text = [];
    says = (refl, refl);
    put = none_put s.old s.new put.0;
    counts = put.1;
  };
}
unread e size name s image (Err (program.Load load.Device)) sized judged put back = absurd back
unread e size name s image (Err (program.Load load.TooLarge)) sized judged put back = absurd back
unread e size name s image (Err (program.Scan scan.TooLarge)) sized judged put back = absurd back
unread e size name s image (Err (program.Scan (scan.Incompatible addr nodetype))) sized judged put back = absurd back
unread e size name s image (Err (program.Scan (scan.Compressed addr compr))) sized judged put back = absurd back
unread e size name s image (Err (program.Scan scan.OutOfMemory)) sized judged put back = absurd back
unread e size name s image (Err program.Output) sized judged put back = absurd back
unread e size name s image (Err why) sized judged put back = absurd back

-- ---- as a host lends the file

-- What is left of its source is handed back to the host, which closes the file.
pub scanned : (e : Endian) (size : ℕ) (name lent : List ℕ) {old h new : History} (known whole rest : Option (List ℕ)) (first failed : ℕ) (s : SinkChange)
    (put : Result ℕ ProgramFault) (closed : Result Unit Fault) (answer : Result Told Fault)
    → IsTrue (is_block_size size) → h ≡ old → lent ≡ name → first ≡ 0 → known ≡ whole → IfSome old (λ _. IsSome whole)
    → OfSomeImage known (λ image. PutsStream e size image s put) → HandsBack first (Some failed) put → IfSome known (λ bytes. ReadsTo e size bytes s.old s.new rest put)
    → (IsErrOf put (program.Load load.TooLarge) → IfSome known (λ bytes. greatest_image < length bytes))
    → (IsErrOf put (program.Load load.TooLarge) → IfSome known (λ bytes. Appends s.old s.new (lines_below e size bytes (greatest_image / size))))
    → ((read left : List ℕ) → IsReadUpTo h whole rest read left → DoesFrom h new (closes_stream lent failed read left) closed)
    → answer ≡ scan_closed put closed → PutsScan e size name old new s answer
scanned e size name lent {old} {h} {new} known whole rest first failed s put closed answer sized same named none is told puts back to too_large before_limit ends comes =
    let ends_here : (read left : List ℕ) → IsReadUpTo old known rest read left → DoesFrom old new (closes_stream name failed read left) closed =
    subst (λ (k : History). (read left : List ℕ) → IsReadUpTo k known rest read left → DoesFrom k new (closes_stream name failed read left) closed) same
    (subst (λ (k : Option (List ℕ)). (read left : List ℕ) → IsReadUpTo h k rest read left → DoesFrom h new (closes_stream name failed read left) closed) (sym is)
    (subst (λ (n : List ℕ). (read left : List ℕ) → IsReadUpTo h whole rest read left → DoesFrom h new (closes_stream n failed read left) closed) named ends)) in
    subst (λ (r : Result Told Fault). PutsScan e size name old new s r) (sym comes)
    (streamed e size name known rest failed s put closed (omega (arith, readable_some size sized))
    (subst (λ (k : Option (List ℕ)). IfSome old (λ _. IsSome k)) (sym is) told) (record {
      image = puts.0;
      fits = puts.1;
      put = puts.2;
      back = subst (λ (n : ℕ). HandsBack n (Some failed) put) none back;
      to = to;
      too_large = too_large;
      before_limit = before_limit;
    }) ends_here)

-- No source is handed back.
pub unscanned : (e : Endian) (size : ℕ) (name : List ℕ) {old h : History} (known : Option (List ℕ)) (first : ℕ) (s : SinkChange)
    (put : Result ℕ ProgramFault) (answer : Result Told Fault)
    → IsTrue (is_block_size size) → h ≡ old → first ≡ 0 → OfSomeImage known (λ image. PutsStream e size image s put)
    → (IsErrOf put (program.Scan scan.BlockSize) ↔ IsFalse (is_block_size size)) → HandsBack first None put → answer ≡ scan_found put → PutsScan e size name old h s answer
unscanned e size name {old} {h} known first s put answer sized same none puts judged back comes =
    subst (λ (k : History). PutsScan e size name k h s answer) same
    (subst (λ (r : Result Told Fault). PutsScan e size name h h s r) (sym comes)
    (unread e size name s puts.0 put sized judged puts.2 (subst (λ (n : ℕ). HandsBack n None put) none back)))
