-- What a session in all openings of an image did, and the image with it.
use Rattle.std.proofs.Common.{◌≡◌, ◌∙◌, ℕ, ◌+◌, ◌*◌, ◌≤◌, Bool, List, [], length, take, ap, ap₂, refl, sym, subst, arith, append-nil, Option, None, Some, Result, Ok, Err, inl}
use Rattle.std.specs.Prelude.{IfErr, IfOk, IsFalse, IsTrue, IsOk, ◌≢◌, ◌&&◌, nat_le, nat_lt}
use Rattle.std.specs.Io.KnownBytes.{Appends}
use Rattle.std.proofs.KnownBytes.{Appends-trans}
use Rattle.std.proofs.lemmas.Bool.{and_parts, leb-true}
use Rattle.std.proofs.lemmas.List.{take_all}
use Rattle.flashbase.specs.Sinks.{SinkChange}
use Rattle.flashbase.specs.Ranges.{AreBytes}
use Rattle.jnode.specs.declared.order.Endian.{Endian}
use Rattle.jscan.specs.Image.{is_block_size, greatest_image}
use Rattle.jscan.specs.Pages.{page_size}
use Rattle.jscan.specs.declared.page.Page.{Page}
use Rattle.jexpand.specs.Expanded.{unpacked_bytes}
use Rattle.jmount.specs.Mount.{Mount}
use Rattle.jsteps.specs.Nodes.{Indexed, advanced_all}
use Rattle.jsteps.specs.declared.op.Op.{Op}
use Rattle.jsteps.proofs.FewLemmas.{sizes_are_pages}
use Rattle.jthrough.specs.MountsThrough.{AnswersThrough}
use Rattle.jthrough.specs.declared.fault.ViewFault.TheVariants as view
use Rattle.jlog.specs.DoneThrough.{steps_through}
use Rattle.jlog.specs.HeadlineThrough.{index_through}
use Rattle.jlog.specs.Resuming.{resumes}
use Rattle.jlog.specs.Session.{Flash as LogFlash}
use Rattle.jlog.specs.SessionAs.{FlashAs, flash_as}
use Rattle.jlog.specs.View.{written_flash}
use Rattle.jlog.specs.declared.fault.SessionFault.{SessionFault}
use Rattle.jlog.specs.declared.fault.SessionFault.TheVariants as fault
use Rattle.jlog.specs.declared.report.Place.{Place}
use Rattle.jlog.specs.declared.start.Flash.{Flash}
use Rattle.jlog.proofs.Parts.{flash_by}
use Rattle.jlog.proofs.ResumeLemmas.{resumed_paged, resumed_at, holds_parts}
use Rattle.jrests.specs.Left.{all_bytes}
use Rattle.jrests.specs.Openings.{AreOpeningsOf}
use Rattle.jrests.specs.Shares.{Share, shares}
use Rattle.jrests.specs.declared.opening.Opening.{Opening}
use Rattle.jrests.proofs.OpeningLemmas.{openings_are_openings}
use Rattle.jopenings.specs.After.{output_to_all}
use Rattle.jopenings.specs.Done.{GoesOnInOpenings}
use Rattle.jopenings.specs.Placed.{PlacedSurvives}
use Rattle.jopenings.specs.Stretches.{image_with, stretches_of}
use Rattle.jopenings.specs.declared.placing.Stretch.{Stretch}
use Rattle.jopenings.proofs.AfterLemmas.{bytes_are_counted}
use Rattle.jopenings.proofs.PlacedLemmas.{forms_survive_placed}
use Rattle.jupdate.specs.SessionIn.{StateIn, RunsIn}
use Rattle.jupdate.specs.Writing.{log_in}
use Rattle.jcalls.specs.Appending.{stop_in, stop_told}
use Rattle.jcalls.specs.Shown.{IsDueFault}
use Rattle.jcalls.specs.Told.{told_at, told_number}
use Rattle.jcalls.specs.Updating.{DeviceRefused, IsGoneOnThrough, IsUpdatedOn, begun_on, flash_packed, openings_on, device_steps, updated_image}
use Rattle.jcalls.specs.Works.{line_number_at, sink_with}
use Rattle.jcalls.specs.declared.appending.Written.{Written}
use Rattle.jcalls.specs.declared.told.Told.{Told}
use Rattle.jcalls.proofs.WritingLemmas.{sink_is, taken_from_none}

-- ---- where it begins

-- the flash that a session sees is the one that was given
pub flash_same : (e : Endian) (size blocks : ℕ) (page : Page) (flash : Flash) → size ≡ flash.geometry.block → blocks ≡ flash.blocks → page ≡ flash.page
    → flash_by (page_size page) e size blocks ≡ written_flash e flash
flash_same e size blocks page flash size_is blocks_is page_is = λ i. record { order = e; size = size_is i; blocks = blocks_is i; page = page_size (page_is i) }

pub packed_same : (packs : Bool) (held : ℕ) (e : Endian) (size blocks : ℕ) (page : Page) (flash : Flash) (image : List ℕ) → size ≡ flash.geometry.block → blocks ≡ flash.blocks → page ≡ flash.page
    → held ≡ length (unpacked_bytes e flash.geometry.block image) → flash_as packs held (flash_by (page_size page) e size blocks) ≡ flash_packed e flash packs image
packed_same packs held e size blocks page flash image size_is blocks_is page_is held_is =
    λ i. record { packs = packs; held = held_is i; flash = record { order = e; size = size_is i; blocks = blocks_is i; page = page_size (page_is i) } }

abbrev pub session_state : List Opening → Indexed → List Place → Bool → StateIn
session_state left index places broken = record { log = log_in left index places; broken = broken }

pub begun_same : (left : List Opening) (index : Indexed) (broken : Bool) (e : Endian) (flash : Flash) (image : List ℕ) → left ≡ openings_on e flash image → index ≡ index_through e flash.geometry.block image → IsFalse broken
    → session_state left index [] broken ≡ begun_on e flash image
begun_same left index broken e flash image left_is index_is whole = λ i. record { log = log_in (left_is i) (index_is i) []; broken = whole i }

-- nothing was done yet
pub index_same : (page : ℕ) (e : Endian) (size size' : ℕ) (image : List ℕ) (x : Indexed) → size ≡ size' → x ≡ advanced_all (index_through e size image) (steps_through page e size image [])
    → x ≡ index_through e size' image
index_same page e size size' image x size_is is = is ∙ ap (λ n. index_through e n image) size_is

-- ---- how it ends

-- where memory did not run out no operation was written in part, and the sink did not fail
pub record Ended (to : StateIn) (sink : SinkChange) : Type 0 where
  pub whole : IsFalse to.broken
  pub none_failed : sink.now ≡ sink.before

pub ended : (on : FlashAs) (from : StateIn) (ops : List Op) (n : ℕ) (forms : List (List ℕ)) (to : StateIn) (sink : SinkChange) (stopped : Option SessionFault) (line : ℕ) → IsFalse from.broken
    → (stop_told line stopped).status ≢ 7 → RunsIn on from ops n forms to sink stopped → Ended to sink
ended on from ops n forms to sink None line whole memory runs = record { whole = runs.1 ∙ whole; none_failed = runs.3 }
ended on from ops n forms to sink (Some (fault.Refused why)) line whole memory runs = record { whole = runs.stop.2.whole; none_failed = runs.stop.2.none_failed }
ended on from ops n forms to sink (Some (fault.Full wanted left)) line whole memory runs = record { whole = runs.stop.2.whole; none_failed = runs.stop.2.none_failed }
ended on from ops n forms to sink (Some fault.Sink) line whole memory runs = absurd (memory refl)
ended on from ops n forms to sink (Some fault.OutOfMemory) line whole memory runs = absurd (memory refl)
ended on from ops n forms to sink (Some fault.Broken) line whole memory runs = absurd (memory refl)
ended on from ops n forms to sink (Some fault.ReadOnly) line whole memory runs = absurd runs.stop
ended on from ops n forms to sink (Some fault.Geometry) line whole memory runs = absurd runs.stop

-- just what goes out for the forms went out
after_none : (old mid new : Option (List ℕ)) (bytes : List ℕ) → Appends old mid bytes → Appends mid new [] → Appends old new bytes
after_none old mid new bytes put none = subst (Appends old new) (append-nil bytes) (Appends-trans old mid new bytes [] put none)

pub went_out : (on : FlashAs) (from : StateIn) (ops : List Op) (n : ℕ) (forms : List (List ℕ)) (to : StateIn) (sink : SinkChange) (stopped : Option SessionFault) (line : ℕ)
    → (stop_told line stopped).status ≢ 7 → RunsIn on from ops n forms to sink stopped
    → Appends sink.old sink.new (output_to_all on.flash.order on.flash.size (shares on.flash.size from.log.row forms))
went_out on from ops n forms to sink None line memory runs = runs.2.wrote.bytes
went_out on from ops n forms to sink (Some (fault.Refused why)) line memory runs = after_none sink.old runs.between sink.new _ runs.run.wrote.bytes runs.stop.2.bytes
went_out on from ops n forms to sink (Some (fault.Full wanted left)) line memory runs = after_none sink.old runs.between sink.new _ runs.run.wrote.bytes runs.stop.2.bytes
went_out on from ops n forms to sink (Some fault.Sink) line memory runs = absurd (memory refl)
went_out on from ops n forms to sink (Some fault.OutOfMemory) line memory runs = absurd (memory refl)
went_out on from ops n forms to sink (Some fault.Broken) line memory runs = absurd (memory refl)
went_out on from ops n forms to sink (Some fault.ReadOnly) line memory runs = absurd runs.stop
went_out on from ops n forms to sink (Some fault.Geometry) line memory runs = absurd runs.stop

-- ---- the image

pub image_made : (e : Endian) (flash : Flash) (image : List ℕ) (forms : List (List ℕ)) (stretches : List Stretch) (out made : List ℕ)
    → stretches ≡ stretches_of e flash.geometry.block (shares flash.geometry.block (openings_on e flash image) forms)
    → out ≡ output_to_all e flash.geometry.block (shares flash.geometry.block (openings_on e flash image) forms)
    → made ≡ image_with flash.geometry.block flash.blocks image stretches out → made ≡ updated_image e flash image forms
image_made e flash image forms stretches out made stretches_are out_is is =
    let size : ℕ = flash.geometry.block in
    let row : List Opening = openings_on e flash image in
    let ss : List Share = shares size row forms in
    let all : take (all_bytes e size ss) (output_to_all e size ss) ≡ output_to_all e size ss =
    take_all (all_bytes e size ss) (output_to_all e size ss) (omega (arith, bytes_are_counted e size row forms)) in
    is ∙ ap₂ (image_with size flash.blocks image) stretches_are (out_is ∙ sym all)

-- what was done survives in it
pub survives_placed : (e : Endian) (flash : Flash) (image : List ℕ) (on : LogFlash) (done : List Op) (forms : List (List ℕ)) (left : List Opening) (x : Indexed) → on ≡ written_flash e flash
    → page_size flash.page + 80 ≤ flash.geometry.block → AreBytes image → GoesOnInOpenings on image (openings_on e flash image) done forms left x
    → PlacedSurvives e flash.geometry.block flash.blocks image (openings_on e flash image) (device_steps e flash image done) forms
survives_placed e flash image on done forms left x on_is room bytes given =
    let goes = subst (λ (f : LogFlash). GoesOnInOpenings f image (openings_on e flash image) done forms left x) on_is given in
    forms_survive_placed (page_size flash.page) e flash.geometry.block flash.blocks (length done) image (openings_on e flash image) done forms (sizes_are_pages flash.page) room goes.is_base bytes goes.widths
    goes.openings goes.accepted

-- ---- all of it

pub updated_on : (e : Endian) (flash : Flash) (packs : Bool) (image : List ℕ) (ops : List Op) (numbers : List ℕ) (n : ℕ) (forms : List (List ℕ)) (to : StateIn) (sink : SinkChange) (stopped : Option SessionFault)
    (on : FlashAs) (from : StateIn) (after : LogFlash) (left : List Opening) (x : Indexed) (stretches : List Stretch) (out made : List ℕ) (row : Written)
    → on ≡ flash_packed e flash packs image → from ≡ begun_on e flash image → after ≡ written_flash e flash → sink.old ≡ Some [] → sink.new ≡ Some out → sink.before ≡ 0 → page_size flash.page + 80 ≤ flash.geometry.block
    → AreBytes image → row.accepted ≡ n → stop_in row ≡ stop_told (told_number (line_number_at numbers n)) stopped → row.stop ≢ 7 → RunsIn on from ops n forms to sink stopped
    → (IsFalse to.broken → GoesOnInOpenings after image (openings_on e flash image) (take n ops) forms left x)
    → (IsFalse to.broken → stretches ≡ stretches_of e flash.geometry.block (shares flash.geometry.block (openings_on e flash image) forms))
    → made ≡ image_with flash.geometry.block flash.blocks image stretches out → row.bytes ≡ length made → row.nodes ≡ length to.log.places → row.spare ≡ 0
    → IsUpdatedOn e flash packs image ops numbers made row
updated_on e flash packs image ops numbers n forms to sink stopped on from after left x stretches out made row on_is from_is after_is none some zero room bytes accepted stop memory did goes lie is long nodes spare =
    let line : ℕ = told_number (line_number_at numbers n) in
    let whole_on : FlashAs = flash_packed e flash packs image in
    let begun : StateIn = begun_on e flash image in
    let stays : (stop_told line stopped).status ≢ 7 = λ seven. memory (ap (λ (t : Told). t.status) stop ∙ seven) in
    let runs : RunsIn whole_on begun ops n forms to sink stopped =
    subst (λ (f : StateIn). RunsIn whole_on f ops n forms to sink stopped) from_is (subst (λ (o : FlashAs). RunsIn o from ops n forms to sink stopped) on_is did) in
    let end = ended whole_on begun ops n forms to sink stopped line refl stays runs in
    let out_is : out ≡ output_to_all e flash.geometry.block (shares flash.geometry.block (openings_on e flash image) forms) =
    taken_from_none sink.old sink.new out _ none some (went_out whole_on begun ops n forms to sink stopped line stays runs) in
    let same : sink ≡ sink_with out 0 = sink_is sink out none some zero ∙ ap (sink_with out) (end.none_failed ∙ zero) in
    record {
      forms = forms;
      to = to;
      out = out;
      stopped = stopped;
      runs = subst (λ (k : ℕ). RunsIn whole_on begun ops k forms to (sink_with out 0) stopped) (sym accepted) (subst (λ (c : SinkChange). RunsIn whole_on begun ops n forms to c stopped) same runs);
      bytes_are = image_made e flash image forms stretches out made (lie end.whole) out_is is;
      survives = subst (λ (k : ℕ). PlacedSurvives e flash.geometry.block flash.blocks image (openings_on e flash image) (device_steps e flash image (take k ops)) forms) (sym accepted)
          (survives_placed e flash image after (take n ops) forms left x after_is room bytes (goes end.whole));
      length_is = long;
      nodes_are = nodes;
      stop_is = stop ∙ ap (λ (k : ℕ). stop_told (told_number (line_number_at numbers k)) stopped) (sym accepted);
      memory = memory;
      spare_is = spare;
    }

-- ---- a mounted image that is gone on from

pub record GoneOn (flash : Flash) : Type 0 where
  pub readable : IsTrue (is_block_size flash.geometry.block)
  pub small : flash.blocks * flash.geometry.block ≤ greatest_image
  pub room : page_size flash.page + 80 ≤ flash.geometry.block

gone_on_at : (e : Endian) (flash : Flash) (m : Mount) (at : ℕ) → resumes e flash m ≡ Ok at → GoneOn flash
gone_on_at e flash m at goes =
    let size : ℕ = flash.geometry.block in
    let paged = resumed_paged flash.page e size flash.blocks m at goes in
    let holds = holds_parts size flash.blocks m.image (resumed_at e size flash.blocks m at paged.0).flash in
    record {
      readable = holds.readable;
      small = leb-true (flash.blocks * size) greatest_image
          (and_parts (is_block_size size && nat_le 8192 size && nat_lt 0 flash.blocks) (nat_le (flash.blocks * size) greatest_image) holds.flash).1;
      room = leb-true (page_size flash.page + 80) size paged.1;
    }

gone_on_by : (e : Endian) (flash : Flash) (m : Mount) (r : Result ℕ SessionFault) → resumes e flash m ≡ r → IsOk r → GoneOn flash
gone_on_by e flash m (Ok at) is ok = gone_on_at e flash m at is
gone_on_by e flash m (Err why) is ok = absurd (cc)

pub gone_on : (e : Endian) (flash : Flash) (m : Mount) → IsOk (resumes e flash m) → GoneOn flash
gone_on e flash m ok = gone_on_by e flash m (resumes e flash m) refl ok

pub all_openings : (e : Endian) (flash : Flash) (image : List ℕ) (row : List Opening) → row ≡ openings_on e flash image → AreOpeningsOf e flash.geometry.block flash.blocks image row
all_openings e flash image row is = subst (AreOpeningsOf e flash.geometry.block flash.blocks image) (sym is) (openings_are_openings e flash.geometry.block flash.blocks image).0

-- what is done in a mounted image is done in the image
pub made_through : {V : Type 0} (e : Endian) (flash : Flash) (image : List ℕ) (m : Mount) (r : Result V Told) (P : List ℕ → V → Type 0) → AnswersThrough e flash.geometry.block image (Ok m)
    → IsOk (resumes e flash m) → IfOk r (P m.image) → IfOk r (λ v. IsGoneOnThrough e flash image × P image v)
made_through e flash image m (Ok v) P answers goes has = ((m, answers, goes), subst (λ (i : List ℕ). P i v) answers.0 has)
made_through e flash image m (Err told) P answers goes has = has

-- memory may be wanting behind a mount
device_memory : (e : Endian) (flash : Flash) (image : List ℕ) (m : Mount) → AnswersThrough e flash.geometry.block image (Ok m) → DeviceRefused e flash image (told_at 7 0 0)
device_memory e flash image m answers =
    inl (view.OutOfMemory, subst (λ (i : List ℕ). AnswersThrough e flash.geometry.block i (Err view.OutOfMemory)) answers.0 answers.1.mounts.sound.scannable, refl)

pub memory_refused_through : {V : Type 0} (e : Endian) (flash : Flash) (image : List ℕ) (m : Mount) (r : Result V Told) → AnswersThrough e flash.geometry.block image (Ok m)
    → IfErr r (IsDueFault (λ told. told ≡ told_at 7 0 0)) → IfErr r (IsDueFault (DeviceRefused e flash image))
memory_refused_through e flash image m (Ok v) answers fails = fails
memory_refused_through e flash image m (Err told) answers fails = record {
  is = fails.is;
  other = fails.other;
  due = subst (λ t. DeviceRefused e flash image t) (sym fails.due) (device_memory e flash image m answers);
}
