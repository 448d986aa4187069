-- What a session in the openings that are taken did.
use Rattle.std.proofs.Common.{◌≡◌, ◌∙◌, ℕ, ◌+◌, ◌*◌, ◌≤◌, Bool, true, false, not, List, [], length, take, ap, refl, subst, append-nil, Option, None, Some, Result, Ok, Err}
use Rattle.std.specs.Prelude.{IsFalse, IsTrue, IsOk, ◌&&◌, nat_le, nat_lt}
use Rattle.std.specs.Io.KnownBytes.{Appends}
use Rattle.std.proofs.KnownBytes.{Appends-trans}
use Rattle.std.proofs.lemmas.Bool.{and_parts, leb-true}
use Rattle.flashbase.specs.Sinks.{SinkChange}
use Rattle.flashbase.specs.Ranges.{AreBytes}
use Rattle.jnode.specs.declared.order.Endian.{Endian}
use Rattle.jscan.specs.Image.{is_block_size, greatest_image}
use Rattle.jscan.specs.Pages.{page_size}
use Rattle.jscan.specs.declared.page.Page.{Page}
use Rattle.jexpand.specs.Expanded.{unpacked_bytes}
use Rattle.jmount.specs.Mount.{Mount}
use Rattle.jsteps.specs.Nodes.{Indexed, advanced_all}
use Rattle.jsteps.specs.declared.op.Op.{Op}
use Rattle.jsteps.proofs.FewLemmas.{sizes_are_pages}
use Rattle.jlog.specs.DoneThrough.{steps_through}
use Rattle.jlog.specs.HeadlineThrough.{index_through}
use Rattle.jlog.specs.Resuming.{resumes}
use Rattle.jlog.specs.Session.{Flash as LogFlash}
use Rattle.jlog.specs.SessionAs.{FlashAs, flash_as}
use Rattle.jlog.specs.View.{written_flash}
use Rattle.jlog.specs.declared.fault.SessionFault.{SessionFault}
use Rattle.jlog.specs.declared.fault.SessionFault.TheVariants as fault
use Rattle.jlog.specs.declared.report.Place.{Place}
use Rattle.jlog.specs.declared.start.Flash.{Flash}
use Rattle.jlog.proofs.Parts.{flash_by}
use Rattle.jlog.proofs.ResumeLemmas.{resumed_paged, resumed_at, holds_parts}
use Rattle.jrests.specs.Shares.{shares}
use Rattle.jrests.specs.declared.opening.Opening.{Opening}
use Rattle.jopenings.specs.After.{output_to_all}
use Rattle.jopenings.specs.Done.{GoesOnInOpenings}
use Rattle.jopenings.specs.Placed.{PlacedSurvives}
use Rattle.jopenings.specs.Stretches.{AreStretches, stretches_of}
use Rattle.jopenings.proofs.PlacedLemmas.{forms_survive_placed}
use Rattle.jupdate.specs.SessionIn.{StateIn, RunsIn}
use Rattle.jupdate.specs.Writing.{log_in}
use Rattle.jdevice.specs.Run.{DeviceDone, IsDeviceRun, device_flash, device_log, memory_took, openings_planned, steps_on_device, stops_at_op}
use Rattle.jdevice.specs.declared.running.DevicePlan.{DevicePlan}

-- ---- where it begins

-- the flash that a session sees is the one that was given
pub flash_same : (e : Endian) (size blocks : ℕ) (page : Page) (flash : Flash) → size ≡ flash.geometry.block → blocks ≡ flash.blocks → page ≡ flash.page
    → flash_by (page_size page) e size blocks ≡ written_flash e flash
flash_same e size blocks page flash size_is blocks_is page_is = λ i. record { order = e; size = size_is i; blocks = blocks_is i; page = page_size (page_is i) }

pub packed_same : (packs : Bool) (held : ℕ) (e : Endian) (size blocks : ℕ) (page : Page) (on : DevicePlan) (image : List ℕ) → packs ≡ not on.plain → size ≡ on.flash.geometry.block → blocks ≡ on.flash.blocks
    → page ≡ on.flash.page → held ≡ length (unpacked_bytes e on.flash.geometry.block image) → flash_as packs held (flash_by (page_size page) e size blocks) ≡ device_flash e on image
packed_same packs held e size blocks page on image packs_is size_is blocks_is page_is held_is =
    λ i. record { packs = packs_is i; held = held_is i; flash = record { order = e; size = size_is i; blocks = blocks_is i; page = page_size (page_is i) } }

abbrev pub session_state : List Opening → Indexed → List Place → Bool → StateIn
session_state left index places broken = record { log = log_in left index places; broken = broken }

pub begun_same : (left : List Opening) (index : Indexed) (broken : Bool) (e : Endian) (on : DevicePlan) (image : List ℕ) → left ≡ openings_planned e on image → index ≡ index_through e on.flash.geometry.block image → IsFalse broken
    → session_state left index [] broken ≡ device_log e on image
begun_same left index broken e on image left_is index_is whole = λ i. record { log = log_in (left_is i) (index_is i) []; broken = whole i }

-- nothing was done yet
pub index_same : (page : ℕ) (e : Endian) (size size' : ℕ) (image : List ℕ) (x : Indexed) → size ≡ size' → x ≡ advanced_all (index_through e size image) (steps_through page e size image [])
    → x ≡ index_through e size' image
index_same page e size size' image x size_is is = is ∙ ap (λ n. index_through e n image) size_is

-- ---- how it ends

-- where memory did not run out no operation was written in part, and the sink did not fail
pub record Ended (to : StateIn) (sink : SinkChange) : Type 0 where
  pub whole : IsFalse to.broken
  pub none_failed : sink.now ≡ sink.before

ended : (on : FlashAs) (from : StateIn) (ops : List Op) (n : ℕ) (forms : List (List ℕ)) (to : StateIn) (sink : SinkChange) (stopped : Option SessionFault) → IsFalse from.broken
    → IsTrue (stops_at_op stopped) → RunsIn on from ops n forms to sink stopped → Ended to sink
ended on from ops n forms to sink None whole stops runs = record { whole = runs.1 ∙ whole; none_failed = runs.3 }
ended on from ops n forms to sink (Some (fault.Refused why)) whole stops runs = record { whole = runs.stop.2.whole; none_failed = runs.stop.2.none_failed }
ended on from ops n forms to sink (Some (fault.Full wanted left)) whole stops runs = record { whole = runs.stop.2.whole; none_failed = runs.stop.2.none_failed }
ended on from ops n forms to sink (Some fault.Sink) whole stops runs = let no : ⊥ = cc in absurd no
ended on from ops n forms to sink (Some fault.OutOfMemory) whole stops runs = let no : ⊥ = cc in absurd no
ended on from ops n forms to sink (Some fault.Broken) whole stops runs = let no : ⊥ = cc in absurd no
ended on from ops n forms to sink (Some fault.ReadOnly) whole stops runs = absurd runs.stop
ended on from ops n forms to sink (Some fault.Geometry) whole stops runs = absurd runs.stop

-- just what goes out for the forms went out
after_none : (old mid new : Option (List ℕ)) (bytes : List ℕ) → Appends old mid bytes → Appends mid new [] → Appends old new bytes
after_none old mid new bytes put none = subst (Appends old new) (append-nil bytes) (Appends-trans old mid new bytes [] put none)

went_out : (on : FlashAs) (from : StateIn) (ops : List Op) (n : ℕ) (forms : List (List ℕ)) (to : StateIn) (sink : SinkChange) (stopped : Option SessionFault)
    → IsTrue (stops_at_op stopped) → RunsIn on from ops n forms to sink stopped
    → Appends sink.old sink.new (output_to_all on.flash.order on.flash.size (shares on.flash.size from.log.row forms))
went_out on from ops n forms to sink None stops runs = runs.2.wrote.bytes
went_out on from ops n forms to sink (Some (fault.Refused why)) stops runs = after_none sink.old runs.between sink.new _ runs.run.wrote.bytes runs.stop.2.bytes
went_out on from ops n forms to sink (Some (fault.Full wanted left)) stops runs = after_none sink.old runs.between sink.new _ runs.run.wrote.bytes runs.stop.2.bytes
went_out on from ops n forms to sink (Some fault.Sink) stops runs = let no : ⊥ = cc in absurd no
went_out on from ops n forms to sink (Some fault.OutOfMemory) stops runs = let no : ⊥ = cc in absurd no
went_out on from ops n forms to sink (Some fault.Broken) stops runs = let no : ⊥ = cc in absurd no
went_out on from ops n forms to sink (Some fault.ReadOnly) stops runs = absurd runs.stop
went_out on from ops n forms to sink (Some fault.Geometry) stops runs = absurd runs.stop

-- what memory has, if it had nothing
taken_from_none : (old new : Option (List ℕ)) (bytes text : List ℕ) → old ≡ Some [] → new ≡ Some bytes → Appends old new text → bytes ≡ text
taken_from_none old new bytes text none some appends =
    subst (λ n. Appends (Some []) n text) some (subst (λ o. Appends o new text) none appends)

memory_is : (sink : SinkChange) (bytes : List ℕ) → sink.old ≡ Some [] → sink.new ≡ Some bytes → sink.before ≡ 0 → sink.now ≡ 0 → sink ≡ memory_took bytes
memory_is sink bytes none some zero now = λ i. record { old = none i; new = some i; before = zero i; now = now i }

-- ---- what was done survives

survives_placed : (e : Endian) (on : DevicePlan) (image : List ℕ) (after : LogFlash) (done : List Op) (forms : List (List ℕ)) (left : List Opening) (x : Indexed) → after ≡ written_flash e on.flash
    → page_size on.flash.page + 80 ≤ on.flash.geometry.block → AreBytes image → GoesOnInOpenings after image (openings_planned e on image) done forms left x
    → PlacedSurvives e on.flash.geometry.block on.flash.blocks image (openings_planned e on image) (steps_on_device e on image done) forms
survives_placed e on image after done forms left x after_is room bytes given =
    let goes = subst (λ (f : LogFlash). GoesOnInOpenings f image (openings_planned e on image) done forms left x) after_is given in
    forms_survive_placed (page_size on.flash.page) e on.flash.geometry.block on.flash.blocks (length done) image (openings_planned e on image) done forms (sizes_are_pages on.flash.page) room goes.is_base bytes goes.widths
    goes.openings goes.accepted

-- ---- all of it

pub not_false : (b : Bool) → not b ≡ false → b ≡ true
not_false true is = refl
not_false false is = let no : ⊥ = cc in absurd no

-- what is known of a run of a session that began in those openings
pub record Ran (e : Endian) (on : DevicePlan) (image : List ℕ) (ops : List Op) (run : DeviceDone) : Type 0 where
  pub forms : List (List ℕ)
  pub to : StateIn
  pub sink : SinkChange
  pub flash : FlashAs
  pub from : StateIn
  pub after : LogFlash
  pub left : List Opening
  pub index : Indexed
  pub flash_is : flash ≡ device_flash e on image
  pub from_is : from ≡ device_log e on image
  pub after_is : after ≡ written_flash e on.flash
  pub none : sink.old ≡ Some []
  pub some : sink.new ≡ Some run.bytes
  pub zero_failed : sink.before ≡ 0
  pub room : page_size on.flash.page + 80 ≤ on.flash.geometry.block
  pub bytes : AreBytes image
  pub stops : IsTrue (stops_at_op run.stopped)
  pub did : RunsIn flash from ops run.accepted forms to sink run.stopped
  pub goes : IsFalse to.broken → GoesOnInOpenings after image (openings_planned e on image) (take run.accepted ops) forms left index
  pub stretches : IsFalse to.broken → run.stretches ≡ stretches_of e on.flash.geometry.block (shares on.flash.geometry.block (openings_planned e on image) forms)
  pub lie : AreStretches on.flash.geometry.block 0 on.flash.blocks run.stretches
  pub places : to.log.places ≡ run.places

pub device_ran : (e : Endian) (on : DevicePlan) (image : List ℕ) (ops : List Op) (run : DeviceDone) → Ran e on image ops run → IsDeviceRun e on image ops run
device_ran e on image ops run r =
    let whole_on : FlashAs = device_flash e on image in
    let begun : StateIn = device_log e on image in
    let runs : RunsIn whole_on begun ops run.accepted r.forms r.to r.sink run.stopped =
    subst (λ (f : StateIn). RunsIn whole_on f ops run.accepted r.forms r.to r.sink run.stopped) r.from_is (subst (λ (o : FlashAs). RunsIn o r.from ops run.accepted r.forms r.to r.sink run.stopped) r.flash_is r.did) in
    let end = ended whole_on begun ops run.accepted r.forms r.to r.sink run.stopped refl r.stops runs in
    let out_is : run.bytes ≡ output_to_all e on.flash.geometry.block (shares on.flash.geometry.block (openings_planned e on image) r.forms) =
    taken_from_none r.sink.old r.sink.new run.bytes _ r.none r.some (went_out whole_on begun ops run.accepted r.forms r.to r.sink run.stopped r.stops runs) in
    let same : r.sink ≡ memory_took run.bytes = memory_is r.sink run.bytes r.none r.some r.zero_failed (end.none_failed ∙ r.zero_failed) in
    record {
      forms = r.forms;
      to = r.to;
      runs = subst (λ (c : SinkChange). RunsIn whole_on begun ops run.accepted r.forms r.to c run.stopped) same runs;
      places_are = r.places;
      stops = r.stops;
      stretches_are = r.stretches end.whole;
      bytes_are = out_is;
      lie = r.lie;
      survives = survives_placed e on image r.after (take run.accepted ops) r.forms r.left r.index r.after_is r.room r.bytes (r.goes end.whole);
    }

-- ---- a mounted image that is gone on from

pub record GoneOn (flash : Flash) : Type 0 where
  pub readable : IsTrue (is_block_size flash.geometry.block)
  pub small : flash.blocks * flash.geometry.block ≤ greatest_image
  pub room : page_size flash.page + 80 ≤ flash.geometry.block

-- and the image is no longer than the flash
pub image_within : (e : Endian) (flash : Flash) (m : Mount) (at : ℕ) → resumes e flash m ≡ Ok at → length m.image ≤ flash.blocks * flash.geometry.block
image_within e flash m at goes =
    let paged = resumed_paged flash.page e flash.geometry.block flash.blocks m at goes in
    (holds_parts flash.geometry.block flash.blocks m.image (resumed_at e flash.geometry.block flash.blocks m at paged.0).flash).within

pub gone_on_at : (e : Endian) (flash : Flash) (m : Mount) (at : ℕ) → resumes e flash m ≡ Ok at → GoneOn flash
gone_on_at e flash m at goes =
    let size : ℕ = flash.geometry.block in
    let paged = resumed_paged flash.page e size flash.blocks m at goes in
    let holds = holds_parts size flash.blocks m.image (resumed_at e size flash.blocks m at paged.0).flash in
    record {
      readable = holds.readable;
      small = leb-true (flash.blocks * size) greatest_image
          (and_parts (is_block_size size && nat_le 8192 size && nat_lt 0 flash.blocks) (nat_le (flash.blocks * size) greatest_image) holds.flash).1;
      room = leb-true (page_size flash.page + 80) size paged.1;
    }

gone_on_by : (e : Endian) (flash : Flash) (m : Mount) (r : Result ℕ SessionFault) → resumes e flash m ≡ r → IsOk r → GoneOn flash
gone_on_by e flash m (Ok at) is ok = gone_on_at e flash m at is
gone_on_by e flash m (Err why) is ok = absurd (cc)

pub gone_on : (e : Endian) (flash : Flash) (m : Mount) → IsOk (resumes e flash m) → GoneOn flash
gone_on e flash m ok = gone_on_by e flash m (resumes e flash m) refl ok
