-- What `update` and `build --compress` write where they end well.
use Rattle.std.proofs.Common.{◌≡◌, ◌*◌, ◌≤◌, ℕ, Bool, true, false, List, [], ◌++◌, Option, None, Some, Result, Ok, Err, refl, sym, ap, subst, ◌∙◌, append_assoc, inl, inr, length, take, arith}
use Rattle.std.specs.Prelude.{◌&&◌, Contains, IsTrue, is_none, slice_get}
use Rattle.std.specs.Option.{option_map_or}
use Rattle.std.proofs.lemmas.List.{append-nil, take_all}
use Rattle.jnode.specs.declared.order.Endian.{Endian}
use Rattle.jscan.specs.Image.{is_block_size}
use Rattle.jscan.specs.Pages.{page_size}
use Rattle.jmount.specs.Mount.{Mount}
use Rattle.jsteps.specs.Refusals.{plans_of}
use Rattle.jsteps.specs.Steps.{bytes as state_bytes, after as state_after}
use Rattle.jsteps.specs.declared.op.Op.{Op}
use Rattle.jview.specs.Through.{MountsThroughAs}
use Rattle.jlisting.specs.Listing.{lines_of}
use Rattle.jlisting.specs.declared.line.Line.{Line}
use Rattle.jlog.specs.HeadlineThrough.{index_through, state_through}
use Rattle.jlog.specs.Resuming.{resumes}
use Rattle.jlog.specs.declared.fault.SessionFault.{SessionFault}
use Rattle.jbuild.specs.HostFiles.{part_contents, read_of}
use Rattle.jbuild.specs.declared.host_files.HostFiles.{HostFiles}
use Rattle.jreport.specs.NoNodes.{TellsNone}
use Rattle.jreport.specs.declared.cause.Plan.{Plan}
use Rattle.jrests.specs.Left.{IsLeftOfShares, all_bytes}
use Rattle.jrests.specs.Shares.{shares}
use Rattle.jrests.specs.declared.opening.Opening.{Opening}
use Rattle.jopenings.specs.Placed.{placed_image}
use Rattle.jopenings.proofs.StretchLemmas.{image_with_shares_is_left}
use Rattle.jupdate.specs.SessionIn.{RunsIn}
use Rattle.jdevice.specs.Laws.{StaysOutside}
use Rattle.jdevice.specs.Run.{DeviceDone, IsDeviceRun, device_flash, device_image, device_log, memory_took, openings_planned, steps_on_device}
use Rattle.jdevice.specs.declared.running.DevicePlan.{DevicePlan}
use Rattle.jdevice.proofs.RunLemmas.{GoneOn, gone_on_at, image_within}
use Rattle.jdevice.proofs.StayLemmas.{device_placed, device_shows_accepted, device_stays_outside}
use Rattle.jdevice.proofs.TakenLemmas.{taken_are_openings}
use Rattle.jthrough.specs.MountsThrough.{AnswersThrough}
use Rattle.jedge.specs.Acts.{loads}
use Rattle.jedge.specs.Calls.{Answers, Did, Event, Read}
use Rattle.jedge.specs.Laws.{Happened, LooksOnly}
use Rattle.jedge.specs.Told.{Told}
use Rattle.jedge.proofs.BlamingLemmas.{after_more, before_more}
use Rattle.jedge.proofs.LookingLemmas.{closes_looks}
use Rattle.jreads.specs.Named.{files_named}
use Rattle.jreads.specs.ReadLaws.{IsFileKept}
use Rattle.jreads.proofs.KeptLemmas.{all_are_kept, both_done}
use Rattle.jreads.proofs.LookLemmas.{loads_named_looks}
use Rattle.jmakes.specs.Making.{Beside, FileMade, FilePlace, InPlace, WantedFile, closes_file, creates, filled_to, makes, written_out}
use Rattle.jmakes.specs.Writing.{Done, EndsAs, HasOps, Numbered, Run, ending_of_run, plan_on}
use Rattle.jmakes.specs.declared.wanted.CloseFault.{CloseFault}
use Rattle.jmakes.specs.declared.wanted.CloseFault.TheVariants as close
use Rattle.jmakes.specs.declared.wanted.Filling.{Filling}
use Rattle.jupdates.specs.Asked.{DeviceWanted, device_wanted}
use Rattle.jupdates.specs.Commands.{updates_listing, updates_text}
use Rattle.jupdates.specs.Laws.{UpdateShowsOps, WentToFile}
use Rattle.jupdates.specs.Updating.{PutsImage, ends_well, updated_told, writes_device}

-- ---- the steps of an act

pub same_answer : {A F : Type 0} {x y : A} → ◌≡◌ {A = Result A F} (Ok x) (Ok y) → x ≡ y
same_answer is = cc

-- one of which no event comes
pub skipped : {events : List Event} (before after : List Event) → events ≡ before ++ after → before ≡ [] → events ≡ after
skipped before after all none = all ∙ ap (λ (l : List Event). l ++ after) none

-- what happened, of the same events
pub happened_in : (event : Event) {events other : List Event} → events ≡ other → Happened event other → Happened event events
happened_in event is did = subst (λ (l : List Event). Happened event l) (sym is) did

-- ---- bytes that went to a file

pub went_at : (bytes : List ℕ) {events other : List Event} → events ≡ other → WentToFile bytes other → WentToFile bytes events
went_at bytes is went = subst (λ (l : List Event). WentToFile bytes l) (sym is) went

pub went_after : (bytes : List ℕ) (xs ys : List Event) → WentToFile bytes ys → WentToFile bytes (xs ++ ys)
went_after bytes xs ys is = (
  is.0,
  xs ++ is.1,
  is.2,
  ap (λ (l : List Event). xs ++ l) is.3 ∙ sym (append_assoc xs is.1 (written_out is.0 bytes ++ is.2)),
)

went_before : (bytes : List ℕ) (xs ys : List Event) → WentToFile bytes xs → WentToFile bytes (xs ++ ys)
went_before bytes xs ys is = (
  is.0,
  is.1,
  is.2 ++ ys,
  ap (λ (l : List Event). l ++ ys) is.3 ∙ (append_assoc is.1 (written_out is.0 bytes ++ is.2) ys
      ∙ ap (λ (l : List Event). is.1 ++ l) (append_assoc (written_out is.0 bytes) is.2 ys)),
)

-- ---- the file gets all

closed_went : (place : FilePlace) (to : Option Filling) (failures : ℕ) (text : List ℕ) (events : List Event) (x : Unit) → closes_file place to true failures text events (Ok (Ok x))
    → WentToFile (filled_to to text) events
closed_went (InPlace name) to failures text events x is = (name, [], [], is.1 ∙ sym (append-nil (written_out name (filled_to to text))))
closed_went (Beside other target) to failures text events x is = (other, [], is.1.0, is.1.2)

-- of a file that failed
not_closed : (place : FilePlace) (to : Option Filling) (failures : ℕ) (text : List ℕ) (events : List Event) (x : Unit) → closes_file place to false failures text events (Ok (Ok x)) → failures ≡ 0
not_closed (InPlace name) to failures text events x is = is.0
not_closed (Beside other target) to failures text events x is = is.ends.0

-- all of an image was put, where the file ended well
put_well : (image : List ℕ) (to : Option Filling) (place : FilePlace) (put : Bool) (failures : ℕ) (text : List ℕ) (events : List Event) (x : Unit) → PutsImage image text failures put
    → closes_file place to (put && true) failures text events (Ok (Ok x)) → closes_file place to true failures image events (Ok (Ok x))
put_well image to place true failures text events x puts ends = subst (λ (t : List ℕ). closes_file place to true failures t events (Ok (Ok x))) puts.0 ends
put_well image to place false failures text events x puts ends =
    let none : failures ≡ 0 = not_closed place to failures text events x ends in
    let no : ⊥ = omega (arith, none, puts.1) in absurd no

-- it ended well, and no operation was refused
pub record EndedWell (stopped : Option SessionFault) (closed : Result Unit CloseFault) : Type 0 where
  pub none : stopped ≡ None
  pub y : Unit {0}
  pub ended : closed ≡ Ok y

ended_well : (name : List ℕ) (plan : Plan) (line : Option ℕ) (run : Run) (stopped : Option SessionFault) (closed : Result Unit CloseFault) (done : Done)
    → EndsAs name (ending_of_run plan line run stopped closed) (Ok done) → EndedWell stopped closed
ended_well name plan line run None (Ok y) done is = record { none = refl; y = y; ended = refl }
ended_well name plan line run None (Err (close.NotWritten reason)) done is = let no : ⊥ = cc in absurd no
ended_well name plan line run None (Err (close.NotNamed reason)) done is = let alike = is.1 in let no : ⊥ = cc in absurd no
ended_well name plan line run (Some why) closed done is = let no : ⊥ = cc in absurd no

-- an image went to a file, which was opened, and ended
pub record IsPutWell (image : List ℕ) (file : WantedFile) (events : List Event) : Type 0 where
  pub place : FilePlace
  pub failures : ℕ
  pub y : Unit {0}
  pub opening : List Event
  pub closing : List Event
  pub opens : creates file opening (Ok place)
  pub ends : closes_file place file.filling true failures image closing (Ok (Ok y))
  pub all : events ≡ opening ++ closing

makes_well : (image : List ℕ) (run : DeviceDone) (file : WantedFile) (events : List Event) (made : FileMade Bool) → EndedWell run.stopped made.closed
    → makes file (PutsImage image) (ends_well run) events (Ok made) → IsPutWell image file events
makes_well image run file events made well is =
    let both = both_done is in
    let out = both.two in
    let same : made ≡ out.made = same_answer out.is in
    let ended : out.made.closed ≡ Ok well.y = ap (λ (m : FileMade Bool). m.closed) (sym same) ∙ well.ended in
    let none : is_none run.stopped ≡ true = ap is_none well.none in
    record {
      place = both.x;
      failures = out.failures;
      y = well.y;
      opening = both.before;
      closing = both.after;
      opens = both.one;
      ends = put_well image file.filling both.x out.made.answer out.failures out.text both.after well.y out.puts
          (subst (λ (b : Bool). closes_file both.x file.filling (out.made.answer && b) out.failures out.text both.after (Ok (Ok well.y))) none
          (subst (λ (r : Result Unit CloseFault). closes_file both.x file.filling (out.made.answer && is_none run.stopped) out.failures out.text both.after (Ok r)) ended out.ends));
      all = both.all;
    }

well_went : (image : List ℕ) (file : WantedFile) (events : List Event) → IsPutWell image file events → WentToFile (filled_to file.filling image) events
well_went image file events put = went_at _ put.all (went_after _ put.opening put.closing (closed_went put.place file.filling put.failures image put.closing put.y put.ends))

-- ---- what it shows

-- what operations that ran on an image make of it: another one, no longer than the flash
pub record IsShownBy (e : Endian) (wanted : DeviceWanted) (image : List ℕ) (ops : List Op) (out : List ℕ) : Type 0 where
  pub flash : GoneOn wanted.on.flash
  pub within : length out ≤ wanted.on.flash.blocks * wanted.on.flash.geometry.block
  pub stays : StaysOutside wanted.on.flash.geometry.block image (openings_planned e wanted.on image) out
  pub shows : MountsThroughAs e wanted.on.flash.geometry.block out (state_after state_bytes (state_through e wanted.on.flash.geometry.block image) (steps_on_device e wanted.on image ops))

-- and it went to the file
pub record ShowsDevice (e : Endian) (wanted : DeviceWanted) (image : List ℕ) (ops : List Op) (events : List Event) : Type 0 where
  pub out : List ℕ
  pub is : IsShownBy e wanted image ops out
  pub put : WentToFile (filled_to wanted.file.filling out) events

-- all operations were accepted
pub all_accepted : (e : Endian) (on : DevicePlan) (image : List ℕ) (ops : List Op) (run : DeviceDone) → IsDeviceRun e on image ops run → run.stopped ≡ None → take run.accepted ops ≡ ops
all_accepted e on image ops run is none =
    let runs = subst (λ (s : Option SessionFault). RunsIn (device_flash e on image) (device_log e on image) ops run.accepted is.forms is.to (memory_took run.bytes) s) none is.runs in
    ap (λ (n : ℕ). take n ops) runs.0 ∙ take_all (length ops) ops (omega arith)

-- and so each of them has steps
pub all_planned : (e : Endian) (on : DevicePlan) (image : List ℕ) (ops : List Op) (run : DeviceDone) → IsDeviceRun e on image ops run → run.stopped ≡ None
    → length ops ≤ length (plans_of (page_size on.flash.page) (index_through e on.flash.geometry.block image) ops)
all_planned e on image ops run is none =
    let runs = subst (λ (s : Option SessionFault). RunsIn (device_flash e on image) (device_log e on image) ops run.accepted is.forms is.to (memory_took run.bytes) s) none is.runs in
    subst (λ (n : ℕ). n ≤ length (plans_of (page_size on.flash.page) (index_through e on.flash.geometry.block image) ops)) runs.0 runs.2.planned

-- it is no longer than the flash
device_within : (e : Endian) (on : DevicePlan) (image : List ℕ) (ops : List Op) (run : DeviceDone) → IsTrue (is_block_size on.flash.geometry.block) → length image ≤ on.flash.blocks * on.flash.geometry.block
    → IsDeviceRun e on image ops run → length (device_image on image run) ≤ on.flash.blocks * on.flash.geometry.block
device_within e on image ops run size_is within is =
    let size : ℕ = on.flash.geometry.block in
    let row : List Opening = openings_planned e on image in
    let left : IsLeftOfShares e size on.flash.blocks image (shares size row is.forms) (all_bytes e size (shares size row is.forms)) (placed_image e size on.flash.blocks image row is.forms (all_bytes e size (shares size row is.forms))) =
    image_with_shares_is_left e size on.flash.blocks (all_bytes e size (shares size row is.forms)) image row is.forms size_is within (taken_are_openings on.tail e size on.flash.blocks image) in
    subst (λ (l : List ℕ). length l ≤ on.flash.blocks * size) (sym (device_placed e on image ops run is)) left.no_longer

-- what a run did went to the file, and then the line was printed
pub record IsMadeWell (wanted : DeviceWanted) (image : List ℕ) (run : DeviceDone) (events : List Event) : Type 0 where
  pub during : List Event
  pub printing : List Event
  pub none : run.stopped ≡ None
  pub put : IsPutWell (device_image wanted.on image run) wanted.file during
  pub prints_line : LooksOnly printing
  pub all : events ≡ during ++ printing

pub made_well : (wanted : DeviceWanted) (image numbers : List ℕ) (run : DeviceDone) (told told' : Told) (events : List Event) → writes_device wanted image numbers run told events (Ok told')
    → IsMadeWell wanted image run events
made_well wanted image numbers run told told' events did =
    let memory = both_done did in
    let made = both_done memory.two in
    let end = both_done made.two in
    let well = ended_well wanted.file.name (plan_on wanted.on.flash image) (slice_get numbers run.accepted) (record { accepted = run.accepted; places = run.places; stopped = run.stopped; blocks = Ok None }) run.stopped made.x.closed end.x end.one.1 in
    record {
      during = made.before;
      printing = end.after;
      none = well.none;
      put = makes_well (device_image wanted.on image run) run wanted.file made.before made.x well made.one;
      prints_line = closes_looks Answers end.two.failures end.two.text end.after end.two.closed end.two.out;
      all = skipped memory.before memory.after memory.all memory.one.0 ∙ (made.all ∙ ap (λ (l : List Event). made.before ++ l) (skipped end.before end.after end.all end.one.0));
    }

device_shown : (e : Endian) (wanted : DeviceWanted) (m : Mount) (ops : List Op) (from : ℕ) (run : DeviceDone) → resumes e wanted.on.flash m ≡ Ok from → IsDeviceRun e wanted.on m.image ops run → run.stopped ≡ None
    → IsShownBy e wanted m.image ops (device_image wanted.on m.image run)
device_shown e wanted m ops from run goes is none =
    let size : ℕ = wanted.on.flash.geometry.block in
    let flash = gone_on_at e wanted.on.flash m from goes in
    let within = image_within e wanted.on.flash m from goes in
    record {
      flash = flash;
      within = device_within e wanted.on m.image ops run flash.readable within is;
      stays = device_stays_outside e wanted.on m.image ops run flash.readable within is;
      shows = subst (λ (l : List Op). MountsThroughAs e size (device_image wanted.on m.image run) (state_after state_bytes (state_through e size m.image) (steps_on_device e wanted.on m.image l)))
          (all_accepted e wanted.on m.image ops run is none) (device_shows_accepted e wanted.on m.image ops run is);
    }

-- ---- files that are kept, when more happens

pub kept_in : (before files : HostFiles) (first last events : List Event) (name : List ℕ) → events ≡ first ++ last → IsFileKept before files first name → IsFileKept before files events name
kept_in before files first last events name is kept = (
  kept.0,
  kept.1,
  elim kept.2 [ inl had ↦ inl had | inr read ↦ inr (happened_in _ is (before_more _ first last read)) ],
)

pub kept_after : (before files : HostFiles) (first last events : List Event) (name : List ℕ) → events ≡ first ++ last → IsFileKept before files last name → IsFileKept before files events name
kept_after before files first last events name is kept = (
  kept.0,
  kept.1,
  elim kept.2 [ inl had ↦ inl had | inr read ↦ inr (happened_in _ is (after_more _ first last read)) ],
)

-- ---- the text of a listing

-- A listing's text was run on an image: its lines, the files that they name and their operations
-- were read; the image was mounted, and is gone on from; and then what the run did was written.
pub record IsTextRun (e : Endian) (wanted : DeviceWanted) (image : List ℕ) (before : HostFiles) (text : List ℕ) (events : List Event) (told : Told) : Type 0 where
  pub lines : List Line
  pub files : HostFiles
  pub of : Numbered
  pub others : Option ℕ
  pub m : Mount
  pub from : ℕ
  pub run : DeviceDone
  pub looked : List Event
  pub last : List Event
  pub lines_are : lines_of text ≡ Ok lines
  pub kept : (name : List ℕ) → Contains (files_named lines) name → IsFileKept before files looked name
  pub ops_are : HasOps e (part_contents files) lines (Ok of)
  pub none_are : TellsNone e wanted.on.flash.geometry.block image others
  pub mounts : AnswersThrough e wanted.on.flash.geometry.block image (Ok m)
  pub goes : resumes e wanted.on.flash m ≡ Ok from
  pub is : IsDeviceRun e wanted.on m.image of.ops run
  pub looks : LooksOnly looked
  pub writes : writes_device wanted m.image of.numbers run (updated_told wanted others m run) last (Ok told)
  pub all : events ≡ looked ++ last

pub text_run : (e : Endian) (wanted : DeviceWanted) (image : List ℕ) (before : HostFiles) (text : List ℕ) (events : List Event) (told : Told) → updates_text e wanted image before text events (Ok told)
    → IsTextRun e wanted image before text events told
text_run e wanted image before text events told did =
    let lines = both_done did in
    let files = both_done lines.two in
    let of = both_done files.two in
    let others = both_done of.two in
    let mount = both_done others.two in
    let start = both_done mount.two in
    let ran = both_done start.two in
    record {
      lines = lines.x;
      files = files.x;
      of = of.x;
      others = others.x;
      m = mount.x;
      from = start.x;
      run = ran.x;
      looked = files.before;
      last = ran.after;
      lines_are = lines.one.1;
      kept = all_are_kept lines.x before files.x files.before files.one;
      ops_are = of.one.1;
      none_are = others.one.1;
      mounts = mount.one.1;
      goes = start.one.1;
      is = ran.one.1;
      looks = loads_named_looks lines.x before files.before (Ok files.x) files.one;
      writes = ran.two;
      all = skipped lines.before lines.after lines.all lines.one.0 ∙ (files.all ∙ ap (λ (l : List Event). files.before ++ l)
          (skipped of.before of.after of.all of.one.0 ∙ (skipped others.before others.after others.all others.one.0 ∙ (skipped mount.before mount.after mount.all mount.one.0
          ∙ (skipped start.before start.after start.all start.one.0 ∙ skipped ran.before ran.after ran.all ran.one.0)))));
    }

pub run_shown : (e : Endian) (wanted : DeviceWanted) (image : List ℕ) (before : HostFiles) (text : List ℕ) (events : List Event) (told : Told) → (ran : IsTextRun e wanted image before text events told)
    → ran.run.stopped ≡ None → IsShownBy e wanted image ran.of.ops (device_image wanted.on ran.m.image ran.run)
run_shown e wanted image before text events told ran none =
    subst (λ (i : List ℕ). IsShownBy e wanted i ran.of.ops (device_image wanted.on ran.m.image ran.run)) ran.mounts.0 (device_shown e wanted ran.m ran.of.ops ran.from ran.run ran.goes ran.is none)

pub run_made : (e : Endian) (wanted : DeviceWanted) (image : List ℕ) (before : HostFiles) (text : List ℕ) (events : List Event) (told : Told) → (ran : IsTextRun e wanted image before text events told)
    → IsMadeWell wanted ran.m.image ran.run ran.last
run_made e wanted image before text events told ran = made_well wanted ran.m.image ran.of.numbers ran.run (updated_told wanted ran.others ran.m ran.run) told ran.last ran.writes

text_shown : (e : Endian) (wanted : DeviceWanted) (image : List ℕ) (before : HostFiles) (text : List ℕ) (events : List Event) (told : Told) → (ran : IsTextRun e wanted image before text events told)
    → ShowsDevice e wanted image ran.of.ops events
text_shown e wanted image before text events told ran =
    let made = run_made e wanted image before text events told ran in
    record {
      out = device_image wanted.on ran.m.image ran.run;
      is = run_shown e wanted image before text events told ran made.none;
      put = went_at _ ran.all (went_after _ ran.looked ran.last (went_at _ made.all (went_before _ made.during made.printing (well_went (device_image wanted.on ran.m.image ran.run) wanted.file made.during made.put))));
    }

-- of a listing of whose files none was read before
pub record IsListingRun (e : Endian) (wanted : DeviceWanted) (image text : List ℕ) (events : List Event) (told : Told) : Type 0 where
  pub before : HostFiles
  pub none : (name : List ℕ) → read_of before name ≡ None
  pub ran : IsTextRun e wanted image before text events told
  pub shown : ShowsDevice e wanted image ran.of.ops events
  pub read : (name : List ℕ) → Contains (files_named ran.lines) name → Happened (Did (Read name (part_contents ran.files name))) events

-- a file that is kept was read, if it was not before
was_read : (before files : HostFiles) (events : List Event) (name : List ℕ) → read_of before name ≡ None → IsFileKept before files events name → Happened (Did (Read name (part_contents files name))) events
was_read before files events name none kept = elim kept.2 [
  | inl had ↦ let no : ⊥ = (let both : ◌≡◌ {A = Option (List ℕ)} None (Some kept.0) = sym none ∙ had in cc) in absurd no
  | inr read ↦ subst (λ (b : List ℕ). Happened (Did (Read name b)) events) (sym (ap (λ (o : Option (List ℕ)). option_map_or (λ (b : List ℕ). b) o []) kept.1)) read
]

pub listing_run : (e : Endian) (wanted : DeviceWanted) (image text : List ℕ) (events : List Event) (told : Told) → updates_listing e wanted image text events (Ok told) → IsListingRun e wanted image text events told
listing_run e wanted image text events told did =
    let none = both_done did in
    let were = none.one.1 in
    let same : none.x ≡ were.0 = same_answer were.1 in
    let all : events ≡ none.after = skipped none.before none.after none.all none.one.0 in
    let ran = subst (λ (l : List Event). IsTextRun e wanted image none.x text l told) (sym all) (text_run e wanted image none.x text none.after told none.two) in
    let unread : (name : List ℕ) → read_of none.x name ≡ None = λ name. ap (λ (files : HostFiles). read_of files name) same ∙ were.2 name in
    record {
      before = none.x;
      none = unread;
      ran = ran;
      shown = text_shown e wanted image none.x text events told ran;
      read = λ name within. was_read none.x ran.files events name (unread name) (kept_in none.x ran.files ran.looked ran.last events name ran.all (ran.kept name within));
    }

-- ---- a file that was read

pub loads_read : (name : List ℕ) (events : List Event) (bytes : List ℕ) → loads name events (Ok bytes) → Happened (Did (Read name bytes)) events
loads_read name events bytes did =
    let opened = both_done did in
    happened_in _ opened.all (after_more _ opened.before opened.after
    (happened_in _ opened.two.0 (inl (ap (λ (n : List ℕ). Did (Read n bytes)) opened.one.0))))

pub update_shows_ops : UpdateShowsOps
update_shows_ops e u events told did =
    let one = both_done did in
    let two = both_done one.two in
    let wanted : DeviceWanted = device_wanted u one.x in
    let last = listing_run e wanted one.x two.x two.after told two.two in
    let shown = last.shown in
    record {
      image = one.x;
      text = two.x;
      lines = last.ran.lines;
      files = part_contents last.ran.files;
      of = last.ran.of;
      out = shown.out;
      read = happened_in _ one.all (before_more _ one.before one.after (loads_read u.image one.before one.x one.one));
      listed = happened_in _ one.all (after_more _ one.before one.after (happened_in _ two.all (before_more _ two.before two.after (loads_read u.listing two.before two.x two.one))));
      lines_are = last.ran.lines_are;
      ops_are = last.ran.ops_are;
      stays = shown.is.stays;
      shows = shown.is.shows;
      put = went_at _ one.all (went_after _ one.before one.after (went_at _ two.all (went_after _ two.before two.after shown.put)));
    }
