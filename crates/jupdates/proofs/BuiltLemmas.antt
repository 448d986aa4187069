-- What `build --compress` writes where it ends well: an empty image is extended.
use Rattle.std.proofs.Common.{◌≡◌, ◌∙◌, ℕ, ◌<◌, ◌*◌, Bool, true, false, List, [], ◌++◌, length, Option, None, Some, Result, Ok, Err, ap, arith, refl, subst, sym}
use Rattle.std.specs.Prelude.{IsTrue, count_by, filter_map, flat_map, if◌then◌else◌}
use Rattle.flashbase.specs.Lists.{below}
use Rattle.jnode.specs.declared.node.NodeRef.{NodeRef}
use Rattle.jnode.specs.declared.order.Endian.{Endian}
use Rattle.jscan.specs.Counts.{extents_below}
use Rattle.jscan.specs.Findings.{finding_of}
use Rattle.jscan.specs.Image.{block_of, is_block_size, sightings, sightings_in}
use Rattle.jscan.specs.Pages.{page_size}
use Rattle.jscan.specs.Scans.{findings}
use Rattle.jscan.specs.declared.finding.Finding.{Finding}
use Rattle.jscan.specs.declared.page.Page.{Page}
use Rattle.jmount.specs.Mount.{Mount}
use Rattle.jmount.specs.StateOf.{state_of}
use Rattle.jsteps.specs.Nodes.{index_of}
use Rattle.jsteps.specs.Refusals.{steps_of_first}
use Rattle.jsteps.specs.Steps.{bytes as state_bytes, after as state_after}
use Rattle.jsteps.specs.declared.op.Op.{Op}
use Rattle.jexpand.specs.Expanded.{expanded_node, expanded_nodes}
use Rattle.jview.specs.Through.{MountsThroughAs}
use Rattle.jlog.specs.HeadlineThrough.{state_through}
use Rattle.jlog.proofs.ImageLemmas.{block_size}
use Rattle.jbuild.specs.HostFiles.{part_contents}
use Rattle.jreads.proofs.KeptLemmas.{both_done}
use Rattle.jreads.proofs.ScanTextLemmas.{no_blocks}
use Rattle.jreport.specs.NoNodes.{TellsNone}
use Rattle.jreport.specs.Notes.{is_noted, noted}
use Rattle.jthrough.specs.MountsThrough.{AnswersThrough}
use Rattle.jdevice.specs.Run.{DeviceDone, steps_on_device}
use Rattle.jdevice.specs.declared.running.DevicePlan.{DevicePlan}
use Rattle.jedge.specs.Acts.{and_closed, closes}
use Rattle.jedge.specs.Calls.{Answers, Event}
use Rattle.jedge.specs.Commands.{findings_noted, shown_told}
use Rattle.jedge.specs.Told.{Told}
use Rattle.jedge.specs.declared.fault.Fault.{Fault}
use Rattle.jedge.proofs.BlamingLemmas.{after_more, before_more}
use Rattle.jmakes.specs.Making.{filled_to}
use Rattle.jmakes.specs.Writing.{WholeLine}
use Rattle.jupdates.specs.Asked.{DeviceWanted, device_built}
use Rattle.jupdates.specs.Laws.{BuildCompressedNotesNothing, BuildCompressedShowsOps, made_of_nothing}
use Rattle.jupdates.specs.Updating.{writes_device}
use Rattle.jupdates.proofs.FilledLemmas.{asked_within, filled_shows}
use Rattle.jupdates.proofs.ShownLemmas.{happened_in, listing_run, loads_read, went_after, went_at}

-- ---- an empty image

pub some_size : (size : ℕ) → IsTrue (is_block_size size) → 0 < size
some_size size is = omega (arith, (block_size size is).least)

no_sightings : (e : Endian) (size : ℕ) → 0 < size → sightings e size [] ≡ []
no_sightings e size some = ap (λ (n : ℕ). flat_map (λ k. sightings_in e (k * size) (block_of size [] k)) (below n)) (no_blocks size some)

pub no_nodes : (e : Endian) (size : ℕ) → 0 < size → expanded_nodes e size [] ≡ []
no_nodes e size some = ap (filter_map (expanded_node e size [])) (no_sightings e size some)

no_findings : (e : Endian) (size : ℕ) → 0 < size → findings e size [] ≡ []
no_findings e size some = ap (λ (n : ℕ). filter_map finding_of (extents_below e size [] n)) (no_blocks size some)

-- what is done on it is done on an empty file system
pub made_from_nothing : (e : Endian) (on : DevicePlan) (ops : List Op) → 0 < on.flash.geometry.block
    → state_after state_bytes (state_through e on.flash.geometry.block []) (steps_on_device e on [] ops) ≡ made_of_nothing on.flash.page ops
made_from_nothing e on ops some =
    ap (λ (ns : List NodeRef). state_after state_bytes (state_of ns) (steps_of_first (page_size on.flash.page) (index_of ns) ops (length ops))) (no_nodes e on.flash.geometry.block some)

-- ---- `build --compress`

pub build_compressed_shows_ops : BuildCompressedShowsOps
build_compressed_shows_ops e b events told did =
    let one = both_done did in
    let wanted : DeviceWanted = device_built b.target in
    let size : ℕ = b.target.options.geometry.block in
    let blocks : ℕ = b.target.blocks in
    let last = listing_run e wanted [] one.x one.after told one.two in
    let shown = last.shown.is in
    let out : List ℕ = last.shown.out in
    let mounts : MountsThroughAs e size out (made_of_nothing b.target.page last.ran.of.ops) =
    subst (λ s. MountsThroughAs e size out s) (made_from_nothing e wanted.on last.ran.of.ops (some_size size shown.flash.readable)) shown.shows in
    record {
      text = one.x;
      lines = last.ran.lines;
      files = part_contents last.ran.files;
      of = last.ran.of;
      image = filled_to wanted.file.filling out;
      listed = happened_in _ one.all (before_more _ one.before one.after (loads_read b.listing one.before one.x one.one));
      lines_are = last.ran.lines_are;
      read = λ name within. happened_in _ one.all (after_more _ one.before one.after (last.read name within));
      ops_are = last.ran.ops_are;
      shows = filled_shows e size blocks out wanted.file.filling _ shown.flash.readable shown.flash.small shown.within (asked_within b.target.placing.pad (blocks * size)) mounts;
      put = went_at _ one.all (went_after _ one.before one.after last.shown.put);
    }

-- ---- nothing is noted

-- no node is missed in it
none_told : (e : Endian) (size : ℕ) (others : Option ℕ) → TellsNone e size [] others → others ≡ None
none_told e size None is = refl
none_told e size (Some n) is = absurd (is.0.written refl)

none_noted : (e : Endian) (size : ℕ) (m : Mount) → AnswersThrough e size [] (Ok m) → 0 < size → noted m ≡ 0
none_noted e size m is some =
    let all : m.findings ≡ [] = is.1.findings ∙ (ap (λ (i : List ℕ). findings e size i) is.0 ∙ no_findings e size some) in
    ap (λ (fs : List Finding). count_by (λ f. is_noted f.kind) fs) all

nothing_noted : (e : Endian) (size : ℕ) (m : Mount) (others : Option ℕ) → AnswersThrough e size [] (Ok m) → 0 < size → TellsNone e size [] others → shown_told others m ≡ record { counted = 0; noted = None }
nothing_noted e size m others is some none =
    ap (λ (o : Option ℕ). shown_told o m) (none_told e size others none) ∙ ap (λ (n : ℕ). told_of (findings_noted n)) (none_noted e size m is some)
  where
    told_of : Option (List ℕ) → Told
    told_of noted = record { counted = 0; noted = noted }

-- the answer is what was to be told
line_told : (line : List ℕ) (told : Told) (text : List ℕ) (failures : ℕ) (events : List Event) (got : Told) (answer : Result Told Fault) (closed : Result Unit Fault)
    → WholeLine line told text answer → closes Answers failures text events closed → Ok got ≡ and_closed answer closed → got ≡ told
line_told line told text failures events got (Ok x) (Ok _) says out is = let same : got ≡ x = cc in same ∙ says.1
line_told line told text failures events got (Ok x) (Err g) says out is = let no : ⊥ = cc in absurd no
line_told line told text failures events got (Err g) closed says out is = let no : ⊥ = cc in absurd no

device_told : (wanted : DeviceWanted) (image numbers : List ℕ) (run : DeviceDone) (told got : Told) (events : List Event) → writes_device wanted image numbers run told events (Ok got) → got ≡ told
device_told wanted image numbers run told got events did =
    let memory = both_done did in
    let made = both_done memory.two in
    let end = both_done made.two in
    line_told _ told end.two.text end.two.failures end.after got end.two.answer end.two.closed end.two.says end.two.out end.two.comes_to

pub build_compressed_notes_nothing : BuildCompressedNotesNothing
build_compressed_notes_nothing e b events told did =
    let one = both_done did in
    let wanted : DeviceWanted = device_built b.target in
    let last = listing_run e wanted [] one.x one.after told one.two in
    let ran = last.ran in
    device_told wanted ran.m.image ran.of.numbers ran.run (shown_told ran.others ran.m) told ran.last ran.writes
    ∙ nothing_noted e b.target.options.geometry.block ran.m ran.others ran.mounts (some_size b.target.options.geometry.block last.shown.is.flash.readable) ran.none_are
