-- The acts make nothing, their faults are events, and they judge before they print.
use Rattle.std.proofs.Common.{◌≡◌, ◌∙◌, ℕ, List, Option, None, Some, Bool, true, false, Ok, Err, ap, inl, inr, refl, subst}
use Rattle.std.specs.Prelude.{◌&&◌, if◌then◌else◌}
use Rattle.jnode.specs.declared.order.Endian.{Endian}
use Rattle.jmount.specs.Mount.{Mount}
use Rattle.jsteps.specs.declared.op.Op.{Op}
use Rattle.jlisting.specs.declared.line.Line.{Line}
use Rattle.jlog.specs.Headline.{is_flash_of, resume_address}
use Rattle.jlog.specs.Resuming.{page_fits, resumes}
use Rattle.jlog.specs.declared.fault.SessionFault.{SessionFault}
use Rattle.jlog.specs.declared.fault.SessionFault.TheVariants as session
use Rattle.jlog.specs.declared.start.Flash.{Flash}
use Rattle.jbuild.specs.declared.host_files.HostFiles.{HostFiles}
use Rattle.jcuts.specs.Cuts.{Asked}
use Rattle.jstops.specs.Planned.{Forming, HeldPoint, IsDeclinedAs, forming_with, through_point}
use Rattle.jstops.specs.declared.planned.StopsPlan.{StopsPlan}
use Rattle.jdevice.specs.declared.running.DevicePlan.{DevicePlan}
use Rattle.jhalts.specs.InRow.{IsDeclinedIn, RowPoint, device_point, forming_on}
use Rattle.jreport.specs.declared.cause.Cause.{Cause}
use Rattle.jreport.specs.declared.faults.ProgramFault.{ProgramFault}
use Rattle.jreport.specs.declared.faults.ProgramFault.TheVariants as program
use Rattle.jedge.specs.Acts.{answers}
use Rattle.jedge.specs.Laws.{BlamesFailed, IsOfBytes, JudgesFirstBut, MakesNothing}
use Rattle.jedge.specs.declared.fault.Fault.{Fault}
use Rattle.jedge.specs.declared.fault.Fault.TheVariants as fault
use Rattle.jedge.proofs.BlamingLemmas.{Unnamed, loads_blames, mounts_as_blame, of_bytes, prints_blames, then_blames}
use Rattle.jedge.proofs.JudgingLemmas.{IsUnput, Silent, answers_silent, loads_silent, prints_first_but, then_first_but}
use Rattle.jedge.proofs.LookingLemmas.{answers_looks, loads_looks, prints_looks, reported_looks, then_looks}
use Rattle.jreads.specs.CutTexts.{LacksPlan, ReadsLines, StartsOn, cut_cause}
use Rattle.jreads.specs.Cutting.{loads_base}
use Rattle.jreads.specs.ReadLaws.{IsRefusedAtLine}
use Rattle.jreads.proofs.BlameLemmas.{loads_listed_blames, memory_blames}
use Rattle.jreads.proofs.JudgeLemmas.{loads_listed_silent}
use Rattle.jreads.proofs.LookLemmas.{loads_listed_looks}
use Rattle.jforetells.specs.ForetellLaws.{CutsThroughBlamesFailed, CutsThroughJudgedFirst, CutsThroughReadsOnly, CutsUpdateBlamesFailed, CutsUpdateJudgedFirst, CutsUpdateReadsOnly}
use Rattle.jforetells.specs.Foretelling.{TellsPlanned, device_foretold, flash_foretold, foretells_base, foretells_text, foretold_asked, plan_foretold}
use Rattle.jforetells.specs.ForetoldTexts.{StopsAtLineAs, TellsForms}
use Rattle.jforetells.specs.UpdateTexts.{StopsAtLineIn, TellsRowForms}
use Rattle.jforetells.specs.declared.plan.ForetoldPlan.{ForetoldPlan}
use Rattle.jforetells.specs.declared.plan.ForetoldPlan.TheVariants as plan

-- ---- it makes nothing

base_looks : (on : Option (List ℕ)) → MakesNothing (loads_base on)
base_looks None = answers_looks _
base_looks (Some name) = loads_looks name

foretells_looks : (e : Endian) (on : ForetoldPlan) (base : List ℕ) (asked : Asked) → MakesNothing (foretells_base e on base asked)
foretells_looks e on base asked = then_looks _ _ (answers_looks _) (λ _. then_looks _ _ (answers_looks _) (λ (m : Mount).
    then_looks _ _ (answers_looks _) (λ _. prints_looks _)))

text_looks : (e : Endian) (on : ForetoldPlan) (base text : List ℕ) → MakesNothing (foretells_text e on base text)
text_looks e on base text = then_looks _ _ (answers_looks _) (λ (lines : List Line).
    then_looks _ _ (loads_listed_looks lines) (λ (files : HostFiles). foretells_looks e on base (foretold_asked e on files lines)))

pub cuts_through_reads_only : CutsThroughReadsOnly
cuts_through_reads_only e c = reported_looks _ (then_looks _ _ (base_looks c.on) (λ (base : List ℕ).
    then_looks _ _ (loads_looks c.listing) (text_looks e (plan.Stops (plan_foretold c)) base)))

pub cuts_update_reads_only : CutsUpdateReadsOnly
cuts_update_reads_only e c = reported_looks _ (then_looks _ _ (loads_looks c.image) (λ (image : List ℕ).
    then_looks _ _ (loads_looks c.listing) (text_looks e (plan.Halts (device_foretold c image)) image)))

-- ---- it judges before it prints

base_silent : (on : Option (List ℕ)) → Silent (loads_base on)
base_silent None = answers_silent _
base_silent (Some name) = loads_silent name

at_line : (on : Forming) (asked : Asked) (from : HeldPoint) (flash : Flash) (image text : List ℕ) (why : ProgramFault) → StopsAtLineAs on asked from flash image text why → IsRefusedAtLine (fault.Refused why)
at_line on asked from flash image text why stops = (stops.declined, stops.line, cut_cause flash image stops.declined None, ap (λ (w : ProgramFault). fault.Refused w) stops.is)

tells_unput : (e : Endian) (on : StopsPlan) (image : List ℕ) (asked : Asked) (text : List ℕ) (f : Fault) → (IsRefusedAtLine f → ⊥) → TellsForms e on image asked text (Err f) → IsUnput f text
tells_unput e on image asked text (fault.File of) not is = absurd is
tells_unput e on image asked text (fault.NotRead of) not is = absurd is
tells_unput e on image asked text (fault.NoNodes of others) not is = absurd is
tells_unput e on image asked text (fault.NoSpace of) not is = absurd is
tells_unput e on image asked text (fault.Findings of count) not is = absurd is
tells_unput e on image asked text (fault.Refused why) not (inl is) = is.0
tells_unput e on image asked text (fault.Refused why) not (inr is) =
    absurd (not (at_line (forming_with e on.forms on.flash) asked (through_point e on.flash image) on.flash image text why is))
tells_unput e on image asked text fault.Output not is = tt
tells_unput e on image asked text fault.OutOfMemory not is = absurd is

at_row_line : (on : Forming) (asked : Asked) (from : RowPoint) (flash : Flash) (image text : List ℕ) (why : ProgramFault) → StopsAtLineIn on asked from flash image text why → IsRefusedAtLine (fault.Refused why)
at_row_line on asked from flash image text why stops = (stops.declined, stops.line, cut_cause flash image stops.declined None, ap (λ (w : ProgramFault). fault.Refused w) stops.is)

row_unput : (e : Endian) (on : DevicePlan) (image : List ℕ) (asked : Asked) (text : List ℕ) (f : Fault) → (IsRefusedAtLine f → ⊥) → TellsRowForms e on image asked text (Err f) → IsUnput f text
row_unput e on image asked text (fault.File of) not is = absurd is
row_unput e on image asked text (fault.NotRead of) not is = absurd is
row_unput e on image asked text (fault.NoNodes of others) not is = absurd is
row_unput e on image asked text (fault.NoSpace of) not is = absurd is
row_unput e on image asked text (fault.Findings of count) not is = absurd is
row_unput e on image asked text (fault.Refused why) not (inl is) = is.0
row_unput e on image asked text (fault.Refused why) not (inr is) = absurd (not (at_row_line (forming_on e on) asked (device_point e on image) on.flash image text why is))
row_unput e on image asked text fault.Output not is = tt
row_unput e on image asked text fault.OutOfMemory not is = absurd is

planned_unput : (e : Endian) (on : ForetoldPlan) (image : List ℕ) (asked : Asked) (text : List ℕ) (f : Fault) → (IsRefusedAtLine f → ⊥) → TellsPlanned e on image asked text (Err f) → IsUnput f text
planned_unput e (plan.Stops on) image asked text f not is = tells_unput e on image asked text f not is
planned_unput e (plan.Halts on) image asked text f not is = row_unput e on image asked text f not is

foretells_first : (e : Endian) (on : ForetoldPlan) (base : List ℕ) (asked : Asked) → JudgesFirstBut IsRefusedAtLine (foretells_base e on base asked)
foretells_first e on base asked = then_first_but _ _ _ (answers_silent _) (λ _. then_first_but _ _ _ (answers_silent _) (λ (m : Mount).
    then_first_but _ _ _ (answers_silent _) (λ _. prints_first_but _ _ (planned_unput e on m.image asked))))

text_first : (e : Endian) (on : ForetoldPlan) (base text : List ℕ) → JudgesFirstBut IsRefusedAtLine (foretells_text e on base text)
text_first e on base text = then_first_but _ _ _ (answers_silent _) (λ (lines : List Line).
    then_first_but _ _ _ (loads_listed_silent lines) (λ (files : HostFiles). foretells_first e on base (foretold_asked e on files lines)))

pub cuts_through_judged_first : CutsThroughJudgedFirst
cuts_through_judged_first e c = then_first_but _ _ _ (base_silent c.on) (λ (base : List ℕ).
    then_first_but _ _ _ (loads_silent c.listing) (text_first e (plan.Stops (plan_foretold c)) base))

pub cuts_update_judged_first : CutsUpdateJudgedFirst
cuts_update_judged_first e c = then_first_but _ _ _ (loads_silent c.image) (λ (image : List ℕ).
    then_first_but _ _ _ (loads_silent c.listing) (text_first e (plan.Halts (device_foretold c image)) image))

-- ---- a fault is an event

lines_blame : (text : List ℕ) → BlamesFailed (answers (ReadsLines text))
lines_blame text events (fault.File of) is = absurd is.1
lines_blame text events (fault.NotRead of) is = absurd is.1
lines_blame text events (fault.NoNodes of others) is = absurd is.1
lines_blame text events (fault.NoSpace of) is = absurd is.1
lines_blame text events (fault.Findings of count) is = absurd is.1
lines_blame text events (fault.Refused why) is = of_bytes why is.1.1 tt
lines_blame text events fault.Output is = absurd is.1
lines_blame text events fault.OutOfMemory is = tt

base_blames : (on : Option (List ℕ)) → BlamesFailed (loads_base on)
base_blames None events f is = let no : ⊥ = cc in absurd no
base_blames (Some name) events f is = loads_blames name events f is

-- writing is not begun for want of a sink
never_sink : (b c : Bool) (at : ℕ) → (if b then Err session.ReadOnly else (if c then Ok at else Err session.Geometry)) ≡ Err session.Sink → ⊥
never_sink true c at is = cc
never_sink false true at is = cc
never_sink false false at is = cc

session_of : (f : SessionFault) (line : Option ℕ) (cause : Cause) → (f ≡ session.Sink → ⊥) → IsOfBytes (program.Session f line cause)
session_of (session.Refused why) line cause not = tt
session_of (session.Full needed free) line cause not = tt
session_of session.ReadOnly line cause not = tt
session_of session.Sink line cause not = absurd (not refl)
session_of session.OutOfMemory line cause not = tt
session_of session.Broken line cause not = tt
session_of session.Geometry line cause not = tt

resumed_of : (e : Endian) (flash : Flash) (m : Mount) (f : SessionFault) → resumes e flash m ≡ Err f → f ≡ session.Sink → ⊥
resumed_of e flash m f is sink =
    never_sink m.read_only (is_flash_of flash.geometry.block flash.blocks m.image && page_fits flash.geometry.block flash.page) (resume_address e flash.geometry.block flash.blocks m.image)
    (is ∙ ap (λ (g : SessionFault). Err g) sink)

starts_blame : (e : Endian) (flash : Flash) (m : Mount) → BlamesFailed (answers (StartsOn {A = Unit {0}} e flash m))
starts_blame e flash m events (fault.File of) is = absurd is.1
starts_blame e flash m events (fault.NotRead of) is = absurd is.1
starts_blame e flash m events (fault.NoNodes of others) is = absurd is.1
starts_blame e flash m events (fault.NoSpace of) is = absurd is.1
starts_blame e flash m events (fault.Findings of count) is = absurd is.1
starts_blame e flash m events (fault.Refused why) is =
    of_bytes why is.1.2 (session_of is.1.0 None (cut_cause flash m.image is.1.0 None) (resumed_of e flash m is.1.0 is.1.1))
starts_blame e flash m events fault.Output is = absurd is.1
starts_blame e flash m events fault.OutOfMemory is = absurd is.1

declined_of : (on : Forming) (from : HeldPoint) (o : Op) (f : SessionFault) → IsDeclinedAs on from o f → f ≡ session.Sink → ⊥
declined_of on from o f is sink = absurd (subst (λ (g : SessionFault). IsDeclinedAs on from o g) sink is)

unplanned_of : (flash : Flash) (image text : List ℕ) (why : ProgramFault) → LacksPlan flash image text why → IsOfBytes why
unplanned_of flash image text why is = of_bytes why is.1 tt

stopped_of : (on : Forming) (asked : Asked) (from : HeldPoint) (flash : Flash) (image text : List ℕ) (why : ProgramFault) → StopsAtLineAs on asked from flash image text why → IsOfBytes why
stopped_of on asked from flash image text why stops =
    of_bytes why stops.is (session_of stops.declined (Some stops.line) (cut_cause flash image stops.declined None) (declined_of on stops.next.at stops.next.next stops.declined stops.next.declines))

tells_unnamed : (e : Endian) (on : StopsPlan) (image : List ℕ) (asked : Asked) → Unnamed (TellsForms e on image asked)
tells_unnamed e on image asked text (fault.File of) is = absurd is
tells_unnamed e on image asked text (fault.NotRead of) is = absurd is
tells_unnamed e on image asked text (fault.NoNodes of others) is = absurd is
tells_unnamed e on image asked text (fault.NoSpace of) is = absurd is
tells_unnamed e on image asked text (fault.Findings of count) is = absurd is
tells_unnamed e on image asked text (fault.Refused why) (inl is) = unplanned_of on.flash image text why is
tells_unnamed e on image asked text (fault.Refused why) (inr is) = stopped_of (forming_with e on.forms on.flash) asked (through_point e on.flash image) on.flash image text why is
tells_unnamed e on image asked text fault.Output is = tt
tells_unnamed e on image asked text fault.OutOfMemory is = absurd is

row_declined_of : (on : Forming) (from : RowPoint) (o : Op) (f : SessionFault) → IsDeclinedIn on from o f → f ≡ session.Sink → ⊥
row_declined_of on from o f is sink = absurd (subst (λ (g : SessionFault). IsDeclinedIn on from o g) sink is)

row_stopped_of : (on : Forming) (asked : Asked) (from : RowPoint) (flash : Flash) (image text : List ℕ) (why : ProgramFault) → StopsAtLineIn on asked from flash image text why → IsOfBytes why
row_stopped_of on asked from flash image text why stops =
    of_bytes why stops.is (session_of stops.declined (Some stops.line) (cut_cause flash image stops.declined None) (row_declined_of on stops.next.at stops.next.next stops.declined stops.next.declines))

row_unnamed : (e : Endian) (on : DevicePlan) (image : List ℕ) (asked : Asked) → Unnamed (TellsRowForms e on image asked)
row_unnamed e on image asked text (fault.File of) is = absurd is
row_unnamed e on image asked text (fault.NotRead of) is = absurd is
row_unnamed e on image asked text (fault.NoNodes of others) is = absurd is
row_unnamed e on image asked text (fault.NoSpace of) is = absurd is
row_unnamed e on image asked text (fault.Findings of count) is = absurd is
row_unnamed e on image asked text (fault.Refused why) (inl is) = unplanned_of on.flash image text why is
row_unnamed e on image asked text (fault.Refused why) (inr is) = row_stopped_of (forming_on e on) asked (device_point e on image) on.flash image text why is
row_unnamed e on image asked text fault.Output is = tt
row_unnamed e on image asked text fault.OutOfMemory is = absurd is

planned_unnamed : (e : Endian) (on : ForetoldPlan) (image : List ℕ) (asked : Asked) → Unnamed (TellsPlanned e on image asked)
planned_unnamed e (plan.Stops on) image asked = tells_unnamed e on image asked
planned_unnamed e (plan.Halts on) image asked = row_unnamed e on image asked

foretells_blames : (e : Endian) (on : ForetoldPlan) (base : List ℕ) (asked : Asked) → BlamesFailed (foretells_base e on base asked)
foretells_blames e on base asked = then_blames _ _ memory_blames (λ _. then_blames _ _ (mounts_as_blame true e (flash_foretold on).geometry.block base) (λ (m : Mount).
    then_blames _ _ (starts_blame e (flash_foretold on) m) (λ _. prints_blames _ (planned_unnamed e on m.image asked))))

text_blames : (e : Endian) (on : ForetoldPlan) (base text : List ℕ) → BlamesFailed (foretells_text e on base text)
text_blames e on base text = then_blames _ _ (lines_blame text) (λ (lines : List Line).
    then_blames _ _ (loads_listed_blames lines) (λ (files : HostFiles). foretells_blames e on base (foretold_asked e on files lines)))

pub cuts_through_blames_failed : CutsThroughBlamesFailed
cuts_through_blames_failed e c = then_blames _ _ (base_blames c.on) (λ (base : List ℕ).
    then_blames _ _ (loads_blames c.listing) (text_blames e (plan.Stops (plan_foretold c)) base))

pub cuts_update_blames_failed : CutsUpdateBlamesFailed
cuts_update_blames_failed e c = then_blames _ _ (loads_blames c.image) (λ (image : List ℕ).
    then_blames _ _ (loads_blames c.listing) (text_blames e (plan.Halts (device_foretold c image)) image))
