-- A fault of `cuts` is an event.
use Rattle.std.proofs.Common.{◌≡◌, ◌∙◌, ℕ, List, [], ◌∷◌, Option, None, Some, Bool, true, false, Result, Ok, Err, subst, inl, inr, ap, refl}
use Rattle.std.specs.Prelude.{◌&&◌, if◌then◌else◌, is_some}
use Rattle.jnode.specs.declared.order.Endian.{Endian}
use Rattle.jmount.specs.Mount.{Mount}
use Rattle.jlisting.specs.declared.line.Line.{Line}
use Rattle.jlog.specs.Headline.{is_flash_of, resume_address}
use Rattle.jlog.specs.Resuming.{page_fits, resumes}
use Rattle.jlog.specs.declared.fault.SessionFault.{SessionFault}
use Rattle.jlog.specs.declared.fault.SessionFault.TheVariants as session
use Rattle.jlog.specs.declared.start.Flash.{Flash}
use Rattle.jbuild.specs.HostFiles.{read_of}
use Rattle.jbuild.specs.declared.host_files.HostFiles.{HostFiles}
use Rattle.jcuts.specs.Cuts.{Asked, IsDeclined, Point}
use Rattle.jsteps.specs.declared.op.Op.{Op}
use Rattle.jreport.specs.declared.cause.Cause.{Cause}
use Rattle.jreport.specs.declared.faults.ProgramFault.{ProgramFault}
use Rattle.jreport.specs.declared.faults.ProgramFault.TheVariants as program
use Rattle.jedge.specs.Acts.{Act, answers}
use Rattle.jedge.specs.Laws.{BlamesFailed, IsOfBytes}
use Rattle.jedge.specs.declared.fault.Fault.{Fault}
use Rattle.jedge.specs.declared.fault.Fault.TheVariants as fault
use Rattle.jedge.proofs.BlamingLemmas.{Unnamed, loads_blames, mounts_blame, of_bytes, opens_blames, prints_blames, reads_blames, then_blames}
use Rattle.jreads.specs.CutTexts.{HasMemory, LacksPlan, ReadsLines, StartsOn, StopsAtLine, TellsCuts, blocks_known, cut_cause, cuts_asked}
use Rattle.jreads.specs.Cutting.{cuts_base, loads_base}
use Rattle.jreads.specs.Named.{CountsMeasured, KeepsFile, Measured, NoneRead, each, files_named, loads_if, loads_listed, loads_named, loads_one, measures, measures_if, measures_one, was_measured}
use Rattle.jreads.specs.ReadLaws.{CutsBlameFailed}

measures_blame : (name : List ℕ) → BlamesFailed (measures name)
measures_blame name events f is = let no : ⊥ = cc in absurd no

same_blames : {S : Type 0} (s : S) → BlamesFailed (answers (λ (result : Result S Fault). result ≡ Ok s))
same_blames s events f is = let no : ⊥ = cc in absurd no

each_blames : {S : Type 0} (one : List ℕ → S → Act S) → ((name : List ℕ) (s : S) → BlamesFailed (one name s)) → (names : List (List ℕ)) (s : S) → BlamesFailed (each one names s)
each_blames one blames [] s = same_blames s
each_blames one blames (name ∷ names) s = then_blames (one name s) _ (blames name s) (λ t. each_blames one blames names t)

counts_blame : (files : List Measured) (file : Measured) → BlamesFailed (answers (CountsMeasured files file))
counts_blame files file events (fault.File of) is = absurd is.1
counts_blame files file events (fault.NotRead of) is = absurd is.1
counts_blame files file events (fault.NoNodes of others) is = absurd is.1
counts_blame files file events (fault.NoSpace of) is = absurd is.1
counts_blame files file events (fault.Findings of count) is = absurd is.1
counts_blame files file events (fault.Refused why) is = of_bytes why is.1.0 tt
counts_blame files file events fault.Output is = absurd is.1
counts_blame files file events fault.OutOfMemory is = tt

keeps_blame : (name bytes : List ℕ) (files : HostFiles) → BlamesFailed (answers (KeepsFile name bytes files))
keeps_blame name bytes files events (fault.File of) is = absurd is.1
keeps_blame name bytes files events (fault.NotRead of) is = absurd is.1
keeps_blame name bytes files events (fault.NoNodes of others) is = absurd is.1
keeps_blame name bytes files events (fault.NoSpace of) is = absurd is.1
keeps_blame name bytes files events (fault.Findings of count) is = absurd is.1
keeps_blame name bytes files events (fault.Refused why) is = of_bytes why is.1 tt
keeps_blame name bytes files events fault.Output is = absurd is.1
keeps_blame name bytes files events fault.OutOfMemory is = absurd is.1

measures_if_blames : (b : Bool) (name : List ℕ) (files : List Measured) → BlamesFailed (measures_if b name files)
measures_if_blames true name files = same_blames files
measures_if_blames false name files = then_blames (measures name) _ (measures_blame name) (λ n. counts_blame files (record { name = name; bytes = n }))

loads_if_blames : (b : Bool) (name : List ℕ) (files : HostFiles) → BlamesFailed (loads_if b name files)
loads_if_blames true name files = same_blames files
loads_if_blames false name files = then_blames _ _ (opens_blames name) (λ (opened : List ℕ). then_blames _ _ (reads_blames opened) (λ (bytes : List ℕ). keeps_blame opened bytes files))

pub loads_named_blames : (lines : List Line) (files : HostFiles) → BlamesFailed (loads_named lines files)
loads_named_blames lines files = then_blames _ _
    (each_blames measures_one (λ name counted. measures_if_blames (was_measured name counted) name counted) (files_named lines) [])
    (λ _. each_blames loads_one (λ name kept. loads_if_blames (is_some (read_of kept name)) name kept) (files_named lines) files)

none_blames : BlamesFailed (answers NoneRead)
none_blames events f is = let no : ⊥ = cc in absurd no

pub loads_listed_blames : (lines : List Line) → BlamesFailed (loads_listed lines)
loads_listed_blames lines = then_blames _ _ none_blames (loads_named_blames lines)

lines_blame : (text : List ℕ) → BlamesFailed (answers (ReadsLines text))
lines_blame text events (fault.File of) is = absurd is.1
lines_blame text events (fault.NotRead of) is = absurd is.1
lines_blame text events (fault.NoNodes of others) is = absurd is.1
lines_blame text events (fault.NoSpace of) is = absurd is.1
lines_blame text events (fault.Findings of count) is = absurd is.1
lines_blame text events (fault.Refused why) is = of_bytes why is.1.1 tt
lines_blame text events fault.Output is = absurd is.1
lines_blame text events fault.OutOfMemory is = tt

pub memory_blames : BlamesFailed (answers (HasMemory {A = Unit {0}}))
memory_blames events (fault.File of) is = absurd is.1
memory_blames events (fault.NotRead of) is = absurd is.1
memory_blames events (fault.NoNodes of others) is = absurd is.1
memory_blames events (fault.NoSpace of) is = absurd is.1
memory_blames events (fault.Findings of count) is = absurd is.1
memory_blames events (fault.Refused why) is = absurd is.1
memory_blames events fault.Output is = absurd is.1
memory_blames events fault.OutOfMemory is = tt

-- ---- sessions

-- writing is not begun for want of a sink
never_sink : (b c : Bool) (at : ℕ) → (if b then Err session.ReadOnly else (if c then Ok at else Err session.Geometry)) ≡ Err session.Sink → ⊥
never_sink true c at is = cc
never_sink false true at is = cc
never_sink false false at is = cc

session_of : (f : SessionFault) (line : Option ℕ) (cause : Cause) → (f ≡ session.Sink → ⊥) → IsOfBytes (program.Session f line cause)
session_of (session.Refused why) line cause not = tt
session_of (session.Full needed free) line cause not = tt
session_of session.ReadOnly line cause not = tt
session_of session.Sink line cause not = absurd (not refl)
session_of session.OutOfMemory line cause not = tt
session_of session.Broken line cause not = tt
session_of session.Geometry line cause not = tt

resumed_of : (e : Endian) (flash : Flash) (m : Mount) (f : SessionFault) → resumes e flash m ≡ Err f → f ≡ session.Sink → ⊥
resumed_of e flash m f is sink =
    never_sink m.read_only (is_flash_of flash.geometry.block flash.blocks m.image && page_fits flash.geometry.block flash.page) (resume_address e flash.geometry.block flash.blocks m.image)
    (is ∙ ap (λ (g : SessionFault). Err g) sink)

starts_blame : (e : Endian) (flash : Flash) (m : Mount) → BlamesFailed (answers (StartsOn {A = Unit {0}} e flash m))
starts_blame e flash m events (fault.File of) is = absurd is.1
starts_blame e flash m events (fault.NotRead of) is = absurd is.1
starts_blame e flash m events (fault.NoNodes of others) is = absurd is.1
starts_blame e flash m events (fault.NoSpace of) is = absurd is.1
starts_blame e flash m events (fault.Findings of count) is = absurd is.1
starts_blame e flash m events (fault.Refused why) is =
    of_bytes why is.1.2 (session_of is.1.0 None (cut_cause flash m.image is.1.0 None) (resumed_of e flash m is.1.0 is.1.1))
starts_blame e flash m events fault.Output is = absurd is.1
starts_blame e flash m events fault.OutOfMemory is = absurd is.1

declined_of : (e : Endian) (flash : Flash) (from : Point) (o : Op) (f : SessionFault) → IsDeclined e flash from o f → f ≡ session.Sink → ⊥
declined_of e flash from o f is sink = absurd (subst (λ (g : SessionFault). IsDeclined e flash from o g) sink is)

unplanned_of : (flash : Flash) (image text : List ℕ) (why : ProgramFault) → LacksPlan flash image text why → IsOfBytes why
unplanned_of flash image text why is = of_bytes why is.1 tt

stopped_of : (e : Endian) (flash : Flash) (image : List ℕ) (asked : Asked) (text : List ℕ) (why : ProgramFault) → StopsAtLine e flash image asked text why → IsOfBytes why
stopped_of e flash image asked text why stops =
    of_bytes why stops.is (session_of stops.declined (Some stops.line) (cut_cause flash image stops.declined (blocks_known stops.blocks))
    (declined_of e flash stops.next.at stops.next.next stops.declined stops.next.declines))

tells_unnamed : (e : Endian) (flash : Flash) (image : List ℕ) (asked : Asked) → Unnamed (TellsCuts e flash image asked)
tells_unnamed e flash image asked text (fault.File of) is = absurd is
tells_unnamed e flash image asked text (fault.NotRead of) is = absurd is
tells_unnamed e flash image asked text (fault.NoNodes of others) is = absurd is
tells_unnamed e flash image asked text (fault.NoSpace of) is = absurd is
tells_unnamed e flash image asked text (fault.Findings of count) is = absurd is
tells_unnamed e flash image asked text (fault.Refused why) (inl is) = unplanned_of flash image text why is
tells_unnamed e flash image asked text (fault.Refused why) (inr is) = stopped_of e flash image asked text why is
tells_unnamed e flash image asked text fault.Output is = tt
tells_unnamed e flash image asked text fault.OutOfMemory is = absurd is

base_blames : (on : Option (List ℕ)) → BlamesFailed (loads_base on)
base_blames None = same_blames []
base_blames (Some name) = loads_blames name

cuts_base_blames : (e : Endian) (flash : Flash) (base : List ℕ) (asked : Asked) → BlamesFailed (cuts_base e flash base asked)
cuts_base_blames e flash base asked = then_blames _ _ memory_blames (λ _. then_blames _ _ (mounts_blame e flash.geometry.block base) (λ (m : Mount).
    then_blames _ _ (starts_blame e flash m) (λ _. prints_blames _ (tells_unnamed e flash m.image asked))))

pub cuts_blame_failed : CutsBlameFailed
cuts_blame_failed options blocks page on listing = then_blames _ _ (base_blames on) (λ (base : List ℕ).
    then_blames _ _ (loads_blames listing) (λ (text : List ℕ). then_blames _ _ (lines_blame text) (λ (lines : List Line).
    then_blames _ _ (loads_listed_blames lines) (λ (files : HostFiles). cuts_base_blames options.endian _ base (cuts_asked options.endian files lines)))))
