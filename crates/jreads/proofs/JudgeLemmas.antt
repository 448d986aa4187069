-- What `cuts` refuses it refuses before anything is printed, but the operation of a line.
use Rattle.std.proofs.Common.{ℕ, List, [], ◌∷◌, Option, None, Some, Bool, true, false, Err, ap, inl, inr}
use Rattle.std.specs.Prelude.{is_some}
use Rattle.jnode.specs.declared.order.Endian.{Endian}
use Rattle.jmount.specs.Mount.{Mount}
use Rattle.jlisting.specs.declared.line.Line.{Line}
use Rattle.jlog.specs.declared.start.Flash.{Flash}
use Rattle.jbuild.specs.HostFiles.{read_of}
use Rattle.jbuild.specs.declared.host_files.HostFiles.{HostFiles}
use Rattle.jcuts.specs.Cuts.{Asked}
use Rattle.jreport.specs.declared.faults.ProgramFault.{ProgramFault}
use Rattle.jedge.specs.Acts.{Act}
use Rattle.jedge.specs.Laws.{JudgesFirstBut}
use Rattle.jedge.specs.declared.fault.Fault.{Fault}
use Rattle.jedge.specs.declared.fault.Fault.TheVariants as fault
use Rattle.jedge.proofs.JudgingLemmas.{IsUnput, Silent, answers_silent, loads_silent, opens_silent, prints_first_but, reads_silent, same, then_first_but, then_silent}
use Rattle.jreads.specs.CutTexts.{StopsAtLine, TellsCuts, blocks_known, cut_cause, cuts_asked}
use Rattle.jreads.specs.Cutting.{cuts_base, loads_base}
use Rattle.jreads.specs.Named.{Measured, each, files_named, loads_if, loads_listed, loads_named, loads_one, measures, measures_if, measures_one, was_measured}
use Rattle.jreads.specs.ReadLaws.{CutsJudgedFirst, IsRefusedAtLine}

measures_silent : (name : List ℕ) → Silent (measures name)
measures_silent name events r is = same is.2 (tt, tt)

each_silent : {S : Type 0} (one : List ℕ → S → Act S) → ((name : List ℕ) (s : S) → Silent (one name s)) → (names : List (List ℕ)) (s : S) → Silent (each one names s)
each_silent one silent [] s = answers_silent _
each_silent one silent (name ∷ names) s = then_silent (one name s) _ (silent name s) (λ t. each_silent one silent names t)

measures_if_silent : (b : Bool) (name : List ℕ) (files : List Measured) → Silent (measures_if b name files)
measures_if_silent true name files = answers_silent _
measures_if_silent false name files = then_silent (measures name) _ (measures_silent name) (λ n. answers_silent _)

loads_if_silent : (b : Bool) (name : List ℕ) (files : HostFiles) → Silent (loads_if b name files)
loads_if_silent true name files = answers_silent _
loads_if_silent false name files = then_silent _ _ (opens_silent name) (λ (opened : List ℕ). then_silent _ _ (reads_silent opened) (λ bytes. answers_silent _))

pub loads_named_silent : (lines : List Line) (files : HostFiles) → Silent (loads_named lines files)
loads_named_silent lines files = then_silent _ _
    (each_silent measures_one (λ name counted. measures_if_silent (was_measured name counted) name counted) (files_named lines) [])
    (λ _. each_silent loads_one (λ name kept. loads_if_silent (is_some (read_of kept name)) name kept) (files_named lines) files)

pub loads_listed_silent : (lines : List Line) → Silent (loads_listed lines)
loads_listed_silent lines = then_silent _ _ (answers_silent _) (loads_named_silent lines)

base_silent : (on : Option (List ℕ)) → Silent (loads_base on)
base_silent None = answers_silent _
base_silent (Some name) = loads_silent name

at_line : (e : Endian) (flash : Flash) (image : List ℕ) (asked : Asked) (text : List ℕ) (why : ProgramFault) → StopsAtLine e flash image asked text why → IsRefusedAtLine (fault.Refused why)
at_line e flash image asked text why stops = (
  stops.declined,
  stops.line,
  cut_cause flash image stops.declined (blocks_known stops.blocks),
  ap (λ (w : ProgramFault). fault.Refused w) stops.is,
)

tells_unput : (e : Endian) (flash : Flash) (image : List ℕ) (asked : Asked) (text : List ℕ) (f : Fault) → (IsRefusedAtLine f → ⊥) → TellsCuts e flash image asked text (Err f) → IsUnput f text
tells_unput e flash image asked text (fault.File of) not is = absurd is
tells_unput e flash image asked text (fault.NotRead of) not is = absurd is
tells_unput e flash image asked text (fault.NoNodes of others) not is = absurd is
tells_unput e flash image asked text (fault.NoSpace of) not is = absurd is
tells_unput e flash image asked text (fault.Findings of count) not is = absurd is
tells_unput e flash image asked text (fault.Refused why) not (inl is) = is.0
tells_unput e flash image asked text (fault.Refused why) not (inr is) = absurd (not (at_line e flash image asked text why is))
tells_unput e flash image asked text fault.Output not is = tt
tells_unput e flash image asked text fault.OutOfMemory not is = absurd is

cuts_base_first : (e : Endian) (flash : Flash) (base : List ℕ) (asked : Asked) → JudgesFirstBut IsRefusedAtLine (cuts_base e flash base asked)
cuts_base_first e flash base asked = then_first_but _ _ _ (answers_silent _) (λ _. then_first_but _ _ _ (answers_silent _) (λ (m : Mount).
    then_first_but _ _ _ (answers_silent _) (λ _. prints_first_but _ _ (tells_unput e flash m.image asked))))

pub cuts_judged_first : CutsJudgedFirst
cuts_judged_first options blocks page on listing = then_first_but _ _ _ (base_silent on) (λ (base : List ℕ).
    then_first_but _ _ _ (loads_silent listing) (λ (text : List ℕ). then_first_but _ _ _ (answers_silent _) (λ (lines : List Line).
    then_first_but _ _ _ (loads_listed_silent lines) (λ (files : HostFiles). cuts_base_first options.endian _ base (cuts_asked options.endian files lines)))))
