-- A folder that is read stays as it is, and nothing is printed before it was read.
use Rattle.std.proofs.Common.{ℕ, Bool, List, [], ◌∷◌, Option, None, Some, inl, inr}
use Rattle.jfolder.specs.Known.{Known}
use Rattle.jfolder.specs.declared.fault.ReadFault.{ReadFault}
use Rattle.jfolder.specs.declared.fault.ReadFault.TheVariants as read
use Rattle.jfolder.specs.declared.found.Options.{Options}
use Rattle.jfolder.specs.declared.reading.FolderTree.{FolderTree}
use Rattle.jreport.specs.declared.reason.Reason.{Reason}
use Rattle.jedge.specs.Calls.{Event, Errors, Failed, Print, printed}
use Rattle.jedge.specs.Acts.{IsPrintedInPart}
use Rattle.jedge.specs.Laws.{LooksOnly, MakesNothing, NonePrinted}
use Rattle.jedge.proofs.JudgingLemmas.{Silent}
use Rattle.jedge.proofs.JudgingLemmas as judging
use Rattle.jedge.proofs.LookingLemmas as looking
use Rattle.jfolders.specs.Filling.{stop_of, closes_notes}
use Rattle.jfolders.specs.Keeping.{closes_whole, keeps_through}
use Rattle.jfolders.specs.Laws.{ListingJudgedFirst, ReadingMakesNothing}
use Rattle.jfolders.specs.Reading.{asks_to_read, closes_read, looked_through, looks_through, reads_tree}
use Rattle.jfolders.specs.declared.host.Closed.{Closed}

-- ---- nothing is made

asks_looks : (name : List ℕ) (quiet : Bool) → MakesNothing (asks_to_read name quiet)
asks_looks name quiet events r (inl w) = looking.same w.2 (tt, tt)
asks_looks name quiet events r (inr w) = looking.same w.1 tt

through_looks : (name : List ℕ) (why : Option ReadFault) (reason : Reason) → LooksOnly (looked_through name why reason)
through_looks name None reason = (tt, tt)
through_looks name (Some (read.Folder of)) reason = (tt, tt)
through_looks name (Some read.Notes) reason = tt
through_looks name (Some read.OutOfMemory) reason = tt

read_looks : (name : List ℕ) (why : Option ReadFault) → MakesNothing (closes_read name why)
read_looks name why events r is = looking.same is.1 (through_looks name why is.0)

whole_looks : (name : List ℕ) (why : Option ReadFault) → MakesNothing (closes_whole name why)
whole_looks name why events r is = looking.same is.4 (tt, through_looks name why is.0.reason)

notes_looks : (lost : ℕ) (text : List ℕ) → MakesNothing (closes_notes lost text)
notes_looks lost text events r is = elim is.1 [
  | inl w ↦ looking.same w.1 (looking.printed_looks Errors text)
  | inr cut ↦ looking.cut_looks Errors text events cut
]

looks_looks : (name : List ℕ) (options : Options) (known : Known) → MakesNothing (looks_through name options known)
looks_looks name options known events r did =
    looking.then_looks _ _ (read_looks name (stop_of did.answer)) (λ (reason : Reason). looking.then_looks _ _ (notes_looks did.lost did.text) (λ _. looking.answers_looks _)) events r did.ends

keeps_looks : (name : List ℕ) (options : Options) (known : Known) → MakesNothing (keeps_through name options known)
keeps_looks name options known events r did =
    looking.then_looks _ _ (whole_looks name (stop_of did.answer)) (λ (closed : Closed). looking.then_looks _ _ (notes_looks did.lost did.text) (λ _. looking.answers_looks _)) events r did.ends

reads_looks : (name : List ℕ) (quiet : Bool) (options : Options) → MakesNothing (reads_tree name quiet options)
reads_looks name quiet options = looking.then_looks _ _ (asks_looks name quiet) (λ (known : Known). looks_looks name options known)

pub reading_makes_nothing : ReadingMakesNothing
reading_makes_nothing options quiet name = (
  looking.reported_looks _ (looking.then_looks _ _ (reads_looks name quiet options) (λ (tree : FolderTree). looking.prints_looks _)),
  looking.then_looks _ _ (asks_looks name quiet) (λ (known : Known). keeps_looks name options known),
)

-- ---- nothing is printed on standard output

asks_silent : (name : List ℕ) (quiet : Bool) → Silent (asks_to_read name quiet)
asks_silent name quiet events r (inl w) = judging.same w.2 (tt, tt)
asks_silent name quiet events r (inr w) = judging.same w.1 tt

through_silent : (name : List ℕ) (why : Option ReadFault) (reason : Reason) → NonePrinted (looked_through name why reason)
through_silent name None reason = (tt, tt)
through_silent name (Some (read.Folder of)) reason = tt
through_silent name (Some read.Notes) reason = tt
through_silent name (Some read.OutOfMemory) reason = tt

read_silent : (name : List ℕ) (why : Option ReadFault) → Silent (closes_read name why)
read_silent name why events r is = judging.same is.1 (through_silent name why is.0)

said_silent : (text : List ℕ) → NonePrinted (printed Errors text)
said_silent [] = tt
said_silent (b ∷ bytes) = (tt, tt)

cut_silent : (text : List ℕ) (events : List Event) → IsPrintedInPart Errors text events → NonePrinted events
cut_silent text events cut = judging.same cut.happened (judging.both (printed Errors cut.begun) (Failed (Print Errors cut.rest) cut.reason ∷ []) (said_silent cut.begun) tt)

notes_silent : (lost : ℕ) (text : List ℕ) → Silent (closes_notes lost text)
notes_silent lost text events r is = elim is.1 [
  | inl w ↦ judging.same w.1 (said_silent text)
  | inr cut ↦ cut_silent text events cut
]

looks_silent : (name : List ℕ) (options : Options) (known : Known) → Silent (looks_through name options known)
looks_silent name options known events r did =
    judging.then_silent _ _ (read_silent name (stop_of did.answer)) (λ (reason : Reason). judging.then_silent _ _ (notes_silent did.lost did.text) (λ _. judging.answers_silent _)) events r did.ends

reads_silent : (name : List ℕ) (quiet : Bool) (options : Options) → Silent (reads_tree name quiet options)
reads_silent name quiet options = judging.then_silent _ _ (asks_silent name quiet) (λ (known : Known). looks_silent name options known)

pub listing_judged_first : ListingJudgedFirst
listing_judged_first options quiet name = judging.then_first _ _ (reads_silent name quiet options) (λ (tree : FolderTree). judging.whole_first _ _)
