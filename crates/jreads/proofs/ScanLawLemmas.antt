-- What is true of the act of `check --scan`.
use Rattle.std.proofs.Common.{◌≡◌, ◌++◌, ◌∙◌, ℕ, List, [], ◌∷◌, Err, ap, inl, inr, subst, sym}
use Rattle.std.specs.Prelude.{Result, string_bytes}
use Rattle.jnode.specs.declared.order.Endian.{Endian}
use Rattle.jedge.specs.Acts.{Saying, Then, Ends, GoesOn, and_closed, prints_put}
use Rattle.jedge.specs.Calls.{Event, Failed, ReadPart}
use Rattle.jedge.specs.Laws.{BlamesEvent, BlamesFailed, Happened, JudgesFirstBut, LooksOnly, MakesNothing, NonePrinted}
use Rattle.jedge.specs.Told.{Told}
use Rattle.jedge.specs.declared.fault.FailedFile.{FailedFile}
use Rattle.jedge.specs.declared.fault.Fault.{Fault}
use Rattle.jedge.specs.declared.fault.Fault.TheVariants as fault
use Rattle.jreport.specs.declared.faults.ProgramFault.{ProgramFault}
use Rattle.jreport.specs.declared.faults.ProgramFault.TheVariants as program
use Rattle.flashbase.specs.declared.source.LoadFault.TheVariants as load
use Rattle.jedge.proofs.BlamingLemmas as blaming
use Rattle.jedge.proofs.BlamingLemmas.{Unnamed, before_more, blames_after, of_bytes, opens_blames, put_blames, size_blames, then_blames}
use Rattle.jedge.proofs.LookingLemmas as looking
use Rattle.jedge.proofs.LookingLemmas.{answers_looks, opens_looks, prints_looks, reported_looks, then_looks}
use Rattle.jedge.proofs.JudgingLemmas as judging
use Rattle.jedge.proofs.JudgingLemmas.{IsUnput, Silent, answers_silent, opens_silent, prints_first_but, then_first_but}
use Rattle.jreads.specs.ReadLaws.{IsOfStream, ScanBlamesFailed, ScanJudgedFirst, ScanReadsOnly}
use Rattle.jreads.specs.Scanning.{GetsTo, NotBegun, Progress, ReportsScan, UpTo, UpToFailure, read_up_to, reads_stream, scans_open}
use Rattle.jreads.proofs.BlameLemmas.{memory_blames}

-- ---- nothing is made

read_looks : (name read left : List ℕ) → LooksOnly (read_up_to name read left)
read_looks name read [] = (tt, tt)
read_looks name read (b ∷ left) = (tt, tt)

gets_looks : (name : List ℕ) (progress : Progress) (events : List Event) → GetsTo name progress events → LooksOnly events
gets_looks name NotBegun events is = looking.same is tt
gets_looks name (UpTo read left) events is = looking.same is (read_looks name read left)
gets_looks name (UpToFailure read file) events is = looking.same is.1 (tt, tt)

stream_looks : (name : List ℕ) → MakesNothing (reads_stream name)
stream_looks name events r is = gets_looks name is.0 events is.2

put_looks : (Says : Saying Told) → MakesNothing (prints_put Says)
put_looks Says events r is = prints_looks Says events r (inl is)

open_looks : (e : Endian) (size : ℕ) (name : List ℕ) → MakesNothing (scans_open e size name)
open_looks e size name = then_looks _ _ (answers_looks _) (λ _. then_looks _ _ (stream_looks name) (λ (progress : Progress). put_looks (ReportsScan e size progress)))

pub scan_reads_only : ScanReadsOnly
scan_reads_only options image = reported_looks _ (then_looks _ _ (opens_looks image) (λ (opened : List ℕ).
    then_looks _ _ (answers_looks _) (λ _. open_looks options.endian options.geometry.block opened)))

-- ---- a fault is an event

read_unnamed : (e : Endian) (size : ℕ) (read left : List ℕ) → Unnamed (ReportsScan e size (UpTo read left))
read_unnamed e size read left text (fault.File file) is = absurd is
read_unnamed e size read left text (fault.NotRead file) is = absurd is
read_unnamed e size read left text (fault.NoNodes of others) is = absurd is
read_unnamed e size read left text (fault.NoSpace folder) is = absurd is
read_unnamed e size read left text (fault.Findings of findings) is = absurd is
read_unnamed e size read left text (fault.Refused why) is = of_bytes why is.0 tt
read_unnamed e size read left text fault.Output is = tt
read_unnamed e size read left text fault.OutOfMemory is = absurd is

unread_unnamed : (e : Endian) (size : ℕ) → Unnamed (ReportsScan e size NotBegun)
unread_unnamed e size text f is = let alike : f ≡ fault.Refused (program.Load load.OutOfMemory) = cc in
    subst (λ (h : Fault). blaming.IsUnnamed h) (sym alike) tt

-- the file failed
failure_blames : (e : Endian) (size : ℕ) (name read : List ℕ) (file : FailedFile) (before after : List Event) (f : Fault) → GetsTo name (UpToFailure read file) before
    → prints_put (ReportsScan e size (UpToFailure read file)) after (Err f) → BlamesEvent f (before ++ after)
failure_blames e size name read file before after f gets put =
    let answer : put.answer ≡ Err (fault.NotRead file) = put.says.1 in
    let ended : and_closed put.answer put.closed ≡ Err (fault.NotRead file) = ap (λ (r : Result Told Fault). and_closed r put.closed) answer in
    let same = put.comes_to ∙ ended in
    let alike : f ≡ fault.NotRead file = cc in
    let event : Event = Failed (ReadPart (string_bytes file.name) read) file.reason in
    let first : Happened event before = subst (λ (l : List Event). Happened event l) (sym gets.1) (inl (ap (λ (n : List ℕ). Failed (ReadPart n read) file.reason) (sym gets.0))) in
    subst (λ (h : Fault). BlamesEvent h (before ++ after)) (sym alike) (read, before_more event before after first)

put_put_blames : (Says : Saying Told) → Unnamed Says → BlamesFailed (prints_put Says)
put_put_blames Says quiet events f put = put_blames Says quiet put.text put.failures events f put.answer put.closed put.says put.counts put.out put.comes_to

rest_blames : (e : Endian) (size : ℕ) (name : List ℕ) (progress : Progress) (before after : List Event) (f : Fault) → GetsTo name progress before
    → prints_put (ReportsScan e size progress) after (Err f) → BlamesEvent f (before ++ after)
rest_blames e size name NotBegun before after f gets put = blames_after f before after (put_put_blames _ (unread_unnamed e size) after f put)
rest_blames e size name (UpTo read left) before after f gets put = blames_after f before after (put_put_blames _ (read_unnamed e size read left) after f put)
rest_blames e size name (UpToFailure read file) before after f gets put = failure_blames e size name read file before after f gets put

stream_blames : (e : Endian) (size : ℕ) (name : List ℕ) → BlamesFailed (Then (reads_stream name) (λ progress. prints_put (ReportsScan e size progress)))
stream_blames e size name events f (Ends g did is) = let no : ⊥ = cc in absurd no
stream_blames e size name events f (GoesOn progress before after did more is) =
    let alike : progress ≡ did.0 = cc in
    blaming.same f is (rest_blames e size name progress before after f (subst (λ (p : Progress). GetsTo name p before) (sym alike) did.2) more)

pub scan_blames_failed : ScanBlamesFailed
scan_blames_failed options image = then_blames _ _ (opens_blames image) (λ (opened : List ℕ).
    then_blames _ _ (size_blames options.geometry.block) (λ _.
    then_blames _ _ memory_blames (λ _. stream_blames options.endian options.geometry.block opened)))

-- ---- all but the file itself is judged before anything is printed

read_silent : (name read left : List ℕ) → NonePrinted (read_up_to name read left)
read_silent name read [] = (tt, tt)
read_silent name read (b ∷ left) = (tt, tt)

gets_silent : (name : List ℕ) (progress : Progress) (events : List Event) → GetsTo name progress events → NonePrinted events
gets_silent name NotBegun events is = judging.same is tt
gets_silent name (UpTo read left) events is = judging.same is (read_silent name read left)
gets_silent name (UpToFailure read file) events is = judging.same is.1 tt

stream_silent : (name : List ℕ) → Silent (reads_stream name)
stream_silent name events r is = gets_silent name is.0 events is.2

read_unput : (e : Endian) (size : ℕ) (read left text : List ℕ) (f : Fault) → (IsOfStream f → ⊥) → ReportsScan e size (UpTo read left) text (Err f) → IsUnput f text
read_unput e size read left text (fault.File file) not is = absurd is
read_unput e size read left text (fault.NotRead file) not is = absurd is
read_unput e size read left text (fault.NoNodes of others) not is = absurd is
read_unput e size read left text (fault.NoSpace folder) not is = absurd is
read_unput e size read left text (fault.Findings of findings) not is = absurd is
read_unput e size read left text (fault.Refused why) not is = absurd (not (inr (ap (λ (w : ProgramFault). fault.Refused w) is.0)))
read_unput e size read left text fault.Output not is = tt
read_unput e size read left text fault.OutOfMemory not is = absurd is

scan_unput : (e : Endian) (size : ℕ) (progress : Progress) (text : List ℕ) (f : Fault) → (IsOfStream f → ⊥) → ReportsScan e size progress text (Err f) → IsUnput f text
scan_unput e size NotBegun text f not is = let alike : f ≡ fault.Refused (program.Load load.OutOfMemory) = cc in
    subst (λ (h : Fault). IsUnput h text) (sym alike) is.0
scan_unput e size (UpTo read left) text f not is = read_unput e size read left text f not is
scan_unput e size (UpToFailure read file) text f not is = let alike : f ≡ fault.NotRead file = cc in absurd (not (inl (file, alike)))

open_first : (e : Endian) (size : ℕ) (name : List ℕ) → JudgesFirstBut IsOfStream (scans_open e size name)
open_first e size name = then_first_but _ _ _ (answers_silent _) (λ _. then_first_but _ _ _ (stream_silent name) (λ (progress : Progress) events f not put.
    prints_first_but _ _ (scan_unput e size progress) events f not (inl put)))

pub scan_judged_first : ScanJudgedFirst
scan_judged_first options image = then_first_but _ _ _ (opens_silent image) (λ (opened : List ℕ).
    then_first_but _ _ _ (answers_silent _) (λ _. open_first options.endian options.geometry.block opened))
