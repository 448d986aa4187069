-- What a command does with the host, and what it answers: relations of events and an answer, and
-- how they are put together.
use Rattle.std.specs.Io.KnownBytes.{Appends}
use Rattle.std.specs.Prelude.{◌≡◌, ◌⊎◌, ◌++◌, ◌<◌, ◌≤◌, ℕ, List, [], ◌∷◌, length, take, Option, Some, None, option_map, Result, Ok, Err, string_bytes}
use Rattle.flashbase.specs.Device.{next_count}
use Rattle.flashbase.specs.Sinks.{SinkChange}
use Rattle.flashbase.specs.declared.source.LoadFault.TheVariants as load
use Rattle.jreport.specs.declared.faults.ProgramFault.{ProgramFault}
use Rattle.jreport.specs.declared.faults.ProgramFault.TheVariants as program
use Rattle.jreport.specs.declared.reason.Reason.{Reason}
use Rattle.jscan.specs.Image.{greatest_image}
use Rattle.jedge.specs.Calls.{Event, Did, Failed, Stream, Answers, Errors, Open, Read, ReadPart, Print, printed}
use Rattle.jedge.specs.declared.fault.Fault.{Fault}
use Rattle.jedge.specs.declared.fault.Fault.TheVariants as fault

-- ---- acts

-- what a command does: these events come of it, and this answer
abbrev pub Act : Type 0 → Type 1
Act A = List Event → Result A Fault → Type 0

-- an answer of which this holds; nothing happens
abbrev pub answers : {A : Type 0} → (Result A Fault → Type 0) → Act A
answers Is events result = (events ≡ []) × Is result

-- one, and with what it answers the next; or its fault
pub data Then {A B : Type 0} (first : Act A) (next : A → Act B) (events : List Event)
    (result : Result B Fault) : Type 0 where
  Ends : (f : Fault) → first events (Err f) → result ≡ Err f → Then first next events result
  GoesOn : (a : A) (before after : List Event) → first before (Ok a) → next a after result
      → events ≡ before ++ after → Then first next events result

-- the act was gone through: where it is told what happened, these events were added
pub record DoesFrom {A : Type 0} (old new : Option (List Event)) (act : Act A)
    (result : Result A Fault) : Type 0 where
  pub events : List Event
  pub acts : act events result
  pub told : new ≡ option_map (λ told. told ++ events) old

-- the answer, as contracts see it
abbrev pub seen_as : {A B : Type 0} → (A → B) → Result A Fault → Result B Fault
seen_as view (Ok x) = Ok (view x)
seen_as view (Err f) = Err f

-- ---- files that are read

-- the file of a name is opened
abbrev pub opens : List ℕ → Act (List ℕ)
opens name events (Ok opened) = (opened ≡ name) × (events ≡ Did (Open name) ∷ [])
opens name events (Err (fault.File file)) =
    (string_bytes file.name ≡ name) × (events ≡ Failed (Open name) file.reason ∷ [])
opens name events (Err (fault.NotRead file)) = ⊥
opens name events (Err (fault.NoNodes of others)) = ⊥
opens name events (Err (fault.NoSpace folder)) = ⊥
opens name events (Err (fault.Findings of findings)) = ⊥
opens name events (Err (fault.Refused why)) = ⊥
opens name events (Err fault.Output) = ⊥
opens name events (Err fault.OutOfMemory) = events ≡ []

-- why a file was left before its end: it is longer than the greatest image, or memory ran out
abbrev pub IsUnfinished : List ℕ → ProgramFault → Type 0
IsUnfinished bytes why = ((why ≡ program.Load load.TooLarge) × (greatest_image < length bytes))
    ⊎ (why ≡ program.Load load.OutOfMemory)

-- the file of a name, which is open, is read to its end
abbrev pub reads_whole : List ℕ → Act (List ℕ)
reads_whole name events (Ok bytes) =
    (events ≡ Did (Read name bytes) ∷ []) × (length bytes ≤ greatest_image)
reads_whole name events (Err (fault.File file)) = ⊥
reads_whole name events (Err (fault.NotRead file)) = (string_bytes file.name ≡ name)
    × ((bytes : List ℕ) × (events ≡ Failed (ReadPart name bytes) file.reason ∷ []))
reads_whole name events (Err (fault.NoNodes of others)) = ⊥
reads_whole name events (Err (fault.NoSpace folder)) = ⊥
reads_whole name events (Err (fault.Findings of findings)) = ⊥
reads_whole name events (Err (fault.Refused why)) =
    (bytes : List ℕ) × (events ≡ Did (ReadPart name bytes) ∷ []) × IsUnfinished bytes why
reads_whole name events (Err fault.Output) = ⊥
reads_whole name events (Err fault.OutOfMemory) = ⊥

-- the bytes of the file of a name
abbrev pub loads : List ℕ → Act (List ℕ)
loads name = Then (opens name) reads_whole

-- ---- texts that are printed

-- what a call says of the text that it put, and of its answer
abbrev pub Saying : Type 0 → Type 1
Saying A = List ℕ → Result A Fault → Type 0

-- the sink failed once where the answer says so, and else not
abbrev pub CountsOutput : {A : Type 0} → ℕ → ℕ → Result A Fault → Type 0
CountsOutput before now (Ok _) = now ≡ before
CountsOutput before now (Err (fault.File file)) = now ≡ before
CountsOutput before now (Err (fault.NotRead file)) = now ≡ before
CountsOutput before now (Err (fault.NoNodes of others)) = now ≡ before
CountsOutput before now (Err (fault.NoSpace folder)) = now ≡ before
CountsOutput before now (Err (fault.Findings of findings)) = now ≡ before
CountsOutput before now (Err (fault.Refused why)) = now ≡ before
CountsOutput before now (Err fault.Output) = now ≡ next_count before
CountsOutput before now (Err fault.OutOfMemory) = now ≡ before

-- a call puts a text of which this is said
pub record PutsBy {A : Type 0} (Says : Saying A) (sink : SinkChange) (result : Result A Fault)
    : Type 0 where
  pub text : List ℕ
  pub says : Says text result
  pub put : Appends sink.old sink.new text
  pub counts : CountsOutput sink.before sink.now result

-- All of this text, and then this answer; or a beginning of it, where the sink failed. Where memory
-- runs out, nothing was put.
abbrev pub Whole : {A : Type 0} → List ℕ → A → Saying A
Whole whole answer text (Ok x) = (text ≡ whole) × (x ≡ answer)
Whole whole answer text (Err (fault.File file)) = ⊥
Whole whole answer text (Err (fault.NotRead file)) = ⊥
Whole whole answer text (Err (fault.NoNodes of others)) = ⊥
Whole whole answer text (Err (fault.NoSpace folder)) = ⊥
Whole whole answer text (Err (fault.Findings of findings)) = ⊥
Whole whole answer text (Err (fault.Refused why)) = ⊥
Whole whole answer text (Err fault.Output) = (n : ℕ) × (text ≡ take n whole)
Whole whole answer text (Err fault.OutOfMemory) = text ≡ []

-- a beginning of a text is printed, and then the stream fails
pub record IsPrintedInPart (stream : Stream) (text : List ℕ) (events : List Event) : Type 0 where
  pub begun : List ℕ
  pub left : List ℕ
  pub rest : List ℕ
  pub reason : Reason
  pub of : text ≡ begun ++ left
  pub happened : events ≡ printed stream begun ++ Failed (Print stream rest) reason ∷ []

-- a text that a sink took, which failed so often, is printed; or a beginning of it is, and the
-- stream failed
abbrev pub closes : Stream → ℕ → List ℕ → Act Unit
closes stream failures text events (Ok _) =
    (failures ≡ 0) × (events ≡ printed stream text)
closes stream failures text events (Err (fault.File file)) = ⊥
closes stream failures text events (Err (fault.NotRead file)) = ⊥
closes stream failures text events (Err (fault.NoNodes of others)) = ⊥
closes stream failures text events (Err (fault.NoSpace folder)) = ⊥
closes stream failures text events (Err (fault.Findings of findings)) = ⊥
closes stream failures text events (Err (fault.Refused why)) = ⊥
closes stream failures text events (Err fault.Output) = IsPrintedInPart stream text events
closes stream failures text events (Err fault.OutOfMemory) = ⊥

-- an answer, where the text before it all went out; a fault stays what it is
abbrev pub and_closed : {A : Type 0} → Result A Fault → Result Unit Fault → Result A Fault
and_closed (Ok x) (Ok _) = Ok x
and_closed (Ok x) (Err f) = Err f
and_closed (Err f) closed = Err f

-- a call put a text into a sink, of which this is said, and the text is printed
pub record prints_put {A : Type 0} (Says : Saying A) (events : List Event) (result : Result A Fault)
    : Type 0 where
  pub text : List ℕ
  pub answer : Result A Fault
  pub failures : ℕ
  pub closed : Result Unit Fault
  pub says : Says text answer
  pub counts : CountsOutput 0 failures answer
  pub out : closes Answers failures text events closed
  pub comes_to : result ≡ and_closed answer closed

-- a text of which this is said is printed; or memory for the output ran out
abbrev pub prints : {A : Type 0} → Saying A → Act A
prints Says events result = prints_put Says events result
    ⊎ ((events ≡ []) × (result ≡ Err fault.OutOfMemory))

-- The same of standard error; nothing tells where that fails.
abbrev pub closes_errors : ℕ → List ℕ → Act Unit
closes_errors failures text events result =
    ((failures ≡ 0) × (events ≡ printed Errors text)) ⊎ IsPrintedInPart Errors text events

-- nothing is said on standard error; or this text is, or a beginning of it and that failed
abbrev pub IsSaidBy : Option (List ℕ) → List Event → Type 0
IsSaidBy None events = events ≡ []
IsSaidBy (Some text) events = (events ≡ printed Errors text) ⊎ IsPrintedInPart Errors text events

abbrev pub says : Option (List ℕ) → Act Unit
says text events result = IsSaidBy text events
