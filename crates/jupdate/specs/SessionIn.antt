-- What a session in a row of openings promises of an operation, and of several: as one in the tail
-- of an image does, with the row in the place of an address.
use Rattle.std.specs.Prelude.{◌≡◌, ℕ, ◌+◌, ◌≤◌, ◌⊎◌, Bool, IsTrue, IsFalse, List, [], length, slice_get, Option, Some, None, Result, Ok, Err}
use Rattle.std.specs.List.{AllByRecursion}
use Rattle.std.specs.Io.KnownBytes.{Appends}
use Rattle.flashbase.specs.Device.{next_count}
use Rattle.flashbase.specs.Sinks.{SinkChange}
use Rattle.jsteps.specs.Laws.{IsConsistent}
use Rattle.jsteps.specs.Nodes.{Indexed, nodes_of}
use Rattle.jsteps.specs.Refusals.{planned_by, plans_of, steps_of_first}
use Rattle.jsteps.specs.declared.op.Op.{Op}
use Rattle.jsteps.specs.declared.step.Step.{Step}
use Rattle.jview.specs.Through.{greatest_contents}
use Rattle.jlog.specs.Places.{needed}
use Rattle.jlog.specs.Session.{Flash}
use Rattle.jlog.specs.SessionAs.{FlashAs, flash_as, AreFormsBy, content_len}
use Rattle.jlog.specs.declared.fault.SessionFault.{SessionFault}
use Rattle.jlog.specs.declared.fault.SessionFault.TheVariants as fault
use Rattle.jrests.specs.Shares.{fit_in}
use Rattle.jrests.specs.declared.opening.Opening.{Opening}
use Rattle.jupdate.specs.Rows.{IsOpen, free_in}
use Rattle.jupdate.specs.Writing.{LogIn, IsPutIn, IsPutPartIn}

-- ---- what holds of a session

-- where it goes on, while it is not broken
pub record IsGoingIn (size blocks : ℕ) (row : List Opening) (x : Indexed) : Type 0 where
  pub openings : AllByRecursion (IsOpen size blocks) row
  pub few : length row ≤ blocks
  pub consistent : IsConsistent x

-- a session: its log, and whether an operation was written in part
pub record StateIn : Type 0 where
  pub log : LogIn
  pub broken : Bool

-- ---- one operation

-- those of steps on a log
abbrev pub AreFormsIn : Bool → Flash → LogIn → List Step → List (List ℕ) → Type 0
AreFormsIn packs flash from steps forms =
    AreFormsBy packs flash.order (nodes_of from.index steps) forms

-- It has these steps, and these forms of their nodes fit the row that is left; and the view has
-- room for the contents of those that are packed, after so many bytes that it holds.
pub record IsTakenIn (packs : Bool) (held : ℕ) (flash : Flash) (from : LogIn) (o : Op)
    (steps : List Step) (forms : List (List ℕ)) : Type 0 where
  pub planned : planned_by flash.page from.index o ≡ Ok steps
  pub are : AreFormsIn packs flash from steps forms
  pub fits : IsTrue (fit_in flash.size from.row forms)
  pub contents : held + content_len flash.order forms ≤ greatest_contents

-- it has steps, and the forms that would have gone out do not fit, which need so much room, where
-- so much is left
pub record IsTooMuchIn (packs : Bool) (flash : Flash) (from : LogIn) (o : Op) (wanted left : ℕ) :
    Type 0 where
  pub steps : List Step
  pub forms : List (List ℕ)
  pub planned : planned_by flash.page from.index o ≡ Ok steps
  pub are : AreFormsIn packs flash from steps forms
  pub fits : IsFalse (fit_in flash.size from.row forms)
  pub wanted_is : wanted ≡ needed forms
  pub left_is : left ≡ free_in flash.size from.row

-- nothing went out, and the session goes on as before
pub record IsUntouchedIn (from to : LogIn) (broken : Bool) (sink : SinkChange) : Type 0 where
  pub whole : IsFalse broken
  pub row : to.row ≡ from.row
  pub index : to.index ≡ from.index
  pub bytes : Appends sink.old sink.new []
  pub places : to.places ≡ from.places
  pub none_failed : sink.now ≡ sink.before

-- it was accepted, but only a beginning of its bytes went out, of at least so many
abbrev pub BreaksIn : Bool → ℕ → Flash → LogIn → Op → StateIn → ℕ → SinkChange → Type 0
BreaksIn packs held flash from o to least sink =
    IsTrue to.broken
    × ((steps : List Step) × (forms : List (List ℕ)) × (t : ℕ)
    × IsTakenIn packs held flash from o steps forms
    × (least ≤ t)
    × IsPutPartIn flash.order flash.size from forms t to.log.places sink.old sink.new)

-- Applying an operation to a session that was broken or not: its forms are put; or it is refused,
-- needs more room, or memory runs out, and nothing changes; or the sink fails, or memory runs out
-- after a byte, and the session is broken.
abbrev pub AppliesIn : {T : Type 0} → FlashAs → StateIn → Op → StateIn → SinkChange
    → Result T SessionFault → Type 0
AppliesIn on from o to sink (Ok _) =
    IsFalse from.broken × IsFalse to.broken
    × ((steps : List Step) × (forms : List (List ℕ))
    × IsTakenIn on.packs on.held on.flash from.log o steps forms
    × IsPutIn on.flash.order on.flash.size from.log steps forms to.log sink.old sink.new)
    × (sink.now ≡ sink.before)
AppliesIn on from o to sink (Err (fault.Refused f)) =
    IsFalse from.broken × (planned_by on.flash.page from.log.index o ≡ Err f)
    × IsUntouchedIn from.log to.log to.broken sink
AppliesIn on from o to sink (Err (fault.Full wanted left)) =
    IsFalse from.broken × IsTooMuchIn on.packs on.flash from.log o wanted left
    × IsUntouchedIn from.log to.log to.broken sink
AppliesIn on from o to sink (Err fault.Sink) =
    IsFalse from.broken × BreaksIn on.packs on.held on.flash from.log o to 0 sink
    × (sink.now ≡ next_count sink.before)
AppliesIn on from o to sink (Err fault.OutOfMemory) =
    IsFalse from.broken × (IsUntouchedIn from.log to.log to.broken sink
    ⊎ (BreaksIn on.packs on.held on.flash from.log o to 1 sink × (sink.now ≡ sink.before)))
AppliesIn on from o to sink (Err fault.Broken) =
    IsTrue from.broken × IsTrue to.broken × Appends sink.old sink.new []
    × (to.log.places ≡ from.log.places) × (sink.now ≡ sink.before)
AppliesIn on from o to sink (Err fault.ReadOnly) = ⊥
AppliesIn on from o to sink (Err fault.Geometry) = ⊥

-- ---- several

-- So many operations were accepted one after the other, and these forms of their nodes are put.
pub record IsRunIn (on : FlashAs) (from : LogIn) (ops : List Op) (n : ℕ) (forms : List (List ℕ))
    (to : LogIn) (old new : Option (List ℕ)) : Type 0 where
  pub planned : n ≤ length (plans_of on.flash.page from.index ops)
  pub are : AreFormsIn on.packs on.flash from (steps_of_first on.flash.page from.index ops n) forms
  pub fits : IsTrue (fit_in on.flash.size from.row forms)
  pub contents : on.held + content_len on.flash.order forms ≤ greatest_contents
  pub wrote : IsPutIn on.flash.order on.flash.size from
      (steps_of_first on.flash.page from.index ops n) forms to old new

-- The next one was not: it stopped there, from what the others left, with this fault.
pub record StopsAtIn (on : FlashAs) (from : StateIn) (ops : List Op) (n : ℕ)
    (forms : List (List ℕ)) (to : StateIn) (sink : SinkChange) (f : SessionFault) : Type 0 where
  pub mid : LogIn
  pub between : Option (List ℕ)
  pub op : Op
  pub run : IsRunIn on from.log ops n forms mid sink.old between
  pub next : slice_get ops n ≡ Some op
  pub stop : AppliesIn {T = Unit {0}}
      (flash_as on.packs (on.held + content_len on.flash.order forms) on.flash)
      (record { log = mid; broken = from.broken }) op to (record sink { old = between }) (Err f)

-- rule: The log: What is written into blank blocks and the rests of begun ones survives a stop at
--   any byte.
--   definitions: jupdate.SessionIn.RunsIn, jopenings.Done.SurvivesAfterInOpenings
--   code: jupdate::session::OpeningSession
--   laws: jopenings::laws::log_goes_on_in_openings
-- What a run did: it accepted all operations; or so many, and the next one stopped it.
abbrev pub RunsIn : FlashAs → StateIn → List Op → ℕ → List (List ℕ) → StateIn → SinkChange
    → Option SessionFault → Type 0
RunsIn on from ops n forms to sink None =
    (n ≡ length ops) × (to.broken ≡ from.broken)
    × IsRunIn on from.log ops n forms to.log sink.old sink.new × (sink.now ≡ sink.before)
RunsIn on from ops n forms to sink (Some f) = StopsAtIn on from ops n forms to sink f
