-- What a session promises that may pack: the forms that go out for the nodes of steps stand where
-- `written` stands in the promises of one that does not.
use Rattle.std.specs.Prelude.{◌≡◌, ℕ, ◌+◌, ◌≤◌, ◌⊎◌, Bool, true, false, nat_le, IsTrue, IsFalse, List, [], ◌++◌, length, map, filter, take, slice_get, Option, Some, None, Result, Ok, Err}
use Rattle.std.specs.List.{flat_map}
use Rattle.std.specs.Io.KnownBytes.{Appends}
use Rattle.flashbase.specs.Device.{next_count}
use Rattle.flashbase.specs.Sinks.{SinkChange}
use Rattle.jnode.specs.Writing.{canonical}
use Rattle.jnode.specs.declared.node.NodeRef.{NodeRef}
use Rattle.jnode.specs.declared.order.Endian.{Endian}
use Rattle.jsteps.specs.Nodes.{nodes_of, advanced_all}
use Rattle.jsteps.specs.Refusals.{planned_by, plans_of, steps_of_first}
use Rattle.jsteps.specs.declared.op.Op.{Op}
use Rattle.jsteps.specs.declared.step.Step.{Step}
use Rattle.jlog.specs.Places.{places, end_of_all, fit, needed, free}
use Rattle.jlog.specs.Output.{output}
use Rattle.jlog.specs.Packed.{AreNodeForms}
use Rattle.jview.specs.Through.{greatest_contents}
use Rattle.jlog.specs.Through.{form_content}
use Rattle.jlog.specs.Running.{Log, shown_place}
use Rattle.jlog.specs.Session.{Flash, LogState, IsUntouched}
use Rattle.jlog.specs.declared.fault.SessionFault.{SessionFault}
use Rattle.jlog.specs.declared.fault.SessionFault.TheVariants as fault
use Rattle.jlog.specs.declared.report.Place.{Place}

-- ---- the forms of nodes

-- Where nothing is packed they are the nodes' own.
abbrev pub AreFormsBy : Bool → Endian → List NodeRef → List (List ℕ) → Type 0
AreFormsBy false e nodes forms = forms ≡ map (canonical e) nodes
AreFormsBy true e nodes forms = AreNodeForms e nodes forms

-- how many bytes the packed ones of them stand for
abbrev pub content_len : Endian → List (List ℕ) → ℕ
content_len e forms = length (flat_map (form_content e) forms)

-- the flash, whether nodes are packed, and how many bytes of content the view of it holds
pub record FlashAs : Type 0 where
  pub packs : Bool
  pub held : ℕ
  pub flash : Flash

abbrev pub flash_as : Bool → ℕ → Flash → FlashAs
flash_as packs held flash = record { packs = packs; held = held; flash = flash }

-- those of steps on a log
abbrev pub AreFormsOf : Bool → Flash → Log → List Step → List (List ℕ) → Type 0
AreFormsOf packs flash from steps forms =
    AreFormsBy packs flash.order (nodes_of from.index steps) forms

-- ---- forms that are written

-- The sink took exactly what goes out for the forms, one a step, each at its place, and the log
-- goes on after them.
pub record IsPutAs (flash : Flash) (from : Log) (steps : List Step) (forms : List (List ℕ))
    (to : Log) (old new : Option (List ℕ)) : Type 0 where
  pub cursor : to.cursor ≡ end_of_all flash.size from.cursor forms
  pub index : to.index ≡ advanced_all from.index steps
  pub bytes : Appends old new (output flash.order flash.size from.cursor forms)
  pub places : to.places ≡ from.places ++ map shown_place (places flash.size from.cursor forms)

-- The sink took exactly the first t bytes of it, and the places are those of the forms whose bytes
-- all went out.
pub record IsPutPartAs (flash : Flash) (from : Log) (forms : List (List ℕ)) (t : ℕ)
    (told : List Place) (old new : Option (List ℕ)) : Type 0 where
  pub within : t ≤ length (output flash.order flash.size from.cursor forms)
  pub bytes : Appends old new (take t (output flash.order flash.size from.cursor forms))
  pub places : told ≡ from.places
      ++ map shown_place (filter (λ place. nat_le (place.0 + place.1) (from.cursor + t))
      (places flash.size from.cursor forms))

-- ---- one operation

-- It has these steps, and these forms of their nodes fit; and the view has room for the contents
-- of those that are packed, after so many bytes that it holds.
pub record IsTakenAs (packs : Bool) (held : ℕ) (flash : Flash) (from : Log) (o : Op)
    (steps : List Step) (forms : List (List ℕ)) : Type 0 where
  pub planned : planned_by flash.page from.index o ≡ Ok steps
  pub are : AreFormsOf packs flash from steps forms
  pub fits : IsTrue (fit flash.size flash.blocks from.cursor forms)
  pub contents : held + content_len flash.order forms ≤ greatest_contents

-- it has steps, and the forms that would have gone out do not fit, which need so much room
pub record IsTooMuch (packs : Bool) (flash : Flash) (from : Log) (o : Op) (wanted left : ℕ) : Type
    0 where
  pub steps : List Step
  pub forms : List (List ℕ)
  pub planned : planned_by flash.page from.index o ≡ Ok steps
  pub are : AreFormsOf packs flash from steps forms
  pub fits : IsFalse (fit flash.size flash.blocks from.cursor forms)
  pub wanted_is : wanted ≡ needed forms
  pub left_is : left ≡ free flash.size flash.blocks from.cursor

-- it was accepted, but only a beginning of its bytes went out, of at least so many
abbrev pub BreaksAs : Bool → ℕ → Flash → Log → Op → LogState → ℕ → SinkChange → Type 0
BreaksAs packs held flash from o to least sink =
    IsTrue to.broken
    × ((steps : List Step) × (forms : List (List ℕ)) × (t : ℕ)
    × IsTakenAs packs held flash from o steps forms
    × (least ≤ t) × IsPutPartAs flash from forms t to.log.places sink.old sink.new)

-- Applying an operation, as of a session that does not pack.
abbrev pub AppliesAs : {T : Type 0} → FlashAs → LogState → Op → LogState → SinkChange
    → Result T SessionFault → Type 0
AppliesAs on from o to sink (Ok _) =
    IsFalse from.broken × IsFalse to.broken
    × ((steps : List Step) × (forms : List (List ℕ))
    × IsTakenAs on.packs on.held on.flash from.log o steps forms
    × IsPutAs on.flash from.log steps forms to.log sink.old sink.new)
    × (sink.now ≡ sink.before)
AppliesAs on from o to sink (Err (fault.Refused f)) =
    IsFalse from.broken × (planned_by on.flash.page from.log.index o ≡ Err f)
    × IsUntouched from.log to.log to.broken sink
AppliesAs on from o to sink (Err (fault.Full wanted left)) =
    IsFalse from.broken × IsTooMuch on.packs on.flash from.log o wanted left
    × IsUntouched from.log to.log to.broken sink
AppliesAs on from o to sink (Err fault.Sink) =
    IsFalse from.broken × BreaksAs on.packs on.held on.flash from.log o to 0 sink
    × (sink.now ≡ next_count sink.before)
AppliesAs on from o to sink (Err fault.OutOfMemory) =
    IsFalse from.broken × (IsUntouched from.log to.log to.broken sink
    ⊎ (BreaksAs on.packs on.held on.flash from.log o to 1 sink × (sink.now ≡ sink.before)))
AppliesAs on from o to sink (Err fault.Broken) =
    IsTrue from.broken × IsTrue to.broken × Appends sink.old sink.new []
    × (to.log.places ≡ from.log.places) × (sink.now ≡ sink.before)
AppliesAs on from o to sink (Err fault.ReadOnly) = ⊥
AppliesAs on from o to sink (Err fault.Geometry) = ⊥

-- ---- several

-- So many operations were accepted one after the other, and these forms of their nodes are written.
pub record IsRunAs (on : FlashAs) (from : Log) (ops : List Op) (n : ℕ) (forms : List (List ℕ))
    (to : Log) (old new : Option (List ℕ)) : Type 0 where
  pub planned : n ≤ length (plans_of on.flash.page from.index ops)
  pub are : AreFormsOf on.packs on.flash from (steps_of_first on.flash.page from.index ops n) forms
  pub fits : IsTrue (fit on.flash.size on.flash.blocks from.cursor forms)
  pub contents : on.held + content_len on.flash.order forms ≤ greatest_contents
  pub wrote : IsPutAs on.flash from (steps_of_first on.flash.page from.index ops n) forms to old new

-- The next one was not.
pub record StopsAtAs (on : FlashAs) (from : LogState) (ops : List Op) (n : ℕ)
    (forms : List (List ℕ)) (to : LogState) (sink : SinkChange) (f : SessionFault) : Type 0 where
  pub mid : Log
  pub between : Option (List ℕ)
  pub op : Op
  pub run : IsRunAs on from.log ops n forms mid sink.old between
  pub next : slice_get ops n ≡ Some op
  pub stop : AppliesAs {T = Unit {0}}
      (flash_as on.packs (on.held + content_len on.flash.order forms) on.flash)
      (record { log = mid; broken = from.broken }) op to (record sink { old = between }) (Err f)

-- rule: The log: What it puts survives a stop at any byte, in the tail of an image or in its blank
--   blocks.
--   definitions: jlog.SessionAs.RunsAs, jlog.DoneThrough.SurvivesAfterAs, jrow.Arranged.arranged,
--   jrow.Arranged.row_start
--   code: jpacked::session::PackingSession
--   laws: jlog::laws::forms_survive, jlog::laws::run_survives_as, jrow::laws::row_is_tail
abbrev pub RunsAs : FlashAs → LogState → List Op → ℕ → List (List ℕ) → LogState → SinkChange
    → Option SessionFault → Type 0
RunsAs on from ops n forms to sink None =
    (n ≡ length ops) × (to.broken ≡ from.broken)
    × IsRunAs on from.log ops n forms to.log sink.old sink.new × (sink.now ≡ sink.before)
RunsAs on from ops n forms to sink (Some f) = StopsAtAs on from ops n forms to sink f
