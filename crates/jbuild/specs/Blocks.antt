-- What is told of the operation at which a run stopped for want of room.
use Rattle.std.specs.Prelude.{◌≡◌, ℕ, false, List, [], slice_get, Option, Some, None, Ok}
use Rattle.jsteps.specs.Nodes.{advanced_all}
use Rattle.jsteps.specs.Refusals.{steps_of_first}
use Rattle.jsteps.specs.declared.op.Op.{Op}
use Rattle.jlog.specs.Places.{end_of_all}
use Rattle.jlog.specs.Running.{log_at, written}
use Rattle.jlog.specs.Session.{Flash, LogState, TellsBlocks}
use Rattle.jlog.specs.declared.fault.SessionFault.{SessionFault}
use Rattle.jlog.specs.declared.fault.SessionFault.TheVariants as fault
use Rattle.jbuild.specs.Emitting.{index_on, resume_on}

-- the log that the first operations leave behind a base
abbrev pub state_after : Flash → List ℕ → List Op → ℕ → LogState
state_after flash base ops accepted =
    let index = index_on flash base in
    let steps = steps_of_first flash.page index ops accepted in
    let end = end_of_all flash.size (resume_on flash base) (written flash.order index steps) in
    record { log = log_at end (advanced_all index steps) []; broken = false }

-- a run stopped for want of room
abbrev pub IsFull : Option SessionFault → Type 0
IsFull (Some (fault.Full needed free)) = Unit {0}
IsFull (Some (fault.Refused why)) = ⊥
IsFull (Some fault.ReadOnly) = ⊥
IsFull (Some fault.Sink) = ⊥
IsFull (Some fault.OutOfMemory) = ⊥
IsFull (Some fault.Broken) = ⊥
IsFull (Some fault.Geometry) = ⊥
IsFull None = ⊥

-- Where the next operation stopped a run for want of room: the least number of blocks that hold it
-- from this log on, where the greatest flash does. Nothing where another fault stopped the run, or
-- none.
abbrev pub TellsRefused : Flash → LogState → List Op → ℕ → Option SessionFault → Option ℕ → Type 0
TellsRefused flash log ops accepted (Some (fault.Full needed free)) blocks =
    (op : Op) × (slice_get ops accepted ≡ Some op) × TellsBlocks flash log op (Ok blocks)
TellsRefused flash log ops accepted (Some (fault.Refused why)) blocks = blocks ≡ None
TellsRefused flash log ops accepted (Some fault.ReadOnly) blocks = blocks ≡ None
TellsRefused flash log ops accepted (Some fault.Sink) blocks = blocks ≡ None
TellsRefused flash log ops accepted (Some fault.OutOfMemory) blocks = blocks ≡ None
TellsRefused flash log ops accepted (Some fault.Broken) blocks = blocks ≡ None
TellsRefused flash log ops accepted (Some fault.Geometry) blocks = blocks ≡ None
TellsRefused flash log ops accepted None blocks = blocks ≡ None

-- rule: Building and extending: How many blocks would hold an operation that is refused for want of
--   room.
--   definitions: jbuild.Blocks.TellsRefusedOn, jlog.Places.least_blocks,
--   jmakes.Writing.refused_at
--   code: jbuild::emitting::emit, jreport::cause::cause_of
--   laws: jlog::laws::blocks_are_least
-- the same from the log that the accepted operations leave behind a base
abbrev pub TellsRefusedOn : Flash → List ℕ → List Op → ℕ → Option SessionFault → Option ℕ → Type 0
TellsRefusedOn flash base ops accepted stopped blocks =
    TellsRefused flash (state_after flash base ops accepted) ops accepted stopped blocks
