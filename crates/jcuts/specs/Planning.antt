-- What planning one operation promises.
use Rattle.std.specs.Prelude.{◌≡◌, ℕ, ◌+◌, ◌≤◌, IsTrue, List, length, ⊤}
use Rattle.jsteps.specs.Nodes.{Indexed, advanced_all}
use Rattle.jsteps.specs.declared.op.Op.{Op}
use Rattle.jsteps.specs.declared.step.Step.{Step}
use Rattle.jlog.specs.Places.{end_of_all, is_writable_flash}
use Rattle.jlog.specs.Running.{written}
use Rattle.jlog.specs.Session.{Flash, IsAccepted, IsGoing}
use Rattle.jlog.specs.declared.fault.SessionFault.{SessionFault}
use Rattle.jlog.specs.declared.fault.SessionFault.TheVariants as fault
use Rattle.jcuts.specs.Standing.{standings}
use Rattle.jcuts.specs.declared.standing.Standing.{Standing}

-- The operation is accepted: these are the nodes of its steps, and writing goes on after them.
pub record IsPlannedOp (flash : Flash) (from : ℕ) (x : Indexed) (o : Op) (end : ℕ) (y : Indexed)
    (told : List Standing) : Type 0 where
  pub steps : List Step
  pub accepted : IsAccepted flash.page flash.order flash.size flash.blocks from x o steps
  pub cursor : end ≡ end_of_all flash.size from (written flash.order x steps)
  pub index : y ≡ advanced_all x steps
  pub nodes : told ≡ standings flash.order flash.size from (written flash.order x steps)
  pub few : from + length told ≤ end

-- Operations can be planned: on a flash that is written, whose blocks hold a page, from where a log
-- goes on.
pub record CanPlan (page size blocks from : ℕ) (x : Indexed) : Type 0 where
  pub flash : IsTrue (is_writable_flash size blocks)
  pub holds : page + 80 ≤ size
  pub going : IsGoing size blocks from x

-- this holds of a log that lacked room
abbrev pub IfFull : SessionFault → Type 0 → Type 0
IfFull (fault.Full wanted left) says = says
IfFull (fault.Refused f) says = ⊤
IfFull fault.ReadOnly says = ⊤
IfFull fault.Sink says = ⊤
IfFull fault.OutOfMemory says = ⊤
IfFull fault.Broken says = ⊤
IfFull fault.Geometry says = ⊤

-- A fault of a log whose sink keeps what it takes: where that fails, memory is wanting.
abbrev pub without_sink : SessionFault → SessionFault
without_sink fault.Sink = fault.OutOfMemory
without_sink (fault.Full wanted left) = fault.Full wanted left
without_sink (fault.Refused f) = fault.Refused f
without_sink fault.ReadOnly = fault.ReadOnly
without_sink fault.OutOfMemory = fault.OutOfMemory
without_sink fault.Broken = fault.Broken
without_sink fault.Geometry = fault.Geometry
