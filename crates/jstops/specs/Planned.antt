-- What planning one operation promises, whose nodes go out in their own forms, or packed.
use Rattle.std.specs.Prelude.{◌≡◌, ℕ, ◌+◌, ◌≤◌, Bool, IsFalse, List, [], length}
use Rattle.byteorder.specs.declared.ByteOrder.{Ghosts as OfByteOrder}
use Rattle.flashbase.specs.declared.sink.Sink.{Ghosts as OfSink}
use Rattle.jnode.specs.declared.order.Endian.{Endian}
use Rattle.jnode.specs.declared.order.Order.{Ghosts as OfOrder}
use Rattle.jsteps.specs.Nodes.{Indexed, advanced_all}
use Rattle.jsteps.specs.declared.op.Op.{Op}
use Rattle.jsteps.specs.declared.step.Step.{Step}
use Rattle.jexpand.specs.Expanded.{unpacked_bytes}
use Rattle.jlog.specs.Headline.{resume_address}
use Rattle.jlog.specs.HeadlineThrough.{index_through}
use Rattle.jlog.specs.Places.{end_of_all}
use Rattle.jlog.specs.Running.{log_at}
use Rattle.jlog.specs.Session.{Flash as LogFlash}
use Rattle.jlog.specs.SessionAs.{content_len, flash_as, IsTakenAs}
use Rattle.jlog.specs.View.{written_flash}
use Rattle.jlog.specs.declared.fault.SessionFault.{SessionFault}
use Rattle.jlog.specs.declared.start.Flash.{Flash}
use Rattle.jpacked.specs.Accepting.{DeclinesAs}
use Rattle.jpacked.specs.Forms.{is_packed}
use Rattle.jpacked.specs.View.{cursor_of, flash_of_log, held_of, index_of_log, is_broken, packs_of, sink_of}
use Rattle.jpacked.specs.declared.choice.NodeForms.{NodeForms}
use Rattle.jpacked.specs.declared.session.PackingSession.{PackingSession}
use Rattle.jcuts.specs.Standing.{standings}
use Rattle.jcuts.specs.declared.held.Held.{Held}
use Rattle.jcuts.specs.declared.standing.Standing.{Standing}

-- ---- how it is planned, and where

-- whether nodes are packed, and the flash that they would go to
pub record Forming : Type 0 where
  pub packs : Bool
  pub flash : LogFlash

-- as is asked for
abbrev pub forming_with : Endian → NodeForms → Flash → Forming
forming_with e forms flash = record { packs = is_packed forms; flash = written_flash e flash }

-- where a log goes on: an address, what operations are planned on, and how many bytes the contents
-- of the compressed nodes have
pub record HeldPoint : Type 0 where
  pub address : ℕ
  pub index : Indexed
  pub held : ℕ

-- rule: The log: A session on an image mounted through its compression goes on behind the image
--   itself.
--   definitions: jstops.Planned.through_point, jlog.Headline.resume_address
--   code: jpacked::session::PackingSession, jstops::stops::put_stops
-- on a base that is seen through its compression: the address is that of the base itself
abbrev pub through_point : Endian → Flash → List ℕ → HeldPoint
through_point e flash base = record {
  address = resume_address e flash.geometry.block flash.blocks base;
  index = index_through e flash.geometry.block base;
  held = length (unpacked_bytes e flash.geometry.block base);
}

module _ {E : Type 0} {order : OfOrder E} {numbers : OfByteOrder E} {sink : OfSink Held} where
  abbrev pub forming_of : PackingSession E Held order numbers sink → Forming
  forming_of plan = record { packs = packs_of plan; flash = flash_of_log plan }

  abbrev pub held_point_of : PackingSession E Held order numbers sink → HeldPoint
  held_point_of plan = record {
    address = cursor_of plan;
    index = index_of_log plan;
    held = held_of plan;
  }

  -- another operation can be planned
  pub record IsReadyAs (plan : PackingSession E Held order numbers sink) : Type 0 where
    pub whole : IsFalse (is_broken plan)
    pub none : (sink_of plan).bytes.items ≡ []

-- ---- one operation

-- from where on forms stand that go out from a point on
abbrev pub form_standings : Forming → HeldPoint → List (List ℕ) → List Standing
form_standings on from forms = standings on.flash.order on.flash.size from.address forms

-- rule: The log: What is told of an operation is told of the forms that a session would put for its
--   nodes, not of the nodes themselves.
--   definitions: jstops.Planned.IsPlannedAs, jlog.SessionAs.IsTakenAs, jcuts.Standing.standings
--   code: jstops::planned::plan_op
--   laws: jstops::laws::stops_survive
-- The operation is accepted in these forms of the nodes of its steps, they are told, and writing
-- goes on after them.
pub record IsPlannedAs (on : Forming) (from : HeldPoint) (o : Op) (to : HeldPoint)
    (told : List Standing) : Type 0 where
  pub steps : List Step
  pub forms : List (List ℕ)
  pub taken : IsTakenAs on.packs from.held on.flash (log_at from.address from.index []) o steps
      forms
  pub address : to.address ≡ end_of_all on.flash.size from.address forms
  pub index : to.index ≡ advanced_all from.index steps
  pub held : to.held ≡ from.held + content_len on.flash.order forms
  pub nodes : told ≡ form_standings on from forms
  pub few : from.address + length told ≤ to.address

-- it is not
abbrev pub IsDeclinedAs : Forming → HeldPoint → Op → SessionFault → Type 0
IsDeclinedAs on from o fault =
    DeclinesAs (flash_as on.packs from.held on.flash) (log_at from.address from.index []) o fault
