-- What planning one operation promises, whose nodes go out to the openings of an image.
use Rattle.std.specs.Prelude.{◌≡◌, ℕ, ◌+◌, ◌≤◌, not, IsFalse, List, [], length}
use Rattle.byteorder.specs.declared.ByteOrder.{Ghosts as OfByteOrder}
use Rattle.flashbase.specs.declared.sink.Sink.{Ghosts as OfSink}
use Rattle.jnode.specs.declared.order.Endian.{Endian}
use Rattle.jnode.specs.declared.order.Order.{Ghosts as OfOrder}
use Rattle.jsteps.specs.Nodes.{Indexed, advanced_all}
use Rattle.jsteps.specs.declared.op.Op.{Op}
use Rattle.jsteps.specs.declared.step.Step.{Step}
use Rattle.jexpand.specs.Expanded.{unpacked_bytes}
use Rattle.jlog.specs.HeadlineThrough.{index_through}
use Rattle.jlog.specs.SessionAs.{content_len, flash_as}
use Rattle.jlog.specs.View.{written_flash}
use Rattle.jlog.specs.declared.fault.SessionFault.{SessionFault}
use Rattle.jlog.specs.declared.start.Flash.{Flash}
use Rattle.jcuts.specs.declared.held.Held.{Held}
use Rattle.jcuts.specs.declared.standing.Standing.{Standing}
use Rattle.jrests.specs.Shares.{shares}
use Rattle.jrests.specs.declared.opening.Opening.{Opening}
use Rattle.jopenings.specs.After.{row_after_all}
use Rattle.jupdate.specs.Accepting.{DeclinesIn}
use Rattle.jupdate.specs.SessionIn.{IsTakenIn}
use Rattle.jupdate.specs.View.{block_size_of, blocks_of, flash_of_log, held_of, index_of_log, is_broken, left_of, openings_of, packs_of, sink_of, stretches_in}
use Rattle.jupdate.specs.Writing.{LogIn, log_in}
use Rattle.jupdate.specs.declared.session.OpeningSession.{OpeningSession}
use Rattle.jdevice.specs.Run.{openings_planned}
use Rattle.jdevice.specs.declared.running.DevicePlan.{DevicePlan}
use Rattle.jstops.specs.Planned.{Forming}
use Rattle.jhalts.specs.InShares.{row_address, standings_in_shares}
use Rattle.jhalts.specs.Walk.{row_of_walk}
use Rattle.jhalts.specs.declared.walking.Walk.{Walk}

-- ---- how it is planned, and where

-- as `update` writes: packed, but for `plain`
abbrev pub forming_on : Endian → DevicePlan → Forming
forming_on e on = record { packs = not on.plain; flash = written_flash e on.flash }

-- where a log goes on in a row of openings: the row, what operations are planned on, and how many
-- bytes the contents of the compressed nodes have
pub record RowPoint : Type 0 where
  pub row : List Opening
  pub index : Indexed
  pub held : ℕ

abbrev pub log_from : RowPoint → LogIn
log_from from = log_in from.row from.index []

-- on a device's image, in the openings that `update` takes
abbrev pub device_point : Endian → DevicePlan → List ℕ → RowPoint
device_point e on image = record {
  row = openings_planned e on image;
  index = index_through e on.flash.geometry.block image;
  held = length (unpacked_bytes e on.flash.geometry.block image);
}

module _ {E : Type 0} {order : OfOrder E} {numbers : OfByteOrder E} {sink : OfSink Held} where
  abbrev pub forming_in_row : OpeningSession E Held order numbers sink → Forming
  forming_in_row plan = record { packs = packs_of plan; flash = flash_of_log plan }

  abbrev pub row_point_of : OpeningSession E Held order numbers sink → RowPoint
  row_point_of plan = record {
    row = left_of plan;
    index = index_of_log plan;
    held = held_of plan;
  }

  -- nothing was planned yet, on this flash
  pub record IsFreshIn (flash : Flash) (plan : OpeningSession E Held order numbers sink) : Type 0
    where
      pub whole : IsFalse (is_broken plan)
      pub none : (sink_of plan).bytes.items ≡ []
      pub left : left_of plan ≡ openings_of plan
      pub size : block_size_of plan ≡ flash.geometry.block
      pub count : blocks_of plan ≡ flash.blocks

  -- another operation can be planned, and the walk is where the log goes on
  pub record IsReadyIn (plan : OpeningSession E Held order numbers sink) (walk : Walk) : Type 0
    where
      pub whole : IsFalse (is_broken plan)
      pub none : (sink_of plan).bytes.items ≡ []
      pub goes_on : left_of plan ≡ row_of_walk (stretches_in plan) walk
      pub size : walk.flash.size ≡ block_size_of plan
      pub count : walk.flash.count ≡ blocks_of plan

-- ---- one operation

-- from where on forms stand that go out to a row from a point on
abbrev pub row_standings : Forming → RowPoint → List (List ℕ) → List Standing
row_standings on from forms =
    standings_in_shares on.flash.order on.flash.size (shares on.flash.size from.row forms)

-- rule: The log: What is told of an operation of `update` is told of the forms that it would write,
--   each at its place in the image.
--   definitions: jhalts.InRow.IsPlannedIn, jupdate.SessionIn.IsTakenIn,
--   jhalts.InShares.standings_in_shares
--   code: jhalts::planned::plan_op
--   laws: jhalts::laws::halts_survive
-- The operation is accepted in these forms of the nodes of its steps, they are told, and writing
-- goes on in the row that is then left.
pub record IsPlannedIn (on : Forming) (from : RowPoint) (o : Op) (to : RowPoint)
    (told : List Standing) : Type 0 where
  pub steps : List Step
  pub forms : List (List ℕ)
  pub taken : IsTakenIn on.packs from.held on.flash (log_from from) o steps forms
  pub row : to.row ≡ row_after_all on.flash.size from.row forms
  pub index : to.index ≡ advanced_all from.index steps
  pub held : to.held ≡ from.held + content_len on.flash.order forms
  pub nodes : told ≡ row_standings on from forms
  pub few : row_address on.flash.size from.row + length told ≤ row_address on.flash.size to.row

-- it is not
abbrev pub IsDeclinedIn : Forming → RowPoint → Op → SessionFault → Type 0
IsDeclinedIn on from o fault =
    DeclinesIn (flash_as on.packs from.held on.flash) (log_from from) o fault
