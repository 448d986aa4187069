-- What is told of operations that follow one another.
use Rattle.std.specs.Prelude.{◌≡◌, ◌⊎◌, ℕ, ◌≤◌, IsTrue, IsFalse, List, [], ◌++◌, length, take, slice_get, Option, Some, None, Result, Ok, Err, ⊤}
use Rattle.std.specs.Io.KnownBytes.{Appends}
use Rattle.byteorder.specs.declared.ByteOrder.{Ghosts as OfByteOrder}
use Rattle.flashbase.specs.Device.{PutsPart, next_count}
use Rattle.flashbase.specs.Sinks.{SinkChange}
use Rattle.flashbase.specs.declared.sink.Sink.{Ghosts as OfSink}
use Rattle.jnode.specs.declared.order.Endian.{Endian}
use Rattle.jnode.specs.declared.order.Order.{Ghosts as OfOrder}
use Rattle.jsteps.specs.Nodes.{Indexed, advanced_all}
use Rattle.jscan.specs.Pages.{page_size}
use Rattle.jsteps.specs.Refusals.{planned_by, plans_of, steps_of_first}
use Rattle.jsteps.specs.declared.op.Op.{Op}
use Rattle.jsteps.specs.declared.step.Step.{Step}
use Rattle.jlog.specs.Headline.{index_of_image, resume_address}
use Rattle.jlog.specs.Places.{end_of_all, fit, least_blocks}
use Rattle.jlog.specs.Running.{written}
use Rattle.jlog.specs.Session.{Declines}
use Rattle.jlog.specs.View.{block_size_of, blocks_of, page_of, cursor_of, index_of_log, is_broken, sink_of, written_flash}
use Rattle.jlog.specs.declared.fault.SessionFault.{SessionFault}
use Rattle.jlog.specs.declared.fault.SessionFault.TheVariants as session
use Rattle.jlog.specs.declared.session.Session.{Session}
use Rattle.jlog.specs.declared.start.Flash.{Flash}
use Rattle.jcuts.specs.Standing.{standings}
use Rattle.jcuts.specs.Lines.{step_nodes, nodes_told, text_of_nodes, weak_count, end_text}
use Rattle.jcuts.specs.Planning.{CanPlan, IsPlannedOp}
use Rattle.jcuts.specs.declared.cuts.Counts.{Counts}
use Rattle.jcuts.specs.declared.cuts.CutsFault.{CutsFault}
use Rattle.jcuts.specs.declared.cuts.CutsFault.TheVariants as told
use Rattle.jcuts.specs.declared.held.Held.{Held}
use Rattle.jcuts.specs.declared.lines.Telling.{Telling}
use Rattle.jcuts.specs.declared.standing.Standing.{Standing}

-- ---- what it is told of, and where

-- where a log goes on: an address, and what operations are planned on
pub record Point : Type 0 where
  pub address : ℕ
  pub index : Indexed

-- on a base
abbrev pub base_point : Endian → Flash → List ℕ → Point
base_point e flash base =
    record {
      address = resume_address e flash.geometry.block flash.blocks base;
      index = index_of_image e flash.geometry.block base;
    }

-- the operations, the numbers of their lines, and what is told of their nodes
pub record Asked : Type 0 where
  pub telling : Telling
  pub ops : List Op
  pub lines : List ℕ

-- one of the operations, the number of its line, and what is told of its nodes
pub record AskedOne : Type 0 where
  pub telling : Telling
  pub op : Op
  pub line : ℕ

-- ---- a log that is planned

module _ {E : Type 0} {order : OfOrder E} {numbers : OfByteOrder E} {sink : OfSink Held} where
  abbrev pub flash_of : Session E Held order numbers sink → Flash
  flash_of plan = record {
    geometry = record { block = block_size_of plan };
    blocks = blocks_of plan;
    page = page_of plan;
  }

  abbrev pub point_of : Session E Held order numbers sink → Point
  point_of plan = record { address = cursor_of plan; index = index_of_log plan }

  -- another operation can be planned
  pub record IsReady (plan : Session E Held order numbers sink) : Type 0 where
    pub whole : IsFalse (is_broken plan)
    pub can : CanPlan (page_size (page_of plan)) (block_size_of plan) (blocks_of plan)
        (cursor_of plan) (index_of_log plan)
    pub none : (sink_of plan).bytes.items ≡ []

-- ---- one operation

-- The operation is accepted: these are the nodes of its steps, and writing goes on after them.
abbrev pub IsPlannedAt : Endian → Flash → Point → Op → Point → List Standing → Type 0
IsPlannedAt e flash from o to nodes =
    IsPlannedOp (written_flash e flash) from.address from.index o to.address to.index nodes

-- it is not
abbrev pub IsDeclined : Endian → Flash → Point → Op → SessionFault → Type 0
IsDeclined e flash from o fault =
    Declines (page_size flash.page) e flash.geometry.block flash.blocks
    from.address from.index o fault

-- Where room was wanting for it: the least number of blocks that hold it, and so all before it,
-- where the greatest flash does, unless memory ran out for that. Nothing at another fault.
abbrev pub TellsLeast : {X : Type 0} → Endian → Flash → Point → Op → SessionFault
    → Result (Option ℕ) X → Type 0
TellsLeast e flash at o (session.Full wanted left) (Ok blocks) = (steps : List Step)
    × (planned_by (page_size flash.page) at.index o ≡ Ok steps)
    × (blocks ≡ least_blocks flash.geometry.block at.address (written e at.index steps))
TellsLeast e flash at o (session.Full wanted left) (Err _) = ⊤
TellsLeast e flash at o (session.Refused f) blocks = blocks ≡ Ok None
TellsLeast e flash at o session.ReadOnly blocks = blocks ≡ Ok None
TellsLeast e flash at o session.Sink blocks = blocks ≡ Ok None
TellsLeast e flash at o session.OutOfMemory blocks = blocks ≡ Ok None
TellsLeast e flash at o session.Broken blocks = blocks ≡ Ok None
TellsLeast e flash at o session.Geometry blocks = blocks ≡ Ok None

-- so many nodes, and so many of them are weak
pub record IsCounted (list : List Standing) (counts : Counts) : Type 0 where
  pub nodes : counts.nodes ≡ length list
  pub weak : counts.weak ≡ weak_count list

-- what is told of its nodes, by the number of its line
abbrev pub told_of_op : Telling → ℕ → List Standing → List ℕ
told_of_op telling line nodes = text_of_nodes telling (step_nodes line (length nodes) 1 nodes)

-- It is accepted, its nodes are told, and writing goes on after them; it is declined, and nothing
-- is told but how many blocks it needs; or the sink failed, and a beginning of it went out.
abbrev pub TellsOp : Endian → Flash → AskedOne → Point → Point → SinkChange
    → Result Counts CutsFault → Type 0
TellsOp e flash asked from to sink (Ok counts) =
    (nodes : List Standing) × IsPlannedAt e flash from asked.op to nodes × IsCounted nodes counts
    × Appends sink.old sink.new (told_of_op asked.telling asked.line nodes)
    × (sink.now ≡ sink.before)
TellsOp e flash asked from to sink (Err (told.Session fault None blocks)) = ⊥
TellsOp e flash asked from to sink (Err (told.Session fault (Some n) blocks)) =
    (n ≡ asked.line) × IsDeclined e flash from asked.op fault × (sink.new ≡ sink.old)
    × (sink.now ≡ sink.before) × TellsLeast e flash from asked.op fault blocks
TellsOp e flash asked from to sink (Err told.Output) =
    (nodes : List Standing) × IsPlannedAt e flash from asked.op to nodes
    × PutsPart sink.old sink.new (told_of_op asked.telling asked.line nodes)
    × (sink.now ≡ next_count sink.before)

-- ---- the first of several

abbrev pub first_steps : Flash → Point → List Op → ℕ → List Step
first_steps flash from ops n = steps_of_first (page_size flash.page) from.index ops n

-- their nodes' bytes
abbrev pub first_nodes : Endian → Flash → Point → List Op → ℕ → List (List ℕ)
first_nodes e flash from ops n = written e from.index (first_steps flash from ops n)

-- from where on each of them stands
abbrev pub first_standings : Endian → Flash → Point → List Op → ℕ → List Standing
first_standings e flash from ops n =
    standings e flash.geometry.block from.address (first_nodes e flash from ops n)

-- So many operations are accepted, and lead from one point to another.
pub record AdvancesTo (e : Endian) (flash : Flash) (from : Point) (ops : List Op) (n : ℕ)
    (to : Point) : Type 0 where
  pub planned : n ≤ length (plans_of (page_size flash.page) from.index ops)
  pub fits : IsTrue (fit flash.geometry.block flash.blocks from.address
      (first_nodes e flash from ops n))
  pub address : to.address
      ≡ end_of_all flash.geometry.block from.address (first_nodes e flash from ops n)
  pub index : to.index ≡ advanced_all from.index (first_steps flash from ops n)

-- what is told of their nodes
abbrev pub first_text : Endian → Flash → Asked → Point → ℕ → List ℕ
first_text e flash asked from n = text_of_nodes asked.telling
    (nodes_told e flash.geometry.block from.address from.index
    (take n (plans_of (page_size flash.page) from.index asked.ops)) asked.lines)

-- what is told last, of all
abbrev pub last_text : Endian → Flash → Asked → Point → List ℕ
last_text e flash asked from =
    let n = length asked.ops in
    let nodes = first_standings e flash from asked.ops n in
    end_text asked.telling n (length nodes) from.address
    (end_of_all flash.geometry.block from.address (first_nodes e flash from asked.ops n))
    (weak_count nodes)

-- ---- all of them

-- The first n are accepted, and lead to where the next one, whose line has this number, is
-- declined.
pub record DeclinesNext (e : Endian) (flash : Flash) (asked : Asked) (from : Point) (n line : ℕ)
    (fault : SessionFault) : Type 0 where
  pub at : Point
  pub next : Op
  pub leads : AdvancesTo e flash from asked.ops n at
  pub is_next : slice_get asked.ops n ≡ Some next
  pub line_is : slice_get asked.lines n ≡ Some line
  pub declines : IsDeclined e flash at next fault

-- All operations are accepted, and told in order.
pub record AreAllTold (e : Endian) (flash : Flash) (asked : Asked) (from to : Point)
    (sink : SinkChange) (counts : Counts) : Type 0 where
  pub leads : AdvancesTo e flash from asked.ops (length asked.ops) to
  pub counted : IsCounted (first_standings e flash from asked.ops (length asked.ops)) counts
  pub put : Appends sink.old sink.new (first_text e flash asked from (length asked.ops))
  pub failed : sink.now ≡ sink.before

-- One is declined, and those before it are told; with the number of its line, and how many blocks
-- it needs where room was wanting.
abbrev pub TellsUpTo : {X : Type 0} → Endian → Flash → Asked → Point → SinkChange → SessionFault
    → (ℕ × Result (Option ℕ) X) → Type 0
TellsUpTo e flash asked from sink fault at =
    (n : ℕ) × (next : DeclinesNext e flash asked from n at.0 fault)
    × Appends sink.old sink.new (first_text e flash asked from n) × (sink.now ≡ sink.before)
    × TellsLeast e flash next.at next.next fault at.1

-- The sink failed at one that is accepted: a beginning of what is told of the nodes up to its own
-- went out.
abbrev pub TellsPart : Endian → Flash → Asked → Point → SinkChange → Type 0
TellsPart e flash asked from sink =
    (n : ℕ) × ((to : Point) × AdvancesTo e flash from asked.ops n to)
    × PutsPart sink.old sink.new (first_text e flash asked from n)
    × (sink.now ≡ next_count sink.before)

-- the one or the other
abbrev pub TellsOps : Endian → Flash → Asked → Point → Point → SinkChange
    → Result Counts CutsFault → Type 0
TellsOps e flash asked from to sink (Ok counts) = AreAllTold e flash asked from to sink counts
TellsOps e flash asked from to sink (Err (told.Session fault None blocks)) = ⊥
TellsOps e flash asked from to sink (Err (told.Session fault (Some line) blocks)) =
    TellsUpTo e flash asked from sink fault (line, blocks)
TellsOps e flash asked from to sink (Err told.Output) = TellsPart e flash asked from sink

-- All are accepted, they are told in order, and then the last line; so many of their nodes are
-- weak.
pub record AreCutsTold (e : Endian) (flash : Flash) (asked : Asked) (from : Point)
    (sink : SinkChange) (weak : ℕ) : Type 0 where
  pub to : Point
  pub leads : AdvancesTo e flash from asked.ops (length asked.ops) to
  pub counted : weak ≡ weak_count (first_standings e flash from asked.ops (length asked.ops))
  pub put : Appends sink.old sink.new
      (first_text e flash asked from (length asked.ops) ++ last_text e flash asked from)
  pub failed : sink.now ≡ sink.before

-- All are accepted, and the sink failed at the last line.
abbrev pub TellsAllButEnd : Endian → Flash → Asked → Point → SinkChange → Type 0
TellsAllButEnd e flash asked from sink =
    ((to : Point) × AdvancesTo e flash from asked.ops (length asked.ops) to)
    × PutsPart sink.old sink.new
    (first_text e flash asked from (length asked.ops) ++ last_text e flash asked from)
    × (sink.now ≡ next_count sink.before)

-- rule: The log: The output on operations one after the other: those accepted, then the last line;
--   or a fault.
--   definitions: jcuts.Cuts.PutsCuts, jcuts.Cuts.AdvancesTo, jcuts.Cuts.DeclinesNext
--   code: jcuts::cuts::put_cuts
--   laws: jcuts::laws::lines_are_nodes, jcuts::laws::told_survives
-- Operations on a base are told, or those up to one that is declined; or memory ran out, and
-- nothing is told; or the sink failed, and a beginning went out. The answer is how many nodes are
-- weak.
abbrev pub PutsCuts : Endian → Flash → List ℕ → Asked → SinkChange → Result ℕ CutsFault → Type 0
PutsCuts e flash base asked sink (Ok weak) =
    AreCutsTold e flash asked (base_point e flash base) sink weak
PutsCuts e flash base asked sink (Err (told.Session fault None blocks)) =
    (fault ≡ session.OutOfMemory) × (sink.new ≡ sink.old) × (sink.now ≡ sink.before)
    × (blocks ≡ Ok None)
PutsCuts e flash base asked sink (Err (told.Session fault (Some line) blocks)) =
    TellsUpTo e flash asked (base_point e flash base) sink fault (line, blocks)
PutsCuts e flash base asked sink (Err told.Output) =
    TellsPart e flash asked (base_point e flash base) sink
    ⊎ TellsAllButEnd e flash asked (base_point e flash base) sink
