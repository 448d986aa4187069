-- What is told of operations that follow one another in a row of openings.
use Rattle.std.specs.Prelude.{◌≡◌, ◌⊎◌, ℕ, List, length, slice_get, Some, None, Result, Ok, Err}
use Rattle.std.specs.Io.KnownBytes.{Appends}
use Rattle.flashbase.specs.Device.{PutsPart, next_count}
use Rattle.flashbase.specs.Sinks.{SinkChange}
use Rattle.jsteps.specs.declared.op.Op.{Op}
use Rattle.jlog.specs.declared.fault.SessionFault.{SessionFault}
use Rattle.jlog.specs.declared.fault.SessionFault.TheVariants as session
use Rattle.jcuts.specs.Cuts.{Asked, AskedOne, IsCounted, told_of_op}
use Rattle.jcuts.specs.Lines.{weak_count}
use Rattle.jcuts.specs.declared.cuts.Counts.{Counts}
use Rattle.jcuts.specs.declared.cuts.CutsFault.{CutsFault}
use Rattle.jcuts.specs.declared.cuts.CutsFault.TheVariants as told
use Rattle.jcuts.specs.declared.standing.Standing.{Standing}
use Rattle.jstops.specs.Planned.{Forming}
use Rattle.jhalts.specs.InRow.{RowPoint, row_standings, IsPlannedIn, IsDeclinedIn}
use Rattle.jhalts.specs.RowLines.{AdvancesIn, row_text, all_row_text}

-- ---- one operation

-- It is accepted, its forms are told, and writing goes on after them; it is declined, and nothing
-- is told; or the sink failed, and a beginning of it went out.
abbrev pub TellsHalt : Forming → AskedOne → RowPoint → RowPoint → SinkChange
    → Result Counts CutsFault → Type 0
TellsHalt on asked from to sink (Ok counts) =
    (nodes : List Standing) × IsPlannedIn on from asked.op to nodes × IsCounted nodes counts
    × Appends sink.old sink.new (told_of_op asked.telling asked.line nodes)
    × (sink.now ≡ sink.before)
TellsHalt on asked from to sink (Err (told.Session fault None blocks)) = ⊥
TellsHalt on asked from to sink (Err (told.Session fault (Some n) blocks)) =
    (n ≡ asked.line) × IsDeclinedIn on from asked.op fault × (sink.new ≡ sink.old)
    × (sink.now ≡ sink.before) × (blocks ≡ Ok None)
TellsHalt on asked from to sink (Err told.Output) =
    (nodes : List Standing) × IsPlannedIn on from asked.op to nodes
    × PutsPart sink.old sink.new (told_of_op asked.telling asked.line nodes)
    × (sink.now ≡ next_count sink.before)

-- ---- all of them

-- The first n are accepted in these forms, and lead to where the next one, whose line has this
-- number, is declined.
pub record DeclinesNextIn (on : Forming) (asked : Asked) (from : RowPoint) (n line : ℕ)
    (forms : List (List ℕ)) (fault : SessionFault) : Type 0 where
  pub at : RowPoint
  pub next : Op
  pub leads : AdvancesIn on from asked.ops n forms at
  pub is_next : slice_get asked.ops n ≡ Some next
  pub line_is : slice_get asked.lines n ≡ Some line
  pub declines : IsDeclinedIn on at next fault

-- All operations are accepted in these forms, and told in order.
pub record AreRowFormsTold (on : Forming) (asked : Asked) (from to : RowPoint)
    (forms : List (List ℕ)) (sink : SinkChange) (counts : Counts) : Type 0 where
  pub leads : AdvancesIn on from asked.ops (length asked.ops) forms to
  pub counted : IsCounted (row_standings on from forms) counts
  pub put : Appends sink.old sink.new (row_text on asked from (length asked.ops) forms)
  pub failed : sink.now ≡ sink.before

-- One is declined, and those before it are told.
abbrev pub TellsRowUpTo : Forming → Asked → RowPoint → SinkChange → SessionFault → ℕ → Type 0
TellsRowUpTo on asked from sink fault line = (n : ℕ) × (forms : List (List ℕ))
    × DeclinesNextIn on asked from n line forms fault
    × Appends sink.old sink.new (row_text on asked from n forms) × (sink.now ≡ sink.before)

-- The sink failed at one that is accepted: a beginning of what is told of the forms up to its own
-- went out.
abbrev pub TellsRowPart : Forming → Asked → RowPoint → SinkChange → Type 0
TellsRowPart on asked from sink = (n : ℕ) × (forms : List (List ℕ))
    × ((to : RowPoint) × AdvancesIn on from asked.ops n forms to)
    × PutsPart sink.old sink.new (row_text on asked from n forms)
    × (sink.now ≡ next_count sink.before)

-- the one or the other
abbrev pub TellsHalts : Forming → Asked → RowPoint → RowPoint → SinkChange
    → Result Counts CutsFault → Type 0
TellsHalts on asked from to sink (Ok counts) =
    (forms : List (List ℕ)) × AreRowFormsTold on asked from to forms sink counts
TellsHalts on asked from to sink (Err (told.Session fault None blocks)) = ⊥
TellsHalts on asked from to sink (Err (told.Session fault (Some line) blocks)) =
    TellsRowUpTo on asked from sink fault line × (blocks ≡ Ok None)
TellsHalts on asked from to sink (Err told.Output) = TellsRowPart on asked from sink

-- All are accepted in these forms, which are told in order, and then the last line; so many of them
-- are weak.
pub record AreHaltsTold (on : Forming) (asked : Asked) (from : RowPoint) (forms : List (List ℕ))
    (sink : SinkChange) (weak : ℕ) : Type 0 where
  pub to : RowPoint
  pub leads : AdvancesIn on from asked.ops (length asked.ops) forms to
  pub counted : weak ≡ weak_count (row_standings on from forms)
  pub put : Appends sink.old sink.new (all_row_text on asked from forms)
  pub failed : sink.now ≡ sink.before

-- All are accepted, and the sink failed at the last line.
abbrev pub TellsRowButEnd : Forming → Asked → RowPoint → SinkChange → Type 0
TellsRowButEnd on asked from sink = (forms : List (List ℕ))
    × ((to : RowPoint) × AdvancesIn on from asked.ops (length asked.ops) forms to)
    × PutsPart sink.old sink.new (all_row_text on asked from forms)
    × (sink.now ≡ next_count sink.before)

-- rule: The log: The output on operations that `update` would write: the forms of those accepted,
--   then the last line; or a fault.
--   definitions: jhalts.Halts.PutsHalts, jhalts.RowLines.AdvancesIn, jhalts.Halts.DeclinesNextIn
--   code: jhalts::halts::put_halts
--   laws: jhalts::laws::lines_are_forms_in_row, jhalts::laws::halts_survive
-- Operations are told from a point on, or those up to one that is declined; or memory ran out, and
-- nothing is told; or the sink failed, and a beginning went out. The answer is how many forms are
-- weak.
abbrev pub PutsHalts : Forming → Asked → RowPoint → SinkChange → Result ℕ CutsFault → Type 0
PutsHalts on asked from sink (Ok weak) =
    (forms : List (List ℕ)) × AreHaltsTold on asked from forms sink weak
PutsHalts on asked from sink (Err (told.Session fault None blocks)) =
    (fault ≡ session.OutOfMemory) × (sink.new ≡ sink.old) × (sink.now ≡ sink.before)
    × (blocks ≡ Ok None)
PutsHalts on asked from sink (Err (told.Session fault (Some line) blocks)) =
    TellsRowUpTo on asked from sink fault line × (blocks ≡ Ok None)
PutsHalts on asked from sink (Err told.Output) =
    TellsRowPart on asked from sink ⊎ TellsRowButEnd on asked from sink
