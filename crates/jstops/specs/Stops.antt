-- What is told of operations that follow one another, in forms of their nodes.
use Rattle.std.specs.Prelude.{◌≡◌, ◌⊎◌, ℕ, List, length, slice_get, Some, None, Result, Ok, Err}
use Rattle.std.specs.Io.KnownBytes.{Appends}
use Rattle.flashbase.specs.Device.{PutsPart, next_count}
use Rattle.flashbase.specs.Sinks.{SinkChange}
use Rattle.jsteps.specs.declared.op.Op.{Op}
use Rattle.jlog.specs.declared.fault.SessionFault.{SessionFault}
use Rattle.jlog.specs.declared.fault.SessionFault.TheVariants as session
use Rattle.jcuts.specs.Cuts.{Asked, AskedOne, IsCounted, told_of_op}
use Rattle.jcuts.specs.Lines.{weak_count}
use Rattle.jcuts.specs.declared.cuts.Counts.{Counts}
use Rattle.jcuts.specs.declared.cuts.CutsFault.{CutsFault}
use Rattle.jcuts.specs.declared.cuts.CutsFault.TheVariants as told
use Rattle.jcuts.specs.declared.standing.Standing.{Standing}
use Rattle.jstops.specs.Planned.{Forming, HeldPoint, form_standings, IsPlannedAs, IsDeclinedAs}
use Rattle.jstops.specs.FormLines.{AdvancesAs, forms_text, all_forms_text}

-- ---- one operation

-- It is accepted, its forms are told, and writing goes on after them; it is declined, and nothing
-- is told; or the sink failed, and a beginning of it went out.
abbrev pub TellsStop : Forming → AskedOne → HeldPoint → HeldPoint → SinkChange
    → Result Counts CutsFault → Type 0
TellsStop on asked from to sink (Ok counts) =
    (nodes : List Standing) × IsPlannedAs on from asked.op to nodes × IsCounted nodes counts
    × Appends sink.old sink.new (told_of_op asked.telling asked.line nodes)
    × (sink.now ≡ sink.before)
TellsStop on asked from to sink (Err (told.Session fault None blocks)) = ⊥
TellsStop on asked from to sink (Err (told.Session fault (Some n) blocks)) =
    (n ≡ asked.line) × IsDeclinedAs on from asked.op fault × (sink.new ≡ sink.old)
    × (sink.now ≡ sink.before) × (blocks ≡ Ok None)
TellsStop on asked from to sink (Err told.Output) =
    (nodes : List Standing) × IsPlannedAs on from asked.op to nodes
    × PutsPart sink.old sink.new (told_of_op asked.telling asked.line nodes)
    × (sink.now ≡ next_count sink.before)

-- ---- all of them

-- The first n are accepted in these forms, and lead to where the next one, whose line has this
-- number, is declined.
pub record DeclinesNextAs (on : Forming) (asked : Asked) (from : HeldPoint) (n line : ℕ)
    (forms : List (List ℕ)) (fault : SessionFault) : Type 0 where
  pub at : HeldPoint
  pub next : Op
  pub leads : AdvancesAs on from asked.ops n forms at
  pub is_next : slice_get asked.ops n ≡ Some next
  pub line_is : slice_get asked.lines n ≡ Some line
  pub declines : IsDeclinedAs on at next fault

-- All operations are accepted in these forms, and told in order.
pub record AreFormsTold (on : Forming) (asked : Asked) (from to : HeldPoint)
    (forms : List (List ℕ)) (sink : SinkChange) (counts : Counts) : Type 0 where
  pub leads : AdvancesAs on from asked.ops (length asked.ops) forms to
  pub counted : IsCounted (form_standings on from forms) counts
  pub put : Appends sink.old sink.new (forms_text on asked from (length asked.ops) forms)
  pub failed : sink.now ≡ sink.before

-- One is declined, and those before it are told.
abbrev pub TellsFormsUpTo : Forming → Asked → HeldPoint → SinkChange → SessionFault → ℕ → Type 0
TellsFormsUpTo on asked from sink fault line = (n : ℕ) × (forms : List (List ℕ))
    × DeclinesNextAs on asked from n line forms fault
    × Appends sink.old sink.new (forms_text on asked from n forms) × (sink.now ≡ sink.before)

-- The sink failed at one that is accepted: a beginning of what is told of the forms up to its own
-- went out.
abbrev pub TellsFormsPart : Forming → Asked → HeldPoint → SinkChange → Type 0
TellsFormsPart on asked from sink = (n : ℕ) × (forms : List (List ℕ))
    × ((to : HeldPoint) × AdvancesAs on from asked.ops n forms to)
    × PutsPart sink.old sink.new (forms_text on asked from n forms)
    × (sink.now ≡ next_count sink.before)

-- the one or the other
abbrev pub TellsStops : Forming → Asked → HeldPoint → HeldPoint → SinkChange
    → Result Counts CutsFault → Type 0
TellsStops on asked from to sink (Ok counts) =
    (forms : List (List ℕ)) × AreFormsTold on asked from to forms sink counts
TellsStops on asked from to sink (Err (told.Session fault None blocks)) = ⊥
TellsStops on asked from to sink (Err (told.Session fault (Some line) blocks)) =
    TellsFormsUpTo on asked from sink fault line × (blocks ≡ Ok None)
TellsStops on asked from to sink (Err told.Output) = TellsFormsPart on asked from sink

-- All are accepted in these forms, which are told in order, and then the last line; so many of them
-- are weak.
pub record AreStopsTold (on : Forming) (asked : Asked) (from : HeldPoint) (forms : List (List ℕ))
    (sink : SinkChange) (weak : ℕ) : Type 0 where
  pub to : HeldPoint
  pub leads : AdvancesAs on from asked.ops (length asked.ops) forms to
  pub counted : weak ≡ weak_count (form_standings on from forms)
  pub put : Appends sink.old sink.new (all_forms_text on asked from forms)
  pub failed : sink.now ≡ sink.before

-- All are accepted, and the sink failed at the last line.
abbrev pub TellsFormsButEnd : Forming → Asked → HeldPoint → SinkChange → Type 0
TellsFormsButEnd on asked from sink = (forms : List (List ℕ))
    × ((to : HeldPoint) × AdvancesAs on from asked.ops (length asked.ops) forms to)
    × PutsPart sink.old sink.new (all_forms_text on asked from forms)
    × (sink.now ≡ next_count sink.before)

-- rule: The log: The output on operations one after the other, of an image mounted through its
--   compression: the forms of those accepted, then the last line; or a fault.
--   definitions: jstops.Stops.PutsStops, jstops.FormLines.AdvancesAs, jstops.Stops.DeclinesNextAs
--   code: jstops::stops::put_stops
--   laws: jstops::laws::lines_are_forms, jstops::laws::stops_survive
-- Operations are told from a point on, or those up to one that is declined; or memory ran out, and
-- nothing is told; or the sink failed, and a beginning went out. The answer is how many forms are
-- weak.
abbrev pub PutsStops : Forming → Asked → HeldPoint → SinkChange → Result ℕ CutsFault → Type 0
PutsStops on asked from sink (Ok weak) =
    (forms : List (List ℕ)) × AreStopsTold on asked from forms sink weak
PutsStops on asked from sink (Err (told.Session fault None blocks)) =
    (fault ≡ session.OutOfMemory) × (sink.new ≡ sink.old) × (sink.now ≡ sink.before)
    × (blocks ≡ Ok None)
PutsStops on asked from sink (Err (told.Session fault (Some line) blocks)) =
    TellsFormsUpTo on asked from sink fault line × (blocks ≡ Ok None)
PutsStops on asked from sink (Err told.Output) =
    TellsFormsPart on asked from sink ⊎ TellsFormsButEnd on asked from sink
