-- Laws of a session that may pack: one that does not promises what it always did.
use Rattle.std.specs.Prelude.{◌≡◌, ℕ, ◌+◌, ◌%◌, ◌≤◌, true, false, IsTrue, IsFalse, List, ◌++◌, length, map, take, Option, Result}
use Rattle.std.specs.List.{AllByRecursion}
use Rattle.flashbase.specs.Ranges.{AreBytes}
use Rattle.jnode.specs.Header.{header_len}
use Rattle.jnode.specs.Reading.{inode_len}
use Rattle.jnode.specs.Writing.{canonical}
use Rattle.jnode.specs.declared.node.NodeRef.{NodeRef}
use Rattle.jnode.specs.declared.order.Endian.{Endian}
use Rattle.jscan.specs.Pages.{IsPage}
use Rattle.jsteps.specs.Laws.{OpFits}
use Rattle.jsteps.specs.Refusals.{steps_of_first}
use Rattle.jexpand.specs.Expanded.{unpacked_bytes}
use Rattle.jlog.specs.Places.{fit}
use Rattle.jlog.specs.LeftLaws.{IsLoggable}
use Rattle.jlog.specs.Packed.{AreNodeForms}
use Rattle.jlog.specs.Running.{Log}
use Rattle.jlog.specs.DoneThrough.{steps_through, GoesOnAs, SurvivesAfterAs}
use Rattle.flashbase.specs.Sinks.{SinkChange}
use Rattle.jsteps.specs.declared.op.Op.{Op}
use Rattle.jlog.specs.Session.{Flash, LogState, Applies, Runs, attempted}
use Rattle.jlog.specs.SessionAs.{content_len, flash_as, AppliesAs, RunsAs}
use Rattle.jlog.specs.declared.fault.SessionFault.{SessionFault}

-- One that does not pack applies an operation as it always did,
abbrev pub UnpackedApplies : Type 0
UnpackedApplies = (held : ℕ) (flash : Flash) (from : LogState) (o : Op) (to : LogState)
    (sink : SinkChange) (result : Result (Unit {0}) SessionFault)
    → AppliesAs (flash_as false held flash) from o to sink result
    → Applies flash from o to sink result

-- and runs as it did.
abbrev pub UnpackedRuns : Type 0
UnpackedRuns = (held : ℕ) (flash : Flash) (from : LogState) (ops : List Op) (n : ℕ)
    (forms : List (List ℕ)) (to : LogState) (sink : SinkChange) (stopped : Option SessionFault)
    → RunsAs (flash_as false held flash) from ops n forms to sink stopped
    → Runs flash from ops n to sink stopped

-- And what a session does that does not pack, one does that may: so what survives of the one does
-- of the other, on a base that is seen through its compression too.
abbrev pub UnpackedMayPack : Type 0
UnpackedMayPack = (held : ℕ) (flash : Flash) (from : LogState) (ops : List Op) (n : ℕ)
    (forms : List (List ℕ)) (to : LogState) (sink : SinkChange) (stopped : Option SessionFault)
    → RunsAs (flash_as false held flash) from ops n forms to sink stopped
    → RunsAs (flash_as true held flash) from ops n forms to sink stopped

-- ---- what a run does on a base that is seen through its compression

-- how many bytes of content the view holds: those of the base, and those of the forms that went out
abbrev pub held_by : Endian → ℕ → List ℕ → List (List ℕ) → ℕ
held_by e size base before = length (unpacked_bytes e size base) + content_len e before

-- Whatever was done before, in whatever forms: its steps, and then those of the operations that
-- were attempted, survive on the base, in the forms that went out or were to go out.
abbrev pub RunSurvivesAs : Type 0
RunSurvivesAs = (flash : Flash) (base : List ℕ) (done ops : List Op) (before forms : List (List ℕ))
    (from : Log) (n : ℕ) (to : LogState) (sink : SinkChange) (stopped : Option SessionFault)
    → IsPage flash.page → flash.page + (header_len + inode_len) ≤ flash.size
    → GoesOnAs flash base done before from.cursor from.index
    → AreBytes base → AllByRecursion OpFits (take (attempted n to.broken) ops)
    → RunsAs (flash_as true (held_by flash.order flash.size base before) flash)
    (record { log = from; broken = false }) ops n forms to sink stopped
    → (more : List (List ℕ)) × SurvivesAfterAs flash.order flash.size flash.blocks base
    (steps_through flash.page flash.order flash.size base done)
    (steps_of_first flash.page from.index ops (attempted n to.broken)) before (forms ++ more)

-- And the log goes on after what was accepted, unless an operation was written in part.
abbrev pub RunGoesOnAs : Type 0
RunGoesOnAs = (flash : Flash) (base : List ℕ) (done ops : List Op) (before forms : List (List ℕ))
    (from : Log) (n : ℕ) (to : LogState) (sink : SinkChange) (stopped : Option SessionFault)
    → GoesOnAs flash base done before from.cursor from.index
    → AllByRecursion OpFits (take n ops) → IsFalse to.broken
    → RunsAs (flash_as true (held_by flash.order flash.size base before) flash)
    (record { log = from; broken = false }) ops n forms to sink stopped
    → GoesOnAs flash base (done ++ take n ops) (before ++ forms) to.log.cursor to.log.index

-- ---- room

-- Where the nodes' own forms fit, whatever forms of them do: an operation whose nodes fit may be
-- accepted before any of them is packed.
abbrev pub ShorterFormsFit : Type 0
ShorterFormsFit = (e : Endian) (size blocks from : ℕ) (nodes : List NodeRef) (forms : List (List ℕ))
    → size % 4 ≡ 0 → AllByRecursion (IsLoggable e size) nodes → AreNodeForms e nodes forms
    → IsTrue (fit size blocks from (map (canonical e) nodes)) → IsTrue (fit size blocks from forms)
