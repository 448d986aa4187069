-- What is true of the acts of all commands that make an image of another one.
use Rattle.std.specs.Prelude.{◌≡◌, ◌⊎◌, ◌++◌, Bool, true, List, ℕ, Option, None, Result, Ok, Err}
use Rattle.jclash.specs.declared.parting.LeftOut.{LeftOut}
use Rattle.jcollect.specs.PlanningApart.{ShowsApart}
use Rattle.jcollect.specs.PlanningThrough.{ShowsCompact}
use Rattle.jconvert.specs.Compressing.{compress_fault}
use Rattle.jconvert.specs.Converting.{convert_fault}
use Rattle.jreport.specs.FoundIn.{found_in}
use Rattle.jreport.specs.NoNodes.{HasNoNode}
use Rattle.jreport.specs.declared.reason.Reason.{Reason}
use Rattle.jedge.specs.Acts.{Act}
use Rattle.jedge.specs.Calls.{Event, Did, Compare, Read}
use Rattle.jedge.specs.Laws.{BlamesEvent, Happened, LooksOnly}
use Rattle.jedge.specs.Told.{Told}
use Rattle.jedge.specs.declared.fault.Fault.{Fault}
use Rattle.jedge.specs.declared.fault.Fault.TheVariants as fault
use Rattle.jmakes.specs.Blaming.{HasFailedWriting, IsFileBlamed}
use Rattle.jmakes.specs.Leaving.{LeavesFiles}
use Rattle.jmakes.specs.Making.{filled_to, written_out}
use Rattle.jremakes.specs.Asked.{AskedRemaking, WouldReplace}
use Rattle.jremakes.specs.Commands.{apart_act, compact_act, compact_apart_act, compress_act, decompress_act}
use Rattle.jremakes.specs.Compacting.{CompactPlan, IsCompactPlan, compact_blocks}
use Rattle.jremakes.specs.CompactingApart.{CompactApartPlan, IsCompactApartPlan}
use Rattle.jremakes.specs.Leaving.{left_out_told}
use Rattle.jremakes.specs.Putting.{unwritten_by}

-- a command, and what is asked of it
pub data RemakeCommand : Type 0 where
  Decompress : AskedRemaking → RemakeCommand
  Compress : AskedRemaking → RemakeCommand
  Apart : AskedRemaking → RemakeCommand
  Compact : AskedRemaking → Option ℕ → RemakeCommand
  CompactApart : AskedRemaking → Option ℕ → RemakeCommand

abbrev pub remake_act_of : RemakeCommand → Act Told
remake_act_of (Decompress asked) = decompress_act asked
remake_act_of (Compress asked) = compress_act asked
remake_act_of (Apart asked) = apart_act asked
remake_act_of (Compact asked blocks) = compact_act asked blocks
remake_act_of (CompactApart asked blocks) = compact_apart_act asked blocks

abbrev pub asked_by : RemakeCommand → AskedRemaking
asked_by (Decompress asked) = asked
asked_by (Compress asked) = asked
asked_by (Apart asked) = asked
asked_by (Compact asked blocks) = asked
asked_by (CompactApart asked blocks) = asked

-- ---- all is judged before a file is made

-- an image is not refused
abbrev pub IsAcceptedBy : RemakeCommand → List ℕ → Type 0
IsAcceptedBy (Decompress asked) image =
    convert_fault asked.options.endian asked.options.geometry.block image ≡ None
IsAcceptedBy (Compress asked) image =
    compress_fault asked.options.endian asked.options.geometry.block image ≡ None
IsAcceptedBy (Apart asked) image =
    convert_fault asked.options.endian asked.options.geometry.block image ≡ None
IsAcceptedBy (Compact asked blocks) image = (plan : CompactPlan)
    × IsCompactPlan asked.options.endian asked.options.geometry.block
    (compact_blocks asked.options.geometry.block blocks) image plan
IsAcceptedBy (CompactApart asked blocks) image = (plan : CompactApartPlan)
    × IsCompactApartPlan asked.options.endian asked.options.geometry.block
    (compact_blocks asked.options.geometry.block blocks) image plan

-- The host told whether the image is the file that is made, and gave its bytes; it has a node, may
-- be replaced, and is not refused.
pub record IsJudgedIn (command : RemakeCommand) (events : List Event) : Type 0 where
  pub image : List ℕ
  pub over : Bool
  pub compared : Happened (Did (Compare (asked_by command).image (asked_by command).output.name
      over)) events
  pub read : Happened (Did (Read (asked_by command).image image)) events
  pub nodes : HasNoNode (asked_by command).options.endian
      (asked_by command).options.geometry.block image → ⊥
  pub spared : WouldReplace (asked_by command).options.endian (asked_by command) over image → ⊥
  pub accepted : IsAcceptedBy command image

-- before that no call changes a file
pub record MakesJudged (command : RemakeCommand) (events : List Event) : Type 0 where
  pub before : List Event
  pub after : List Event
  pub looks : LooksOnly before
  pub judged : IsJudgedIn command before
  pub all : events ≡ before ++ after

-- A command changes no file, or all is judged before it does.
abbrev pub JudgedIsRemade : Type 0
JudgedIsRemade = (command : RemakeCommand) (events : List Event) (result : Result Told Fault)
    → remake_act_of command events result → LooksOnly events ⊎ MakesJudged command events

-- ---- with `--atomic`, a fault leaves the files as they were

-- any fault but that of the output, which comes when the file has its name
abbrev pub RemadeIsLeft : Type 0
RemadeIsLeft = (command : RemakeCommand) (events : List Event) (f : Fault)
    → (asked_by command).output.atomic ≡ true → (f ≡ fault.Output → ⊥)
    → remake_act_of command events (Err f) → LeavesFiles events

-- ---- a fault is an event

-- a write failed, for the reason that is told
abbrev pub IsUnwrittenBlamed : Fault → List Event → Type 0
IsUnwrittenBlamed f events =
    (reason : Reason) × (f ≡ unwritten_by reason) × HasFailedWriting reason events

-- A fault that names a file comes with a call on that file that failed, for the same reason: the
-- one that was read, or the one that is made. That of the file's sink comes with a write that
-- failed, and that of the output with a print.
abbrev pub RemadeIsBlamed : Type 0
RemadeIsBlamed = (command : RemakeCommand) (events : List Event) (f : Fault)
    → remake_act_of command events (Err f) → BlamesEvent f events
    ⊎ (IsFileBlamed (asked_by command).output.name f events ⊎ IsUnwrittenBlamed f events)

-- ---- what `compact` makes shows the tree that it read

-- these bytes went to a file, by one call; or there are none
abbrev pub WentOut : List ℕ → List Event → Type 0
WentOut bytes events = (name : List ℕ) × (before : List Event) × (after : List Event)
    × (events ≡ before ++ (written_out name bytes ++ after))

-- An image was read, and another one went out, up to where it is to be filled: of those nodes of
-- the first that matter, so that it shows the same tree through its compression.
pub record ShowsWhatWasRead (asked : AskedRemaking) (events : List Event) : Type 0 where
  pub image : List ℕ
  pub out : List ℕ
  pub read : Happened (Did (Read asked.image image)) events
  pub shows : ShowsCompact asked.options.endian asked.options.geometry.block image out
  pub put : WentOut (filled_to asked.output.filling out) events

abbrev pub CompactedShowsTree : Type 0
CompactedShowsTree = (asked : AskedRemaking) (blocks : Option ℕ) (events : List Event) (told : Told)
    → compact_act asked blocks events (Ok told) → ShowsWhatWasRead asked events

-- The same of one whose nodes clash: it shows the tree that the nodes that stay make, and of each
-- that is left out standard error is told.
pub record ShowsWhatStays (asked : AskedRemaking) (events : List Event) (told : Told) : Type 0 where
  pub image : List ℕ
  pub left : List LeftOut
  pub out : List ℕ
  pub read : Happened (Did (Read asked.image image)) events
  pub shows : ShowsApart asked.options.endian asked.options.geometry.block image left out
  pub put : WentOut (filled_to asked.output.filling out) events
  pub told_is : told ≡ left_out_told left
      (found_in asked.options.endian asked.options.geometry.block image)

abbrev pub CompactedApartShows : Type 0
CompactedApartShows = (asked : AskedRemaking) (blocks : Option ℕ) (events : List Event)
    (told : Told) → compact_apart_act asked blocks events (Ok told)
    → ShowsWhatStays asked events told
