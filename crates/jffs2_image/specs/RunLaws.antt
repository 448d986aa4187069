-- What is true of all commands.
use Rattle.std.specs.Prelude.{◌≡◌, ◌⊎◌, true, List, Some, Result, Err}
use Rattle.clap.specs.Words.{Text}
use Rattle.jcommand.specs.declared.command_line.RequestFault.{RequestFault}
use Rattle.jcommand.specs.declared.parsed.Command.{Command}
use Rattle.jcommand.specs.declared.parsed.Command.TheVariants as command
use Rattle.jcommand.specs.declared.parsed.Placing.{Placing}
use Rattle.jcommand.specs.Requests.{with_options, writes_image}
use Rattle.jcommand.specs.declared.request.Request.{Request}
use Rattle.jedge.specs.Calls.{Event}
use Rattle.jedge.specs.Commands.{reported}
use Rattle.jedge.specs.Laws.{MakesNothing}
use Rattle.jedge.specs.Told.{Told}
use Rattle.jauto.specs.AutoLaws.{DoesFound, EndsUnfound}
use Rattle.jedge.specs.declared.fault.Fault.{Fault}
use Rattle.jedge.specs.declared.fault.Fault.TheVariants as fault
use Rattle.jmakes.specs.Leaving.{LeavesFiles}
use Rattle.jffs2_image.specs.Running.{command_act, found_act, refused_act, request_act}

-- ---- what a command makes beside what it prints

-- nothing; a folder; or a file, about which this is done
pub data Product : Type 0 where
  NoProduct : Product
  NewFolder : Product
  NewFile : Placing → Product

abbrev pub product_of : Command Text → Product
product_of (command.Scan i) = NoProduct
product_of (command.Check c) = NoProduct
product_of (command.CheckThrough c) = NoProduct
product_of (command.List l) = NoProduct
product_of (command.Cat c) = NoProduct
product_of (command.CatInode c) = NoProduct
product_of (command.Info image) = NoProduct
product_of (command.Diff d) = NoProduct
product_of (command.Damage x) = NoProduct
product_of (command.Map m) = NoProduct
product_of (command.History h) = NoProduct
product_of (command.Build b) = NewFile b.target.placing
product_of (command.BuildCompressed b) = NewFile b.target.placing
product_of (command.Append a) = NewFile a.target.placing
product_of (command.Update u) = NewFile u.placing
product_of (command.Cuts c) = NoProduct
product_of (command.CutsThrough c) = NoProduct
product_of (command.CutsUpdate c) = NoProduct
product_of (command.Decompress c) = NewFile c.placing
product_of (command.Apart c) = NewFile c.placing
product_of (command.Compress c) = NewFile c.placing
product_of (command.Compact c) = NewFile c.conversion.placing
product_of (command.CompactApart c) = NewFile c.conversion.placing
product_of (command.Extract x) = NewFolder
product_of (command.Listing l) = NoProduct
product_of (command.Pack p) = NewFile p.placing
product_of (command.PackCompressed p) = NewFile p.placing
product_of (command.Verify v) = NoProduct

-- ---- with `--atomic`, a fault leaves the files as they were

abbrev pub IsAtomic : Product → Type 0
IsAtomic NoProduct = ⊥
IsAtomic NewFolder = ⊥
IsAtomic (NewFile placing) = placing.atomic ≡ true

-- any fault but that of standard output, which comes when the file has its name
abbrev pub AtomicCommandsLeaveFiles : Type 0
AtomicCommandsLeaveFiles = (asked : Request Text) (events : List Event) (f : Fault)
    → IsAtomic (product_of asked.command) → (f ≡ fault.Output → ⊥)
    → request_act asked events (Err f) → LeavesFiles events

-- ---- with `--auto`

-- With the options that are found in its image a command does exactly what it does where they are
-- given, and before that nothing is made; or none are found, and it ends by that fault.
abbrev pub AutoDoesAsGiven : Type 0
AutoDoesAsGiven = (asked : Command Text) (image : Text) (events : List Event)
    (result : Result Told Fault)
    → found_act (Some image) asked events result
    → EndsUnfound (writes_image asked) image events result
    ⊎ DoesFound (writes_image asked) image (λ options. command_act (with_options options asked))
    events result

-- ---- nothing is made

abbrev pub IsPrintedOnly : Product → Type 0
IsPrintedOnly NoProduct = Unit {0}
IsPrintedOnly NewFolder = ⊥
IsPrintedOnly (NewFile placing) = ⊥

-- a command that only prints makes nothing, and changes no file, whatever it answers; nor do words
-- that ask for no command
abbrev pub PrintingMakesNothing : Type 0
PrintingMakesNothing = ((asked : Request Text) → IsPrintedOnly (product_of asked.command)
    → MakesNothing (reported (request_act asked)))
    × ((why : RequestFault) → MakesNothing (refused_act why))
