-- What is true of commands with `--auto`.
use Rattle.std.specs.Prelude.{◌≡◌, ◌++◌, ℕ, Bool, List, Result, Ok, Err}
use Rattle.jinfo.specs.Infos.{info_of}
use Rattle.jcommand.specs.declared.parsed.Options.{Options}
use Rattle.jedge.specs.Acts.{Act}
use Rattle.jedge.specs.Calls.{Event, Did, Read}
use Rattle.jedge.specs.Laws.{Happened, LooksOnly, MakesNothing}
use Rattle.jedge.specs.Told.{Told}
use Rattle.jedge.specs.declared.fault.Fault.{Fault}
use Rattle.jauto.specs.Leaving.{leaving_act}
use Rattle.jauto.specs.Looking.{options_act}
use Rattle.jauto.specs.Taking.{taking_of}
use Rattle.jauto.specs.declared.taking.Taking.TheVariants as taking

-- options are found without that anything is made, or a file changed
abbrev pub LookingMakesNothing : Type 0
LookingMakesNothing = (writes : Bool) (name : List ℕ) → MakesNothing (options_act writes name)

-- so are spare bytes
abbrev pub LeavingMakesNothing : Type 0
LeavingMakesNothing = (name : List ℕ) → MakesNothing (leaving_act name)

-- the options are those that the bytes tell which were read
abbrev pub FoundAreTold : Type 0
FoundAreTold = (writes : Bool) (name : List ℕ) (events : List Event) (options : Options)
    → options_act writes name events (Ok options)
    → (image : List ℕ) × Happened (Did (Read name image)) events
    × (taking_of writes (info_of image) ≡ taking.Taken options)

-- no options are found, and the command ends by that fault
abbrev pub EndsUnfound : Bool → List ℕ → List Event → Result Told Fault → Type 0
EndsUnfound writes name events result =
    (f : Fault) × options_act writes name events (Err f) × (result ≡ Err f)

-- options are found, and behind that the command does what it does with them, and no more
pub record DoesFound (writes : Bool) (name : List ℕ) (act : Options → Act Told)
    (events : List Event) (result : Result Told Fault) : Type 0 where
  pub options : Options
  pub before : List Event
  pub after : List Event
  pub found : options_act writes name before (Ok options)
  pub looked : LooksOnly before
  pub does : act options after result
  pub all : events ≡ before ++ after
