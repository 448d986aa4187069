-- Which refusal of a command line it is.
use Rattle.jcommand.specs.declared.command_line.RequestFault.{RequestFault}
use Rattle.jcommand.specs.declared.command_line.RequestFault.TheVariants.{Help, Usage, OutOfMemory}

-- an answer to words that ask for help
abbrev pub IsHelp : RequestFault → Type 0
IsHelp (Help text) = Unit {0}
IsHelp (Usage text) = ⊥
IsHelp OutOfMemory = ⊥

-- an answer to wrong words
abbrev pub IsUsage : RequestFault → Type 0
IsUsage (Help text) = ⊥
IsUsage (Usage text) = Unit {0}
IsUsage OutOfMemory = ⊥
