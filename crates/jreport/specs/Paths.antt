-- The word of a command line that names a path.
use Rattle.std.specs.Prelude.{◌≡◌, ◌<◌, ℕ, List, All, Option, Some, None}
use Rattle.jmount.specs.declared.fault.FindFault.TheVariants as find
use Rattle.jreport.specs.declared.faults.ProgramFault.{ProgramFault}
use Rattle.jreport.specs.declared.faults.ProgramFault.TheVariants as program
use Rattle.jline.specs.Words.{escaped}
use Rattle.jline.specs.Read.{unescaped}

-- the path that a word stands for: escapes are bytes, so an escaped slash is a separator too
abbrev pub path_of : List ℕ → Option (List ℕ)
path_of word = unescaped word

-- why a word is not read: it stands for no bytes, or memory runs out
abbrev pub IsWordFault : Option (List ℕ) → ProgramFault → Type 0
IsWordFault bytes (program.Path find.BadPath) = bytes ≡ None
IsWordFault bytes program.OutOfMemory = Unit {0}
IsWordFault bytes (program.Path find.NotFound) = ⊥
IsWordFault bytes (program.Path find.NotDirectory) = ⊥
IsWordFault bytes (program.Load fault) = ⊥
IsWordFault bytes (program.Scan fault) = ⊥
IsWordFault bytes (program.Mount fault) = ⊥
IsWordFault bytes (program.Clash addr other) = ⊥
IsWordFault bytes (program.File file) = ⊥
IsWordFault bytes (program.NotRead file) = ⊥
IsWordFault bytes (program.Listing bad) = ⊥
IsWordFault bytes (program.Session fault line cause) = ⊥
IsWordFault bytes program.NotRegular = ⊥
IsWordFault bytes program.Output = ⊥
IsWordFault bytes (program.NoSpace name) = ⊥
IsWordFault bytes (program.Data addr) = ⊥
IsWordFault bytes (program.TooLong addr) = ⊥
IsWordFault bytes (program.Image fault) = ⊥

-- A name as it is printed is a word that stands for the name.
abbrev pub EscapedIsReadBack : Type 0
EscapedIsReadBack =
    (bytes : List ℕ) → All (λ b. b < 256) bytes → path_of (escaped bytes) ≡ Some bytes
