-- Whether a folder of the system prints nothing of how far the work on it is.
use Rattle.std.specs.Prelude.{Bool, is_none}
use Rattle.jfolders.specs.declared.keeper.KeepingFolder.{KeepingFolder}
use Rattle.jhost.specs.declared.filled.FilledFolder.{FilledFolder}
use Rattle.jhost.specs.declared.progress.Progress.{Progress}
use Rattle.jhost.specs.declared.read.ReadFolder.{ReadFolder}

-- nothing is due to be printed
abbrev pub is_quiet : {R : Type 0} → Progress R → Bool
is_quiet progress = is_none progress.due

abbrev pub is_filling_quiet : {R F D : Type 0} → FilledFolder R F D → Bool
is_filling_quiet folder = is_quiet folder.progress

abbrev pub is_reading_quiet : {R F D : Type 0} → ReadFolder R F D → Bool
is_reading_quiet folder = is_quiet folder.progress

abbrev pub is_keeping_quiet : {R F D O S : Type 0}
    → KeepingFolder (ReadFolder R F D) O S → Bool
is_keeping_quiet folder = is_reading_quiet folder.folder
