-- Whether it is told how far work is.
use Rattle.std.specs.Prelude.{◌≡◌, false, None}
use Rattle.jhost.specs.declared.filled.FilledFolder.{FilledFolder}
use Rattle.jhost.specs.declared.progress.Progress.{Progress}
use Rattle.jhost.specs.declared.read.ReadFolder.{ReadFolder}

-- nothing is due to be told
abbrev pub IsSilent : {R : Type 0} → Progress R → Type 0
IsSilent progress = progress.due ≡ None

abbrev pub FillsInSilence : {R F D : Type 0} → FilledFolder R F D → Type 0
FillsInSilence folder = IsSilent folder.progress

abbrev pub ReadsInSilence : {R F D : Type 0} → ReadFolder R F D → Type 0
ReadsInSilence folder = IsSilent folder.progress

-- nothing that was told is there still
abbrev pub IsCleared : {R : Type 0} → Progress R → Type 0
IsCleared progress = progress.is_shown ≡ false

abbrev pub HidesFilling : {R F D : Type 0} → FilledFolder R F D → Type 0
HidesFilling folder = IsCleared folder.progress

abbrev pub HidesReading : {R F D : Type 0} → ReadFolder R F D → Type 0
HidesReading folder = IsCleared folder.progress
