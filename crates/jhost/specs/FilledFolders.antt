-- A folder of the system that is filled.
use Rattle.std.specs.Prelude.{ℕ, List, Option, string_bytes}
use Rattle.std.specs.declared.io.ErrorKind.{ErrorKind}
use Rattle.jhost.specs.declared.file.HostFile.{HostFile}
use Rattle.jhost.specs.declared.filled.FilledFolder.{FilledFolder}

-- the path of the host at which it is
abbrev pub filled_root : {R F D : Type 0} → FilledFolder R F D → List ℕ
filled_root folder = string_bytes folder.root

-- the kind of the host's last error
abbrev pub filled_kind : {R F D : Type 0} → FilledFolder R F D → ErrorKind
filled_kind folder = folder.kind

-- that of a file's last error, if there was one
abbrev pub file_kind : {F : Type 0} → HostFile F → Option ErrorKind
file_kind file = file.kind
