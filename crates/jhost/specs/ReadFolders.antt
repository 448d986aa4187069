-- A folder of the system that is read.
use Rattle.std.specs.Prelude.{ℕ, List, string_bytes}
use Rattle.std.specs.declared.io.ErrorKind.{ErrorKind}
use Rattle.jhost.specs.declared.read.ReadFolder.{ReadFolder}

-- the path of the host at which it is
abbrev pub read_root : {R F D : Type 0} → ReadFolder R F D → List ℕ
read_root folder = string_bytes folder.root

-- the path of the host that it was asked for last
abbrev pub read_whole : {R F D : Type 0} → ReadFolder R F D → List ℕ
read_whole folder = string_bytes folder.whole

-- the kind of the host's last error
abbrev pub last_kind : {R F D : Type 0} → ReadFolder R F D → ErrorKind
last_kind folder = folder.kind
