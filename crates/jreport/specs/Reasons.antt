-- Why the host refuses a file, as far as it tells.
use Rattle.std.specs.Prelude.{ℕ, ◌==◌, List, [], ◌++◌, length, codes, if◌then◌else◌}
use Rattle.std.specs.declared.io.ErrorKind.{ErrorKind}
use Rattle.std.specs.declared.io.ErrorKind.TheVariants as kind
use Rattle.jreport.specs.declared.reason.Reason.{Reason}
use Rattle.jreport.specs.declared.reason.Reason.TheVariants as reason

-- A used quota is no space, as a full device is. A name that the host can't have is a bad one.
abbrev pub reason_of_kind : ErrorKind → Reason
reason_of_kind kind.NotFound = reason.NotFound
reason_of_kind kind.PermissionDenied = reason.NoPermission
reason_of_kind kind.IsADirectory = reason.IsDirectory
reason_of_kind kind.NotADirectory = reason.NotDirectory
reason_of_kind kind.AlreadyExists = reason.Exists
reason_of_kind kind.StorageFull = reason.NoSpace
reason_of_kind kind.QuotaExceeded = reason.NoSpace
reason_of_kind kind.ReadOnlyFilesystem = reason.ReadOnly
reason_of_kind kind.FileTooLarge = reason.TooLarge
reason_of_kind kind.FilesystemLoop = reason.TooManyLinks
reason_of_kind kind.InvalidFilename = reason.BadName
reason_of_kind kind.ExecutableFileBusy = reason.Busy
reason_of_kind kind.ResourceBusy = reason.Busy
reason_of_kind _ = reason.Other

-- what is said of it, if anything is
unfoldable pub host_text : Reason → List ℕ
host_text reason.NotFound = codes "no such file"
host_text reason.NoPermission = codes "no permission"
host_text reason.IsDirectory = codes "is a directory"
host_text reason.NotDirectory = codes "a part of the path is no directory"
host_text reason.Exists = codes "exists"
host_text reason.NoSpace = codes "no space"
host_text reason.ReadOnly = codes "read-only file system"
host_text reason.TooLarge = codes "the file grows too large"
host_text reason.TooManyLinks = codes "too many symbolic links"
host_text reason.BadName = codes "no file can have this name"
host_text reason.Busy = codes "in use"
host_text reason.EndsEarly = codes "is shorter than --offset and --length say"
host_text reason.Other = []

-- the same behind the name of the file
abbrev pub file_note : Reason → List ℕ
file_note why =
    if length (host_text why) == 0 then [] else codes ": " ++ host_text why

-- the same of a file that was opened, and failed before its end was read; that is said where
-- nothing else is
abbrev pub unread_note : Reason → List ℕ
unread_note why =
    if length (host_text why) == 0 then codes ": was not read to its end" else
    codes ": " ++ host_text why
