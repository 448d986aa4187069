-- What an error of the host is to a folder that is filled.
use Rattle.std.specs.declared.io.ErrorKind.{ErrorKind}
use Rattle.std.specs.declared.io.ErrorKind.TheVariants as kind
use Rattle.jextract.specs.declared.folder.FolderFault.{FolderFault}
use Rattle.jextract.specs.declared.folder.FolderFault.TheVariants.{Refused, NoSpace, OutOfMemory}

-- A full device and a used quota are no space. Want of memory is not the host's refusal, and all
-- else is.
abbrev pub filling_fault : ErrorKind → FolderFault
filling_fault kind.OutOfMemory = OutOfMemory
filling_fault kind.StorageFull = NoSpace
filling_fault kind.QuotaExceeded = NoSpace
filling_fault _ = Refused
