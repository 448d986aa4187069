-- What an answer of the system comes to.
use Rattle.std.specs.Prelude.{Result, Ok, Err}
use Rattle.std.specs.IoError.{error_kind}
use Rattle.std.specs.declared.io.Error.{Error}
use Rattle.std.specs.declared.io.ErrorKind.{ErrorKind}
use Rattle.std.specs.declared.io.ErrorKind.TheVariants as kind
use Rattle.jfolder.specs.declared.fault.FolderFault.{FolderFault}
use Rattle.jfolder.specs.declared.fault.FolderFault.TheVariants as folder

-- rule: Listings: What an answer of the system comes to.
--   definitions: jhost.Answers.fault_of_kind, jhost.Answers.answer_of
--   code: jhost::read::fault_of, jhost::read::answered
-- Memory ran out, or what was asked for is no text; all else is a refusal.
abbrev pub fault_of_kind : ErrorKind → FolderFault
fault_of_kind kind.OutOfMemory = folder.OutOfMemory
fault_of_kind kind.InvalidFilename = folder.NoText
fault_of_kind _ = folder.Refused

abbrev pub answer_of : {T : Type 0} → Result T Error → Result T FolderFault
answer_of (Ok answer) = Ok answer
answer_of (Err error) = Err (fault_of_kind (error_kind error))
