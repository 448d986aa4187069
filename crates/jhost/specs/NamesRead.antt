-- Names in a directory, as its entries are read.
use Rattle.std.specs.Prelude.{◌≡◌, ◌+◌, ◌<◌, ◌^◌, ◌++◌, ◌∷◌, [], Result, Ok, Err, ⊤}
use Rattle.std.specs.Fs.{dir_entry_name}
use Rattle.std.specs.IoError.{error_kind}
use Rattle.std.specs.declared.fs.DirEntry.{DirEntry}
use Rattle.std.specs.declared.io.Error.{Error}
use Rattle.std.specs.declared.io.ErrorKind.{ErrorKind}
use Rattle.std.specs.declared.io.ErrorKind.TheVariants as kind
use Rattle.jfolder.specs.Known.{Named}

-- a name that is no text is counted, and any other error is handed back
abbrev pub AddsNoText : Named → Named → ErrorKind → Error → Result (Unit {0}) Error → Type 0
AddsNoText old new kind.InvalidFilename error (Ok _) = (new.texts ≡ old.texts)
    × (old.others + 1 < 2 ^ 64 → new.others ≡ old.others + 1)
AddsNoText old new kind.InvalidFilename error (Err _) = ⊥
AddsNoText old new _ error (Ok _) = ⊥
AddsNoText old new _ error (Err handed) = handed ≡ error

-- an entry of a directory adds its name, unless memory ran out
abbrev pub AddsEntry : {R A F D : Type 0} → Named → Named → Result (DirEntry R A F D) Error
    → Result (Unit {0}) Error → Type 0
AddsEntry old new (Ok entry) (Ok _) =
    new ≡ record { texts = old.texts ++ dir_entry_name entry ∷ []; others = old.others }
AddsEntry old new (Ok entry) (Err _) = ⊤
AddsEntry old new (Err error) done = AddsNoText old new (error_kind error) error done
