-- A folder that is read whole: the files in it are read as they are found, and kept.
use Rattle.std.specs.Prelude.{◌≡◌, ◌⊎◌, ◌∷◌, [], ℕ, Bool, List, Option, Some, Result, Ok, Err, IfOk}
use Rattle.jbuild.specs.HostFiles.{read_of}
use Rattle.jfolder.specs.Known.{Known}
use Rattle.jfolder.specs.Notes.{Tells}
use Rattle.jfolder.specs.Text.{listing_text}
use Rattle.jfolder.specs.declared.fault.ReadFault.{ReadFault}
use Rattle.jfolder.specs.declared.found.Options.{Options}
use Rattle.jfolder.specs.declared.reading.FolderTree.{FolderTree}
use Rattle.jedge.specs.Acts.{Act, Then, answers}
use Rattle.jedge.specs.Calls.{Event, Did, Keep}
use Rattle.jedge.specs.declared.fault.Fault.{Fault}
use Rattle.jedge.specs.declared.fault.Fault.TheVariants as fault
use Rattle.jfolders.specs.Filling.{stop_of, closes_notes}
use Rattle.jfolders.specs.Reading.{IsListableTree, IsFolderReadFault, asks_to_read, looked_through}
use Rattle.jfolders.specs.declared.host.Closed.{Closed}
use Rattle.jfolders.specs.declared.kept.KeptFiles.{KeptFiles}
use Rattle.jfolders.specs.declared.keeping.Listed.{Listed}

-- the bytes of the file of a name, if it is kept
abbrev pub files_kept : KeptFiles → List ℕ → Option (List ℕ)
files_kept files name = read_of files.parts name

-- A folder is given back that was read, with the files that are kept of it.
abbrev pub closes_whole : List ℕ → Option ReadFault → Act Closed
closes_whole name why events result = (closed : Closed) × (files : List ℕ → Option (List ℕ))
    × (result ≡ Ok closed) × ((file : List ℕ) → files file ≡ files_kept closed.files file)
    × (events ≡ Did (Keep name files) ∷ looked_through name why closed.reason)

-- ---- what is answered

-- The text of the listing, how many objects were left out of it, and the files that were kept; or
-- memory for the text ran out.
abbrev pub IsListingKept : Closed → FolderTree → Result Listed Fault → Type 0
IsListingKept closed tree result = ((listed : Listed) × (result ≡ Ok listed)
    × (listed.text.items ≡ listing_text tree.root tree.items.items)
    × (listed.left_out ≡ tree.left_out) × (listed.files ≡ closed.files))
    ⊎ (result ≡ Err fault.OutOfMemory)

abbrev pub IsKeptAs : List ℕ → Result FolderTree ReadFault → Closed → Result Listed Fault → Type 0
IsKeptAs name (Ok tree) closed result = IsListingKept closed tree result
IsKeptAs name (Err why) closed result = (f : Fault) × (result ≡ Err f)
    × IsFolderReadFault name closed.reason why f

-- ---- the act

-- A folder is looked through of which this is known, the files in it are kept, and standard error
-- is told what is left out; `lost` counts how often that failed.
pub record keeps_through (name : List ℕ) (options : Options) (known : Known) (events : List Event)
    (result : Result Listed Fault) : Type 0 where
  pub text : List ℕ
  pub lost : ℕ
  pub answer : Result FolderTree ReadFault
  pub listable : IfOk answer (IsListableTree known options)
  pub tells : Tells known options
      (record { old = Some []; new = Some text; before = 0; now = lost }) answer
  pub ends : Then (closes_whole name (stop_of answer)) (λ closed.
      Then (closes_notes lost text) (λ _. answers (IsKeptAs name answer closed))) events result

-- the folder of a name is asked for, and looked through, and the files in it are kept
abbrev pub reads_folder : List ℕ → Bool → Options → Act Listed
reads_folder name quiet options = Then (asks_to_read name quiet) (keeps_through name options)
