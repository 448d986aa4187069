-- A folder that is read: the calls of the host, and what the command answers by them.
use Rattle.std.specs.Prelude.{◌≡◌, ◌⊎◌, ◌∷◌, [], ℕ, Bool, List, All, map, Option, Some, None, option_map, Result, Ok, Err, IfOk}
use Rattle.jfolder.specs.Actions.{FitsListing}
use Rattle.jfolder.specs.Known.{Known}
use Rattle.jfolder.specs.Links.{AreLinked}
use Rattle.jfolder.specs.Notes.{Tells}
use Rattle.jfolder.specs.Objects.{IsObjectTold}
use Rattle.jfolder.specs.Trees.{IsTree, Rise}
use Rattle.jfolder.specs.Walking.{HasOptions, IsItemTold, IsToldAt}
use Rattle.jfolder.specs.declared.fault.ReadFault.{ReadFault}
use Rattle.jfolder.specs.declared.fault.ReadFault.TheVariants as read
use Rattle.jfolder.specs.declared.found.Options.{Options}
use Rattle.jfolder.specs.declared.found.Owner.{Owner}
use Rattle.jfolder.specs.declared.reading.FolderTree.{FolderTree}
use Rattle.jcommand.specs.declared.parsed.Owner as command
use Rattle.jreport.specs.declared.reason.Reason.{Reason}
use Rattle.jedge.specs.Acts.{Act, Then, answers}
use Rattle.jedge.specs.Calls.{Event, Did, Failed, LookThrough, ReadFolder}
use Rattle.jedge.specs.declared.fault.Fault.{Fault}
use Rattle.jedge.specs.declared.fault.Fault.TheVariants as fault
use Rattle.jfolders.specs.Filling.{IsOfFolder, stop_of, closes_notes}

-- ---- calls

-- The folder of a name is asked for, to be read, quietly or not. This is known of what the host
-- tells there. Or memory for it ran out.
abbrev pub asks_to_read : List ℕ → Bool → Act Known
asks_to_read name quiet events result =
    ((known : Known) × (result ≡ Ok known) × (events ≡ Did (ReadFolder name quiet known) ∷ []))
    ⊎ ((result ≡ Err fault.OutOfMemory) × (events ≡ []))

-- what lies in it was looked through; or not, since the host refused the folder itself
abbrev pub looked_through : List ℕ → Option ReadFault → Reason → List Event
looked_through name None reason = Did (LookThrough name) ∷ []
looked_through name (Some (read.Folder why)) reason = Failed (LookThrough name) reason ∷ []
looked_through name (Some read.Notes) reason = []
looked_through name (Some read.OutOfMemory) reason = []

-- A folder is given back that was read, and the host's last reason is told. The reading ended by
-- this fault, or by none.
abbrev pub closes_read : List ℕ → Option ReadFault → Act Reason
closes_read name why events result =
    (reason : Reason) × (events ≡ looked_through name why reason) × (result ≡ Ok reason)

-- ---- what is answered

-- why a reading ended, as the command ends by it
abbrev pub IsFolderReadFault : List ℕ → Reason → ReadFault → Fault → Type 0
IsFolderReadFault name reason (read.Folder why) f = IsOfFolder name reason f
IsFolderReadFault name reason read.Notes f = f ≡ fault.Output
IsFolderReadFault name reason read.OutOfMemory f = f ≡ fault.OutOfMemory

abbrev pub IsReadAs : List ℕ → Reason → Result FolderTree ReadFault → Result FolderTree Fault
    → Type 0
IsReadAs name reason (Ok tree) result = result ≡ Ok tree
IsReadAs name reason (Err why) result = (f : Fault) × (result ≡ Err f)
    × IsFolderReadFault name reason why f

-- the owner and the time that a command line gives, as a reading takes them
abbrev pub owner_told : command.Owner → Owner
owner_told o = record { uid = o.uid; gid = o.gid }

abbrev pub listing_settings : Option command.Owner → Option ℕ → Options
listing_settings owner time = record { owner = option_map owner_told owner; time = time }

-- what was read of a folder: a tree in the order of its paths, which a listing can say, with the
-- owner and the time that the options give, and else as the host tells it, where that is known;
-- each further name of a file is a link
pub record IsListableTree (known : Known) (options : Options) (tree : FolderTree) : Type 0 where
  pub fits : FitsListing tree.root tree.items.items
  pub is_tree : IsTree tree.items.items
  pub rises : Rise tree.items.items
  pub options_hold : All (HasOptions options)
      (tree.root ∷ map (λ item. item.attributes) tree.items.items)
  pub root_told : IsToldAt known.looked options [] tree.root
  pub told : All (IsItemTold known.looked options) tree.items.items
  pub objects : All (IsObjectTold known) tree.items.items
  pub links : AreLinked known tree.items.items

-- ---- the act

-- a folder is looked through of which this is known, and standard error is told what is left out;
-- `lost` counts how often that failed
pub record looks_through (name : List ℕ) (options : Options) (known : Known) (events : List Event)
    (result : Result FolderTree Fault) : Type 0 where
  pub text : List ℕ
  pub lost : ℕ
  pub answer : Result FolderTree ReadFault
  pub listable : IfOk answer (IsListableTree known options)
  pub tells : Tells known options
      (record { old = Some []; new = Some text; before = 0; now = lost }) answer
  pub ends : Then (closes_read name (stop_of answer)) (λ reason.
      Then (closes_notes lost text) (λ _. answers (IsReadAs name reason answer))) events result

-- the folder of a name is asked for, and looked through
abbrev pub reads_tree : List ℕ → Bool → Options → Act FolderTree
reads_tree name quiet options = Then (asks_to_read name quiet) (looks_through name options)
