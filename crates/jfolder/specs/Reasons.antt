-- Why a path is left out: each reason is right by what is known of what the host tells.
use Rattle.std.specs.Prelude.{◌≡◌, ◌≢◌, ◌≤◌, ◌<◌, ◌^◌, ◌⊎◌, ◌∷◌, ℕ, false, List, [], length, All, Contains, Bool, IfSome, Option, None, Some, ⊤, pos}
use Rattle.jmount.specs.Find.{is_name}
use Rattle.jmount.specs.Tree.{greatest_target}
use Rattle.jfolder.specs.Complete.{IsNamed, LeftOut, child, item_paths}
use Rattle.jfolder.specs.Known.{Known, MayAnswer, Named, inside, named_of}
use Rattle.jfolder.specs.Objects.{IsWide, kind_bits, kind_number}
use Rattle.jfolder.specs.declared.fault.FolderFault.{FolderFault}
use Rattle.jfolder.specs.declared.fault.FolderFault.TheVariants as folder
use Rattle.jfolder.specs.declared.found.HostKind.{HostKind}
use Rattle.jfolder.specs.declared.found.Options.{Options}
use Rattle.jfolder.specs.declared.found.Skip.{Skip}
use Rattle.jfolder.specs.declared.found.Skip.TheVariants as skip
use Rattle.jfolder.specs.declared.host.Looked.{Looked}
use Rattle.jfolder.specs.declared.host.Names.{Names}
use Rattle.jfolder.specs.declared.reason.Reason.{Reason}
use Rattle.jfolder.specs.declared.reason.Reason.TheVariants as reason
use Rattle.jfolder.specs.declared.tree.Item.{Item}

-- ---- names

-- a name that is told, but none of a listing
abbrev pub IsWrongText : List ℕ → Reason → Type 0
IsWrongText name reason.LongName = 254 < length name
IsWrongText name reason.BadName = is_name name ≡ false
IsWrongText name reason.Refused = ⊥
IsWrongText name reason.NoText = ⊥
IsWrongText name reason.Output = ⊥
IsWrongText name (reason.Unnamed others) = ⊥
IsWrongText name reason.Repeated = ⊥
IsWrongText name reason.CharacterDevice = ⊥
IsWrongText name reason.BlockDevice = ⊥
IsWrongText name reason.UnknownKind = ⊥
IsWrongText name reason.Large = ⊥
IsWrongText name reason.Owner = ⊥
IsWrongText name reason.Time = ⊥
IsWrongText name reason.Target = ⊥
IsWrongText name reason.NotDirectory = ⊥
IsWrongText name reason.Symlink = ⊥

-- the path of such a name in the directory of this path
abbrev pub IsWrongChild : List ℕ → List (List ℕ) → LeftOut → Type 0
IsWrongChild directory names left = (name : List ℕ) × Contains names name
    × (left.0 ≡ child directory name) × IsWrongText name left.1

-- that of the names that are no text, with their number
abbrev pub IsUnnamed : List ℕ → ℕ → LeftOut → Type 0
IsUnnamed directory others left =
    (left.0 ≡ child directory []) × (0 < others) × (left.1 ≡ reason.Unnamed others)

abbrev pub IsUnlisted : List ℕ → Named → LeftOut → Type 0
IsUnlisted directory names left =
    IsWrongChild directory names.texts left ⊎ IsUnnamed directory names.others left

-- names are told in a directory, those that the host tells there where that is known, and the path
-- is that of one that a listing can't have
abbrev pub HasWrongName : Known → LeftOut → Type 0
HasWrongName known left = (directory : List ℕ) × (names : Named) × IsNamed known (directory, names)
    × IsUnlisted directory names left

-- rule: Listings: A path that came before is an item's, since a walk goes in order.
--   definitions: jfolder.Reasons.ComesAgain, jfolder.WalkOrder.InOrder
--   code: jfolder::reading::read_folder
-- an item has this path
abbrev pub ComesAgain : List Item → LeftOut → Type 0
ComesAgain items left = (left.1 ≡ reason.Repeated) × Contains (item_paths items) left.0

-- ---- what the host refuses

-- a call that refuses says this
abbrev pub Refuses : Type 0 → FolderFault → Type 0
Refuses says folder.OutOfMemory = ⊤
Refuses says folder.Refused = says
Refuses says folder.NoText = says
Refuses says folder.Output = says

-- nothing is known of what the host tells
abbrev pub IsUntold : {X : Type 0} → Option X → FolderFault → Type 0
IsUntold known fault = Refuses (known ≡ None) fault

-- the host is not known to tell of an object
abbrev pub IsUnseen : Option Bool → FolderFault → Type 0
IsUnseen known fault = Refuses (MayAnswer known false) fault

-- a refusal is right where this holds
abbrev pub IsRefusal : Type 0 → Reason → Type 0
IsRefusal says reason.Refused = says
IsRefusal says reason.NoText = says
IsRefusal says reason.Output = says
IsRefusal says (reason.Unnamed others) = ⊥
IsRefusal says reason.BadName = ⊥
IsRefusal says reason.LongName = ⊥
IsRefusal says reason.Repeated = ⊥
IsRefusal says reason.CharacterDevice = ⊥
IsRefusal says reason.BlockDevice = ⊥
IsRefusal says reason.UnknownKind = ⊥
IsRefusal says reason.Large = ⊥
IsRefusal says reason.Owner = ⊥
IsRefusal says reason.Time = ⊥
IsRefusal says reason.Target = ⊥
IsRefusal says reason.NotDirectory = ⊥
IsRefusal says reason.Symlink = ⊥

-- ---- what an object is

abbrev pub IsKindWhy : ℕ → Reason → Type 0
IsKindWhy kind reason.UnknownKind = All (λ k. kind ≢ k) (1 ∷ 2 ∷ 4 ∷ 6 ∷ 8 ∷ 10 ∷ 12 ∷ [])
IsKindWhy kind reason.Refused = ⊥
IsKindWhy kind reason.NoText = ⊥
IsKindWhy kind reason.Output = ⊥
IsKindWhy kind (reason.Unnamed others) = ⊥
IsKindWhy kind reason.BadName = ⊥
IsKindWhy kind reason.LongName = ⊥
IsKindWhy kind reason.Repeated = ⊥
IsKindWhy kind reason.CharacterDevice = ⊥
IsKindWhy kind reason.BlockDevice = ⊥
IsKindWhy kind reason.Large = ⊥
IsKindWhy kind reason.Owner = ⊥
IsKindWhy kind reason.Time = ⊥
IsKindWhy kind reason.Target = ⊥
IsKindWhy kind reason.NotDirectory = ⊥
IsKindWhy kind reason.Symlink = ⊥

-- a kind that a listing has
abbrev pub HasListedKind : Looked → Type 0
HasListedKind told = (kind : HostKind) × (kind_bits told.mode ≡ kind_number kind)

-- an owner or a time that is told has no place in a listing, and no other is given
abbrev pub IsAttributesWhy : Options → Looked → Reason → Type 0
IsAttributesWhy options told reason.Owner =
    (options.owner ≡ None) × ((65535 < told.uid) ⊎ (65535 < told.gid))
IsAttributesWhy options told reason.Time =
    (options.time ≡ None) × ((t : ℕ) → t < 2 ^ 32 → pos t ≢ told.time)
IsAttributesWhy options told reason.Refused = ⊥
IsAttributesWhy options told reason.NoText = ⊥
IsAttributesWhy options told reason.Output = ⊥
IsAttributesWhy options told (reason.Unnamed others) = ⊥
IsAttributesWhy options told reason.BadName = ⊥
IsAttributesWhy options told reason.LongName = ⊥
IsAttributesWhy options told reason.Repeated = ⊥
IsAttributesWhy options told reason.CharacterDevice = ⊥
IsAttributesWhy options told reason.BlockDevice = ⊥
IsAttributesWhy options told reason.UnknownKind = ⊥
IsAttributesWhy options told reason.Large = ⊥
IsAttributesWhy options told reason.Target = ⊥
IsAttributesWhy options told reason.NotDirectory = ⊥
IsAttributesWhy options told reason.Symlink = ⊥

-- the file is too large, or it is not known to have a name that is not empty, or to be opened
abbrev pub IsFileWhy : Known → List ℕ → ℕ → Reason → Type 0
IsFileWhy known path size reason.Large = 268435456 < size
IsFileWhy known path size why = IsRefusal ((size ≤ 268435456)
    × (IfSome (known.host_path path) (λ name. length name ≡ 0)
    ⊎ MayAnswer (known.is_opened path) false)) why

-- the target is not known, or none that an image can have
abbrev pub IsTargetWhy : Known → List ℕ → Reason → Type 0
IsTargetWhy known path reason.Target = IfSome (known.target path)
    (λ told. 0 < length told → length told ≤ greatest_target → All (λ b. b ≢ 0) told → ⊥)
IsTargetWhy known path why = IsRefusal (known.target path ≡ None) why

-- the numbers of a device are too large
abbrev pub IsDeviceWhy : Looked → Reason → Type 0
IsDeviceWhy told reason.CharacterDevice = (kind_bits told.mode ≡ 2) × IsWide told.special
IsDeviceWhy told reason.BlockDevice = (kind_bits told.mode ≡ 6) × IsWide told.special
IsDeviceWhy told reason.Refused = ⊥
IsDeviceWhy told reason.NoText = ⊥
IsDeviceWhy told reason.Output = ⊥
IsDeviceWhy told (reason.Unnamed others) = ⊥
IsDeviceWhy told reason.BadName = ⊥
IsDeviceWhy told reason.LongName = ⊥
IsDeviceWhy told reason.Repeated = ⊥
IsDeviceWhy told reason.UnknownKind = ⊥
IsDeviceWhy told reason.Large = ⊥
IsDeviceWhy told reason.Owner = ⊥
IsDeviceWhy told reason.Time = ⊥
IsDeviceWhy told reason.Target = ⊥
IsDeviceWhy told reason.NotDirectory = ⊥
IsDeviceWhy told reason.Symlink = ⊥

abbrev pub IsObjectWhy : Known → List ℕ → Looked → Reason → Type 0
IsObjectWhy known path told why =
    ((kind_bits told.mode ≡ 4) × IsRefusal (known.names path ≡ None) why)
    ⊎ (((kind_bits told.mode ≡ 8) × IsFileWhy known path told.size why)
    ⊎ (((kind_bits told.mode ≡ 10) × IsTargetWhy known path why) ⊎ IsDeviceWhy told why))

-- of an object of which this is told
abbrev pub IsWhy : Known → Options → List ℕ → Looked → Reason → Type 0
IsWhy known options path told why = IsKindWhy (kind_bits told.mode) why
    ⊎ ((HasListedKind told × IsAttributesWhy options told why) ⊎ IsObjectWhy known path told why)

-- the host refuses to tell of the object, or tells one that is left out for this
abbrev pub IsLeftFor : Known → Options → List ℕ → Reason → Type 0
IsLeftFor known options path why = IsRefusal (known.looked path ≡ None) why
    ⊎ ((told : Looked) × IfSome (known.looked path) (λ k. told ≡ k)
    × IsWhy known options path told why)

-- ---- a path that is left out

-- rule: Listings: Why a path is left out.
--   definitions: jfolder.Reasons.IsRight, jfolder.Reasons.IsRootWhy, jfolder.Notes.reason_text
--   code: jfolder::reading::read_folder, jfolder::reason::text
-- Its name is wrong, or it comes again, or the host refuses to tell of it, or tells what no listing
-- says.
abbrev pub IsRight : Known → Options → List Item → LeftOut → Type 0
IsRight known options items left = HasWrongName known left
    ⊎ (ComesAgain items left ⊎ IsLeftFor known options (inside left.0) left.1)

-- ---- the folder itself

abbrev pub IsNoDirectory : ℕ → Reason → Type 0
IsNoDirectory kind reason.Symlink = kind ≡ 10
IsNoDirectory kind reason.NotDirectory = (kind ≢ 4) × (kind ≢ 10)
IsNoDirectory kind reason.Refused = ⊥
IsNoDirectory kind reason.NoText = ⊥
IsNoDirectory kind reason.Output = ⊥
IsNoDirectory kind (reason.Unnamed others) = ⊥
IsNoDirectory kind reason.BadName = ⊥
IsNoDirectory kind reason.LongName = ⊥
IsNoDirectory kind reason.Repeated = ⊥
IsNoDirectory kind reason.CharacterDevice = ⊥
IsNoDirectory kind reason.BlockDevice = ⊥
IsNoDirectory kind reason.UnknownKind = ⊥
IsNoDirectory kind reason.Large = ⊥
IsNoDirectory kind reason.Owner = ⊥
IsNoDirectory kind reason.Time = ⊥
IsNoDirectory kind reason.Target = ⊥

-- The host refuses to tell of the folder, or tells no directory, or an owner or a time that no
-- listing says, or refuses to tell the names in it.
abbrev pub IsRootWhy : Known → Options → Reason → Type 0
IsRootWhy known options why = IsRefusal (known.looked [] ≡ None) why
    ⊎ ((told : Looked) × IfSome (known.looked []) (λ k. told ≡ k)
    × (IsNoDirectory (kind_bits told.mode) why ⊎ ((kind_bits told.mode ≡ 4)
    × (IsAttributesWhy options told why ⊎ IsRefusal (known.names [] ≡ None) why))))

-- ---- parts of a reading

abbrev pub skip_of : FolderFault → Skip
skip_of folder.Refused = skip.LeftOut reason.Refused
skip_of folder.NoText = skip.LeftOut reason.NoText
skip_of folder.Output = skip.LeftOut reason.Output
skip_of folder.OutOfMemory = skip.OutOfMemory

-- what is skipped is left out for such a reason, unless memory ran out
abbrev pub SkipsFor : (Reason → Type 0) → Skip → Type 0
SkipsFor right (skip.LeftOut why) = right why
SkipsFor right skip.OutOfMemory = ⊤

-- the names in a directory, if they were asked for
abbrev pub IsUnlistedIn : List ℕ → Option Names → LeftOut → Type 0
IsUnlistedIn directory None left = ⊥
IsUnlistedIn directory (Some names) left = IsUnlisted directory (named_of names) left
