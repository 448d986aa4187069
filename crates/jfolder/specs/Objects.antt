-- What an object is, by what the host tells of it.
use Rattle.std.specs.Prelude.{◌≡◌, ◌≤◌, ◌<◌, ◌+◌, ◌*◌, ◌/◌, ◌%◌, ◌^◌, ◌⊎◌, ℕ, true, List, IfSome, ⊤}
use Rattle.std.specs.String.{string_bytes}
use Rattle.jsteps.specs.declared.device.DeviceKind.{DeviceKind}
use Rattle.jsteps.specs.declared.device.DeviceKind.TheVariants.{Character, Block}
use Rattle.jfolder.specs.Known.{Known, MayAnswer, inside}
use Rattle.jfolder.specs.declared.found.HostKind.{HostKind}
use Rattle.jfolder.specs.declared.found.HostKind.TheVariants as kind
use Rattle.jfolder.specs.declared.host.Looked.{Looked}
use Rattle.jfolder.specs.declared.tree.Item.{Item}
use Rattle.jfolder.specs.declared.tree.What.{What}
use Rattle.jfolder.specs.declared.tree.What.TheVariants as what

-- bits 12 to 15 of a mode
abbrev pub kind_bits : ℕ → ℕ
kind_bits mode = (mode / 2 ^ 12) % 16

abbrev pub kind_number : HostKind → ℕ
kind_number kind.Directory = 4
kind_number kind.Regular = 8
kind_number kind.Fifo = 1
kind_number kind.Socket = 12
kind_number kind.Symlink = 10
kind_number kind.Character = 2
kind_number kind.Block = 6

abbrev pub device_bits : DeviceKind → ℕ
device_bits Character = 2
device_bits Block = 6

-- rule: Operations as steps: The two numbers of a device, in the one that the host reports.
--   definitions: jfolder.Objects.major_of, jfolder.Objects.minor_of, jfolder.Reasons.IsDeviceWhy
--   code: jfolder::found::numbers_of, jfolder::found::device_of, jfolder::text::put_device
-- the two numbers of a device in the one that the host tells (glibc, bits/sysmacros.h,
-- gnu_dev_major and gnu_dev_minor)
abbrev pub major_of : ℕ → ℕ
major_of number = number / 2 ^ 8 % 2 ^ 12 + number / 2 ^ 44 * 2 ^ 12

abbrev pub minor_of : ℕ → ℕ
minor_of number = number % 2 ^ 8 + number / 2 ^ 20 % 2 ^ 24 * 2 ^ 8

-- they are above those that an image can have
abbrev pub IsWide : ℕ → Type 0
IsWide number = (4095 < major_of number) ⊎ (1048575 < minor_of number)

-- the kind that the host tells, and the numbers of a device; a link is a name of a regular file,
-- and `build` takes no file of more than 256 MiB
abbrev pub IsOfKind : Looked → What → Type 0
IsOfKind told what.Directory = kind_bits told.mode ≡ 4
IsOfKind told (what.Regular file) = (kind_bits told.mode ≡ 8) × (told.size ≤ 268435456)
IsOfKind told (what.Device device major minor) = (kind_bits told.mode ≡ device_bits device)
    × (major_of told.special ≡ major) × (minor_of told.special ≡ minor)
IsOfKind told what.Fifo = kind_bits told.mode ≡ 1
IsOfKind told what.Socket = kind_bits told.mode ≡ 12
IsOfKind told (what.Symlink target) = kind_bits told.mode ≡ 10
IsOfKind told (what.Link first) = kind_bits told.mode ≡ 8

-- rule: Listings: The source of the bytes of a file.
--   definitions: jfolder.Objects.HasHostFile, jfolder.Objects.IsOfKind
--   code: jfolder::found::file_of
-- the name of the file that the host tells at a path, and opens
abbrev pub HasHostFile : Known → List ℕ → List ℕ → Type 0
HasHostFile known path file =
    IfSome (known.host_path path) (λ told. file ≡ told) × MayAnswer (known.is_opened path) true

-- names of one object
abbrev pub AreOne : Looked → Looked → Type 0
AreOne a b = (a.device ≡ b.device) × (a.number ≡ b.number)

-- the host tells one object at both paths
abbrev pub LinkLeadsTo : Known → List ℕ → List ℕ → Type 0
LinkLeadsTo known path first = IfSome (known.looked path)
    (λ told. IfSome (known.looked (inside first)) (λ other. AreOne other told))
    × MayAnswer (known.is_told (inside first)) true

abbrev pub HasObject : Known → List ℕ → What → Type 0
HasObject known path (what.Regular file) = HasHostFile known path (string_bytes file)
HasObject known path (what.Symlink target) =
    IfSome (known.target path) (λ told. string_bytes target ≡ told)
HasObject known path (what.Link first) = LinkLeadsTo known path (string_bytes first)
HasObject known path _ = ⊤

-- an item is what the host tells at its path, where that is known
pub record IsObjectTold (known : Known) (i : Item) : Type 0 where
  pub kind : IfSome (known.looked (inside (string_bytes i.path))) (λ told. IsOfKind told i.what)
  pub object : HasObject known (inside (string_bytes i.path)) i.what
