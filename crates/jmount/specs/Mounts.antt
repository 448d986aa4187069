-- What mounting an image answers.
use Rattle.std.specs.Prelude.{◌≡◌, ℕ, ◌<◌, ◌≤◌, IsTrue, IsFalse, List, map, length, Contains, Result, Ok, Err}
use Rattle.jnode.specs.declared.order.Endian.{Endian}
use Rattle.jnode.specs.declared.node.NodeRef.{NodeRef}
use Rattle.jnode.specs.declared.node.Seen.TheVariants as seen
use Rattle.jscan.specs.Image.{is_block_size, greatest_image, sightings, nodes}
use Rattle.jscan.specs.Scans.{IsScannable, findings, is_read_only}
use Rattle.jmount.specs.Clash.{IsClashAt}
use Rattle.jmount.specs.Mount.{Mount}
use Rattle.jmount.specs.Tree.{State, is_directory}
use Rattle.jmount.specs.StateOf.{state_of, tops_of}
use Rattle.jmount.specs.declared.fault.MountFault.{MountFault}
use Rattle.jmount.specs.declared.fault.MountFault.TheVariants as fault

-- the nodes of an image, without their addresses
abbrev pub plain_nodes : Endian → ℕ → List ℕ → List NodeRef
plain_nodes e size image = map (λ n. n.1) (nodes e size image)

-- the file system of an image
abbrev pub state : Endian → ℕ → List ℕ → State
state e size image = state_of (plain_nodes e size image)

-- the fault is at the address
abbrev pub IsFaultAt : Endian → ℕ → List ℕ → ℕ → MountFault → Type 0
IsFaultAt e size image at (fault.Incompatible addr nodetype) =
    (at ≡ addr) × Contains (sightings e size image) (addr, seen.Incompatible nodetype)
IsFaultAt e size image at (fault.Compressed addr compr) =
    (at ≡ addr) × Contains (sightings e size image) (addr, seen.Compressed compr)
IsFaultAt e size image at (fault.Clash addr) = (at ≡ addr) × IsClashAt (nodes e size image) addr
IsFaultAt e size image at fault.BlockSize = ⊥
IsFaultAt e size image at fault.TooLarge = ⊥
IsFaultAt e size image at fault.RootKind = ⊥
IsFaultAt e size image at fault.OutOfMemory = ⊥

-- and it is the one of least address
abbrev pub IsFirstAt : Endian → ℕ → List ℕ → ℕ → MountFault → Type 0
IsFirstAt e size image addr f =
    IsScannable size image × IsFaultAt e size image addr f
    × ((at : ℕ) (other : MountFault) → IsFaultAt e size image at other → addr ≤ at)

-- an image with no such fault
abbrev pub IsSound : Endian → ℕ → List ℕ → Type 0
IsSound e size image =
    IsScannable size image × ((at : ℕ) (f : MountFault) → IsFaultAt e size image at f → ⊥)

-- the image mounts, as this file system
pub record MountsAs (e : Endian) (size : ℕ) (image : List ℕ) (s : State) : Type 0 where
  pub sound : IsSound e size image
  pub root : IsTrue (is_directory (state e size image) 1)
  pub same : state e size image ≡ s

-- the mount shows its own image
pub record IsMountOf (e : Endian) (size : ℕ) (mount : Mount) : Type 0 where
  pub mounts : MountsAs e size mount.image mount.state
  pub tops : mount.tops ≡ tops_of (plain_nodes e size mount.image)
  pub findings : mount.findings ≡ findings e size mount.image
  pub read_only : mount.read_only ≡ is_read_only e size mount.image

-- rule: The file system that nodes make: What refuses a mount, and in which order.
--   definitions: jmount.Mounts.Answers
--   code: jmount::mounting::mount
--   laws: jmount::laws::state_depends_on_nodes
-- the answer of a mount
abbrev pub Answers : Endian → ℕ → List ℕ → Result Mount MountFault → Type 0
Answers e size image (Ok mount) = (mount.image ≡ image) × IsMountOf e size mount
Answers e size image (Err fault.BlockSize) = IsFalse (is_block_size size)
Answers e size image (Err fault.TooLarge) =
    IsTrue (is_block_size size) × (greatest_image < length image)
Answers e size image (Err (fault.Incompatible addr nodetype)) =
    IsFirstAt e size image addr (fault.Incompatible addr nodetype)
Answers e size image (Err (fault.Compressed addr compr)) =
    IsFirstAt e size image addr (fault.Compressed addr compr)
Answers e size image (Err (fault.Clash addr)) = IsFirstAt e size image addr (fault.Clash addr)
Answers e size image (Err fault.RootKind) =
    IsSound e size image × IsFalse (is_directory (state e size image) 1)
Answers e size image (Err fault.OutOfMemory) = IsScannable size image
