-- What mounting a list of nodes answers, wherever they come from.
use Rattle.std.specs.Prelude.{◌≡◌, ◌≢◌, ◌<◌, ◌^◌, ⊤, ℕ, Bool, IsTrue, IsFalse, List, Contains, Result, Ok, Err}
use Rattle.jnode.specs.declared.node.NodeRef.{NodeRef}
use Rattle.jnode.specs.declared.node.NodeRef.TheVariants.{Entry, Inode}
use Rattle.jfrag.specs.Pieces.{end_of}
use Rattle.jscan.specs.declared.finding.Finding.{Finding}
use Rattle.jmount.specs.Collected.{FirstClash, without_addresses}
use Rattle.jmount.specs.Clash.{NoneClash}
use Rattle.jmount.specs.Mount.{Mount}
use Rattle.jmount.specs.StateOf.{piece_of, state_of, tops_of}
use Rattle.jmount.specs.Tree.{is_directory}
use Rattle.jmount.specs.declared.fault.MountFault.{MountFault}
use Rattle.jmount.specs.declared.fault.MountFault.TheVariants as fault

-- a node as images have it: an entry has a directory, and a range ends within 32 bits
abbrev pub IsMountable : NodeRef → Type 0
IsMountable (Entry entry) = entry.pino ≢ 0
IsMountable (Inode node) = end_of (piece_of node) < 2 ^ 32

abbrev pub AreMountable : List (ℕ × NodeRef) → Type 0
AreMountable ns = (n : ℕ × NodeRef) → Contains ns n → IsMountable n.1

-- the mount shows the file system of these nodes, no two of which clash
pub record MountsNodes (ns : List (ℕ × NodeRef)) (mount : Mount) : Type 0 where
  pub apart : NoneClash (without_addresses ns)
  pub root : IsTrue (is_directory (state_of (without_addresses ns)) 1)
  pub state : mount.state ≡ state_of (without_addresses ns)
  pub tops : mount.tops ≡ tops_of (without_addresses ns)

-- and beside it what it was given
pub record IsMountedWith (bytes : List ℕ) (found : List Finding) (forbids : Bool) (mount : Mount) : Type
    0 where
  pub image : mount.image ≡ bytes
  pub findings : mount.findings ≡ found
  pub read_only : mount.read_only ≡ forbids

-- rule: Compressed data: A list of nodes that is mounted.
--   definitions: jmount.MountsNodes.AnswersNodes
--   code: jmount::mounting::mount_nodes, jmount::mounting::refuse_clashes
-- The answer of a mount of these nodes. A clash is that of the first node in the list that clashes
-- with one before it.
abbrev pub AnswersNodes : List ℕ → List (ℕ × NodeRef) → List Finding → Bool
    → Result Mount MountFault → Type 0
AnswersNodes image ns found forbids (Ok mount) =
    MountsNodes ns mount × IsMountedWith image found forbids mount
AnswersNodes image ns found forbids (Err (fault.Clash addr)) = FirstClash ns addr
AnswersNodes image ns found forbids (Err fault.RootKind) =
    NoneClash (without_addresses ns)
    × IsFalse (is_directory (state_of (without_addresses ns)) 1)
AnswersNodes image ns found forbids (Err fault.OutOfMemory) = ⊤
AnswersNodes image ns found forbids (Err fault.BlockSize) = ⊥
AnswersNodes image ns found forbids (Err fault.TooLarge) = ⊥
AnswersNodes image ns found forbids (Err (fault.Incompatible addr nodetype)) = ⊥
AnswersNodes image ns found forbids (Err (fault.Compressed addr compr)) = ⊥
