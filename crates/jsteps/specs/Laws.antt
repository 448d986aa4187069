-- Laws of steps and their nodes. Each is a statement: it holds since a public function's contract
-- names it.
use Rattle.std.specs.Prelude.{◌≡◌, ◌≢◌, ℕ, ◌+◌, ◌<◌, ◌≤◌, ◌^◌, IsTrue, List, [], ◌∷◌, ◌++◌, length, map, take, Contains, option_map, Some, Ok}
use Rattle.std.specs.List.{AllByRecursion}
use Rattle.flashbase.specs.Ranges.{AreBytes, IsHalf, IsWord}
use Rattle.jnode.specs.Writing.{canonical, Fits, is_writable}
use Rattle.jnode.specs.declared.order.Endian.{Endian}
use Rattle.jnode.specs.declared.node.NodeRef.{NodeRef}
use Rattle.jmount.specs.Clash.{NodesClash, IsClashAt, NoneClash}
use Rattle.jmount.specs.Device.{number_held, major_and_minor}
use Rattle.jmount.specs.Mount.{Mount}
use Rattle.jmount.specs.Mounts.{IsMountOf, plain_nodes}
use Rattle.jmount.specs.Tree.{ObjectOf, State, outline, object, named, is_directory}
use Rattle.jmount.specs.StateOf.{owner, version_of, top, state_of}
use Rattle.jsteps.specs.Device.{device_number}
use Rattle.jsteps.specs.Steps.{bytes, sizes, do_step, after, IsDefined}
use Rattle.jsteps.specs.Nodes.{Indexed, indexed, index_of, node_of, nodes_of, advanced, advanced_all}
use Rattle.jsteps.specs.Ready.{IsReady, AllReady, AllRoom}
use Rattle.jscan.specs.Pages.{IsPage}
use Rattle.jsteps.specs.Refusals.{planned_by, steps_of_first}
use Rattle.jsteps.specs.declared.op.Attributes.{Attributes}
use Rattle.jsteps.specs.declared.op.Op.{Op}
use Rattle.jsteps.specs.declared.op.Op.TheVariants as op
use Rattle.jsteps.specs.declared.step.Step.{Step}

-- ---- one step

-- the outline of what a step does is what the step does to the outline
abbrev pub OutlineOfStep : Type 0
OutlineOfStep = (s : State) (st : Step) → IsDefined (outline s) st
    → outline (do_step bytes s st) ≡ do_step sizes (outline s) st

-- one more node makes the file system after one more step
abbrev pub OneNodeIsOneStep : Type 0
OneNodeIsOneStep = (ns : List NodeRef) (s : Step) → IsReady (index_of ns) s
    → state_of (ns ++ node_of (index_of ns) s ∷ []) ≡ do_step bytes (state_of ns) s

-- and leads to the next index
abbrev pub OneNodeIsOneAdvance : Type 0
OneNodeIsOneAdvance = (ns : List NodeRef) (s : Step) → IsReady (index_of ns) s
    → index_of (ns ++ node_of (index_of ns) s ∷ []) ≡ advanced (index_of ns) s

-- its version is above those of its number
abbrev pub NewNodeIsNewer : Type 0
NewNodeIsNewer = (ns : List NodeRef) (s : Step) → IsReady (index_of ns) s
    → top ns (owner (node_of (index_of ns) s)) < version_of (node_of (index_of ns) s)

-- so it clashes with none of the nodes
abbrev pub StepDoesNotClash : Type 0
StepDoesNotClash = (ns : List NodeRef) (s : Step) (other : NodeRef) → IsReady (index_of ns) s
    → Contains ns other → NodesClash other (node_of (index_of ns) s) → ⊥

-- ---- steps that follow one another

-- their nodes make the file system after all of them, and lead to the index after all of them
pub record AreSteps (ns : List NodeRef) (steps : List Step) : Type 0 where
  pub state : state_of (ns ++ nodes_of (index_of ns) steps) ≡ after bytes (state_of ns) steps
  pub index : index_of (ns ++ nodes_of (index_of ns) steps) ≡ advanced_all (index_of ns) steps

abbrev pub NodesAreSteps : Type 0
NodesAreSteps =
    (ns : List NodeRef) (steps : List Step) → AllReady (index_of ns) steps → AreSteps ns steps

abbrev pub NewNodesDoNotClash : Type 0
NewNodesDoNotClash = (ns : List NodeRef) (steps : List Step) → AllReady (index_of ns) steps
    → NoneClash ns → NoneClash (ns ++ nodes_of (index_of ns) steps)

-- and the first so many nodes are those of the first so many steps, which are ready as all are
abbrev pub FirstNodesAreOfFirstSteps : Type 0
FirstNodesAreOfFirstSteps = (x : Indexed) (steps : List Step) (m : ℕ)
    → nodes_of x (take m steps) ≡ take m (nodes_of x steps)

abbrev pub FirstStepsAreReady : Type 0
FirstStepsAreReady =
    (x : Indexed) (steps : List Step) (m : ℕ) → AllReady x steps → AllReady x (take m steps)

-- ---- what an index holds

-- what is kept of an object that is written again
pub record OutlineObjectFits (o : ObjectOf ℕ) : Type 0 where
  pub mode : IsWord o.mode
  pub uid : IsHalf o.uid
  pub gid : IsHalf o.gid
  pub atime : IsWord o.atime
  pub size : IsWord o.body

-- The root is a directory, the numbers below the next are of 32 bits, objects, directories that
-- have names and what names stand for have such, and what is kept fits its widths.
pub record IsConsistent (x : Indexed) : Type 0 where
  pub root : IsTrue (is_directory x.tree 1)
  pub next : x.tree.next ≤ 2 ^ 32
  pub numbered : (i : ℕ) (o : ObjectOf ℕ) → object x.tree i ≡ Some o → i < x.tree.next
  pub fits : (i : ℕ) (o : ObjectOf ℕ) → object x.tree i ≡ Some o → OutlineObjectFits o
  pub linked : (dir : ℕ) (name : List ℕ) (i : ℕ) → named x.tree dir name ≡ Some i → (0 < i)
      × (i < x.tree.next)
  pub directories : (dir : ℕ) (name : List ℕ) (i : ℕ) → named x.tree dir name ≡ Some i
      → dir < x.tree.next

-- each node fits its widths, as those that are read do
abbrev pub AllFit : List NodeRef → Type 0
AllFit ns = (node : NodeRef) → Contains ns node → Fits node

-- the nodes of an image that mounts lead to one
abbrev pub IndexIsConsistent : Type 0
IndexIsConsistent = (ns : List NodeRef) → AllFit ns → IsTrue (is_directory (state_of ns) 1)
    → IsConsistent (index_of ns)

-- what a mounted image leads to is what its nodes lead to
abbrev pub IndexIsOfNodes : Type 0
IndexIsOfNodes = (e : Endian) (size : ℕ) (m : Mount) → IsMountOf e size m
    → indexed m ≡ index_of (plain_nodes e size m.image)

-- ---- devices

-- the number of a device is read from its bytes as it was given
abbrev pub DeviceNumberReadsBack : Type 0
DeviceNumberReadsBack = (e : Endian) (major minor : ℕ) → major ≤ 4095 → minor ≤ 1048575
    → option_map (major_and_minor e) (number_held (device_number e major minor))
    ≡ Some (major, minor)

-- ---- plans

-- the owners and the times of attributes that are given fit their widths
abbrev pub GivenFit : Attributes → Type 0
GivenFit attributes = IsHalf attributes.uid × IsHalf attributes.gid × IsWord attributes.atime
    × IsWord attributes.mtime

-- the time and the owners of an operation fit their widths, as those of the type do, and so does
-- the number of a device
abbrev pub OpFits : Op → Type 0
OpFits (op.Mkdir time path mode uid gid) = IsWord time × IsHalf uid × IsHalf gid
OpFits (op.Create time path mode uid gid) = IsWord time × IsHalf uid × IsHalf gid
OpFits (op.File time path mode uid gid new) = IsWord time × IsHalf uid × IsHalf gid
OpFits (op.Put time path mode uid gid new) = IsWord time × IsHalf uid × IsHalf gid
OpFits (op.Device time path kind mode uid gid number) =
    IsWord time × IsHalf uid × IsHalf gid × (length number ≤ 4)
OpFits (op.Fifo time path mode uid gid) = IsWord time × IsHalf uid × IsHalf gid
OpFits (op.Socket time path mode uid gid) = IsWord time × IsHalf uid × IsHalf gid
OpFits (op.Symlink time path link uid gid) = IsWord time × IsHalf uid × IsHalf gid
OpFits (op.Write time path offset new) = IsWord time
OpFits (op.Truncate time path size) = IsWord time
OpFits (op.Link time old new) = IsWord time
OpFits (op.Remove time path) = IsWord time
OpFits (op.RemoveIf time path) = IsWord time
OpFits (op.Rename time old new) = IsWord time
OpFits (op.Replace time old new) = IsWord time
OpFits (op.SetAttributes time path attributes) = IsWord time × GivenFit attributes

-- steps of which each is ready and has room when its turn comes, and an index after them that is
-- consistent again
pub record AreReady (x : Indexed) (steps : List Step) : Type 0 where
  pub ready : AllReady x steps
  pub room : AllRoom x steps
  pub consistent : IsConsistent (advanced_all x steps)

-- those of a plan are
abbrev pub PlannedIsReady : Type 0
PlannedIsReady = (page : ℕ) (x : Indexed) (o : Op) (steps : List Step) → IsPage page
    → IsConsistent x → OpFits o → planned_by page x o ≡ Ok steps → AreReady x steps

-- a node that a plan may have: it can be written, its bytes fit a page and a header, and its length
-- spells no magic
pub record IsPlanned (page : ℕ) (e : Endian) (node : NodeRef) : Type 0 where
  pub fits : Fits node
  pub writable : IsTrue (is_writable node)
  pub within : length (canonical e node) ≤ page + 68
  pub plain : length (canonical e node) ≢ 0x1985

-- the nodes of a plan are such
abbrev pub PlannedIsWritable : Type 0
PlannedIsWritable = (page : ℕ) (e : Endian) (x : Indexed) (o : Op) (steps : List Step) → IsPage page
    → IsConsistent x → OpFits o → planned_by page x o ≡ Ok steps
    → AllByRecursion (IsPlanned page e) (nodes_of x steps)

-- ---- the whole

-- After any number of these steps' nodes the file system is that after as many steps, with a root
-- that is a directory; and no node clashes with another, where none did before.
pub record GoesOn (page : ℕ) (ns : List NodeRef) (steps : List Step) : Type 0 where
  pub states : (m : ℕ) → state_of (ns ++ take m (nodes_of (index_of ns) steps))
      ≡ after bytes (state_of ns) (take m steps)
  pub indexes : (m : ℕ) → index_of (ns ++ take m (nodes_of (index_of ns) steps))
      ≡ advanced_all (index_of ns) (take m steps)
  pub roots : (m : ℕ) → IsTrue (is_directory (after bytes (state_of ns) (take m steps)) 1)
  pub apart : NoneClash ns → (m : ℕ) → NoneClash (ns ++ take m (nodes_of (index_of ns) steps))
  pub room : AllRoom (index_of ns) steps
  pub written : (e : Endian) → AllByRecursion (IsPlanned page e) (nodes_of (index_of ns) steps)

-- So it is of the steps of operations that follow one another, up to any of them or to the first
-- that is refused.
abbrev pub PlannedGoesOn : Type 0
PlannedGoesOn = (page : ℕ) (ns : List NodeRef) (ops : List Op) (n : ℕ) → IsPage page → AllFit ns
    → IsTrue (is_directory (state_of ns) 1) → AllByRecursion OpFits ops
    → GoesOn page ns (steps_of_first page (index_of ns) ops n)

-- No two nodes of an image that mounts clash.
abbrev pub MountedDoNotClash : Type 0
MountedDoNotClash = (e : Endian) (size : ℕ) (m : Mount) → IsMountOf e size m
    → NoneClash (plain_nodes e size m.image)

-- And where no nodes clash, none does at its address.
abbrev pub NoneClashesAtAddress : Type 0
NoneClashesAtAddress =
    (ns : List (ℕ × NodeRef)) → NoneClash (map (λ n. n.1) ns) → (addr : ℕ) → IsClashAt ns addr → ⊥

-- So an image that mounts goes on by the steps that its index plans.
abbrev pub MountedGoesOn : Type 0
MountedGoesOn = (page : ℕ) (e : Endian) (size : ℕ) (m : Mount) (ops : List Op) (n : ℕ) → IsPage page
    → IsMountOf e size m → AreBytes m.image → AllByRecursion OpFits ops
    → GoesOn page (plain_nodes e size m.image) (steps_of_first page (indexed m) ops n)
