-- Laws of mounting what is left. Each is a statement: it holds since a public function's contract
-- names it.
use Rattle.std.specs.Prelude.{◌≡◌, ℕ, ◌*◌, ◌≤◌, IsTrue, List, ◌++◌, map, take}
use Rattle.jnode.specs.Writing.{canonical}
use Rattle.jnode.specs.declared.node.NodeRef.{NodeRef}
use Rattle.jnode.specs.declared.order.Endian.{Endian}
use Rattle.jscan.specs.Image.{greatest_image}
use Rattle.jmount.specs.Mounts.{IsSound, MountsAs, plain_nodes}
use Rattle.jmount.specs.StateOf.{state_of}
use Rattle.jmount.specs.Tree.{is_directory}
use Rattle.jmount.specs.Clash.{NoneClash}
use Rattle.jlog.specs.Places.{places}
use Rattle.jlog.specs.Output.{output}
use Rattle.jlog.specs.Left.{count_whole}
use Rattle.jlog.specs.LeftLaws.{AreLogged, AreStorable, NoneWeak, IsLeftOf, IsUncut}

-- No two nodes of an image without a fault clash.
abbrev pub SoundNodesAreApart : Type 0
SoundNodesAreApart = (e : Endian) (size : ℕ) (image : List ℕ) → IsSound e size image
    → NoneClash (plain_nodes e size image)

-- A base without a fault, and new nodes on it for which there is room and of which none clashes.
pub record GoesOnSoundly (e : Endian) (size blocks : ℕ) (base : List ℕ) (block : ℕ)
    (new : List NodeRef) : Type 0 where
  pub logged : AreLogged e size blocks base block new
  pub small : blocks * size ≤ greatest_image
  pub sound : IsSound e size base
  pub apart : NoneClash (plain_nodes e size base ++ new)

-- the image has no fault, and its nodes are these
pub record IsSoundWith (e : Endian) (size : ℕ) (image : List ℕ) (ns : List NodeRef) : Type 0 where
  pub sound : IsSound e size image
  pub nodes : plain_nodes e size image ≡ ns

-- After a cut there is no fault, and there are the base's nodes and those of the new ones that
-- stand whole,
abbrev pub LeftIsSound : Type 0
LeftIsSound = (e : Endian) (size blocks block k : ℕ) (base image : List ℕ) (new : List NodeRef)
    → GoesOnSoundly e size blocks base block new → NoneWeak e new
    → IsLeftOf e size blocks base block new k image
    → let bytes = map (canonical e) new in
    let out = output e size (block * size) bytes in
    IsSoundWith e size image (plain_nodes e size base
    ++ take (count_whole (block * size) out k (places size (block * size) bytes)) new)

-- and without a cut all of them, weak or not.
abbrev pub WholeIsSound : Type 0
WholeIsSound = (e : Endian) (size blocks block k : ℕ) (base image : List ℕ) (new : List NodeRef)
    → GoesOnSoundly e size blocks base block new
    → IsUncut e size block new k → IsLeftOf e size blocks base block new k image
    → IsSoundWith e size image (plain_nodes e size base ++ new)

-- An image of nodes alone has no fault where no two of them clash, and it has these nodes,
abbrev pub OutputIsSound : Type 0
OutputIsSound = (e : Endian) (size blocks : ℕ) (new : List NodeRef) → AreStorable e size blocks new
    → blocks * size ≤ greatest_image → NoneClash new
    → IsSoundWith e size (output e size 0 (map (canonical e) new)) new

-- and where they make the root a directory it mounts as the file system that they make.
abbrev pub OutputMounts : Type 0
OutputMounts = (e : Endian) (size blocks : ℕ) (new : List NodeRef) → AreStorable e size blocks new
    → blocks * size ≤ greatest_image → NoneClash new
    → IsTrue (is_directory (state_of new) 1)
    → MountsAs e size (output e size 0 (map (canonical e) new)) (state_of new)
