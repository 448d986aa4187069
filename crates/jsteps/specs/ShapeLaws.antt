-- Laws of the shape. Each is a statement: it holds since a public function's contract names it.
use Rattle.std.specs.Prelude.{◌≡◌, ◌≢◌, ℕ, true, List, IsTrue, Some, None, Ok}
use Rattle.std.specs.List.{AllByRecursion}
use Rattle.jnode.specs.declared.node.NodeRef.{NodeRef}
use Rattle.jmount.specs.Tree.{Outline, named, is_directory}
use Rattle.jmount.specs.StateOf.{state_of}
use Rattle.jsteps.specs.Steps.{bytes, sizes, do_step, after}
use Rattle.jsteps.specs.Nodes.{Indexed, index_of}
use Rattle.jscan.specs.Pages.{IsPage}
use Rattle.jsteps.specs.Refusals.{planned_by, steps_of_first}
use Rattle.jsteps.specs.Laws.{IsConsistent, OpFits, AllFit}
use Rattle.jmount.specs.Shape.{HasShape}
use Rattle.jsteps.specs.declared.op.Op.{Op}
use Rattle.jsteps.specs.declared.step.Step.{Step}
use Rattle.jsteps.specs.declared.step.Step.TheVariants as step

-- After the whole plan of an operation a tree that had the shape has it again. Between the steps it
-- need not: see below.
abbrev pub ShapeIsKept : Type 0
ShapeIsKept = (page : ℕ) (x : Indexed) (o : Op) (steps : List Step) → IsConsistent x
    → planned_by page x o ≡ Ok steps → HasShape x.tree → HasShape (after sizes x.tree steps)

-- and so after the plans of operations that follow one another, up to any of them or to the first
-- that is refused
abbrev pub ShapeStays : Type 0
ShapeStays = (page : ℕ) (x : Indexed) (ops : List Op) (n : ℕ) → IsPage page → IsConsistent x
    → AllByRecursion OpFits ops → HasShape x.tree
    → HasShape (after sizes x.tree (steps_of_first page x ops n))

-- the same of the file system that nodes make
abbrev pub StateKeepsShape : Type 0
StateKeepsShape = (page : ℕ) (ns : List NodeRef) (ops : List Op) (n : ℕ) → IsPage page → AllFit ns
    → IsTrue (is_directory (state_of ns) 1) → AllByRecursion OpFits ops → HasShape (state_of ns)
    → HasShape (after bytes (state_of ns) (steps_of_first page (index_of ns) ops n))

-- halfway through a rename of a directory, where both names are there, the shape is broken
abbrev pub HalfRenameBreaks : Type 0
HalfRenameBreaks = (t : Outline) (time dir : ℕ) (name : List ℕ) (from : ℕ) (old : List ℕ) (i : ℕ)
    → named t from old ≡ Some i → is_directory t i ≡ true → i ≢ 1
    → named t dir name ≡ None → HasShape (do_step sizes t (step.SetName time dir name i)) → ⊥
