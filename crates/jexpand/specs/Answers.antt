-- What the calls of one tile answer.
use Rattle.std.specs.Prelude.{◌≡◌, ℕ, Bool, IsTrue, IsFalse, List, Option, Some, None, option_map, Result, Ok, Err, ⊤}
use Rattle.jnode.specs.Writing.{canonical}
use Rattle.jnode.specs.declared.node.NodeRef.{NodeRef}
use Rattle.jnode.specs.declared.order.Endian.{Endian}
use Rattle.jexpand.specs.Expanded.{node_length}
use Rattle.jexpand.specs.declared.fault.ConvertFault.{ConvertFault}
use Rattle.jexpand.specs.declared.fault.ConvertFault.TheVariants.{OutOfMemory}

-- why a tile is not expanded: the fault that it has, or memory ran out
abbrev pub IsTileFault : Option ConvertFault → ConvertFault → Type 0
IsTileFault has OutOfMemory = ⊤
IsTileFault has fault = has ≡ Some fault

-- the length of the written form of the node that a tile gives, if it gives one, or why it is
-- refused
abbrev pub AnswersLength : Option ConvertFault → Option NodeRef → Result (Option ℕ) ConvertFault
    → Type 0
AnswersLength has gives (Ok len) = (has ≡ None) × (len ≡ option_map node_length gives)
AnswersLength has gives (Err fault) = IsTileFault has fault

-- the bytes are the written form of the node that a tile gives, if it gives one
abbrev pub IsFormOf : Endian → Option NodeRef → List ℕ → Bool → Type 0
IsFormOf e (Some node) bytes is_one = IsTrue is_one × (bytes ≡ canonical e node)
IsFormOf e None bytes is_one = IsFalse is_one
