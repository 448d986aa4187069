use Rattle.std.proofs.Common.{◌≡◌, ◌∷◌, map, take}
use Rattle.jmount.specs.StateOf.{piece_of}
use Rattle.jmount.proofs.storing.pieces_of.Given as goal

abbrev pub invariant-loop-node : goal.invariant-loop-node
invariant-loop-node l = l.pieces.items ≡ piece_of l.versions.newest ∷ map piece_of (take l.node-index l.versions.older.nodes.items)
