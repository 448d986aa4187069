use Rattle.std.proofs.Common.{◌≡◌, take}
use Rattle.jfrag.specs.Overlays.{visible}
use Rattle.jfrag.proofs.plain.visible_in.Given as goal

abbrev pub invariant-loop-piece : goal.invariant-loop-piece
invariant-loop-piece l = l.top ≡ visible (take l.piece-index l.pieces) l.place
