use Rattle.std.proofs.Common.{ℕ, ◌*◌, ◌≤◌, take}
use Rattle.jfrag.specs.Overlays.{IsHighestAt}
use Rattle.jfrag.proofs.all.overlay_in_turn.Given as goal

abbrev pub invariant-loop-piece : goal.invariant-loop-piece
invariant-loop-piece g l = record {
  highest : (i : ℕ) → IsHighestAt (take l.piece-index l.pieces) i (g.O.Overlay.visible_at l.overlaid i);
  few : g.O.Overlay.ends l.overlaid ≤ 2 * l.piece-index;
}
