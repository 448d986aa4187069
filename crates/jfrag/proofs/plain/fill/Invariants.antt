use Rattle.std.proofs.Common.{◌≡◌, ℕ, ◌+◌, ◌<◌, get_or}
use Rattle.jfrag.specs.Overlays.{visible, byte_at}
use Rattle.jfrag.proofs.plain.fill.Given as goal

abbrev pub invariant-loop-k : goal.invariant-loop-k
invariant-loop-k l = (j : ℕ) → j < l.k → get_or l.out j 0 ≡ byte_at (visible l.pieces (l.place + j))
