use Rattle.std.proofs.Common.{◌≡◌, ℕ, ◌<◌, ◌^◌, All}
use Rattle.jfrag.specs.Pieces.{end_of}
use Rattle.bench_overlay.proofs.pieces_of.Given as goal

abbrev pub invariant-loop-i : goal.invariant-loop-i
invariant-loop-i l = All (λ p. end_of p < 2 ^ 32) l.pieces.items
