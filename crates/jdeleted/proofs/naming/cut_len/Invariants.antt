use Rattle.std.proofs.Common.{◌≡◌, ◌≤◌, ℕ, List}
use Rattle.jdeleted.specs.Naming.{cut_len}
use Rattle.jdeleted.proofs.naming.cut_len.Given as goal

pub record IsCutSoFar (name : List ℕ) (most len : ℕ) : Type 0 where
  pub within : len ≤ most
  pub same : cut_len name most ≡ cut_len name len

abbrev pub invariant-loop-len : goal.invariant-loop-len
invariant-loop-len l = IsCutSoFar l.name l.most l.len

abbrev pub decreases-loop-len : goal.decreases-loop-len
decreases-loop-len l = l.len
