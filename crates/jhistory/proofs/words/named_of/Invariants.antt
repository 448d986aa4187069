use Rattle.std.proofs.Common.{◌≡◌, ℕ, take}
use Rattle.std.specs.Prelude.{◌&&◌}
use Rattle.std.specs.BTreeSet.{contains}
use Rattle.std.specs.List.{list_any}
use Rattle.std.specs.Ordering.{nat_cmp}
use Rattle.jcompact.specs.Matters.{is_newest}
use Rattle.jhistory.specs.NodeWords.{stands_for}
use Rattle.jhistory.proofs.words.named_of.Given as goal

abbrev pub invariant-loop-node : goal.invariant-loop-node
invariant-loop-node l = (i : ℕ) → contains nat_cmp l.named i ≡ list_any (λ m. is_newest l.nodes m && stands_for i m.1) (take l.node-index l.nodes)
