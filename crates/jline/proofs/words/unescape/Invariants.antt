use Rattle.std.proofs.Common.{◌≡◌, ◌++◌, List, option_map, length, ℕ}
use Rattle.jline.specs.Read.{unescaped}
use Rattle.jline.proofs.words.unescape.Given as goal

abbrev pub invariant-loop-left : goal.invariant-loop-left
invariant-loop-left l = unescaped l.word ≡ option_map (λ (more : List ℕ). l.bytes.items ++ more) (unescaped l.left)

abbrev pub decreases-loop-left : goal.decreases-loop-left
decreases-loop-left l = length l.left
