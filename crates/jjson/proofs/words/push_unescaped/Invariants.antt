use Rattle.std.proofs.Common.{◌≡◌, ◌≤◌, ◌+◌, ◌++◌, List, option_map, length, ℕ}
use Rattle.std.specs.Vec.{vec_capacity, vec_len}
use Rattle.jline.specs.Read.{unescaped}
use Rattle.jjson.proofs.words.push_unescaped.Given as goal

abbrev pub invariant-loop-left : goal.invariant-loop-left
invariant-loop-left l = record {
  read : option_map (λ (more : List ℕ). l.fn.bytes.items ++ more) (unescaped l.word) ≡ option_map (λ (more : List ℕ). l.bytes.items ++ more) (unescaped l.left);
  room : vec_capacity l.bytes ≡ vec_capacity l.fn.bytes;
  fits : vec_len l.bytes + length l.left ≤ vec_capacity l.bytes;
}

abbrev pub decreases-loop-left : goal.decreases-loop-left
decreases-loop-left l = length l.left
