use Rattle.std.proofs.Common.{◌≡◌, ◌≤◌, ◌+◌, ◌*◌, ◌++◌, length}
use Rattle.jline.specs.Words.{spelled}
use Rattle.jline.proofs.line.LineBuffer.push_spelled.Given as goal

abbrev pub invariant-loop-byte : goal.invariant-loop-byte
invariant-loop-byte l = record {
  text : l.self ++ spelled l.spelling l.byte-iterator ≡ l.initial.self ++ spelled l.spelling l.text;
  grows : length l.self + 4 * length l.byte-iterator ≤ length l.initial.self + 4 * length l.text;
}
