use Rattle.std.proofs.Common.{◌≡◌, ◌≤◌, ◌+◌, ◌*◌, ◌++◌, length}
use Rattle.jmap.specs.NodeTexts.{markup_name}
use Rattle.jmap.proofs.texts.push_name.Given as goal

abbrev pub invariant-loop-byte : goal.invariant-loop-byte
invariant-loop-byte l = record {
  text : l.line ++ markup_name l.byte-iterator ≡ l.initial.line ++ markup_name l.name;
  grows : length l.line + 4 * length l.byte-iterator ≤ length l.initial.line + 4 * length l.name;
}
