use Rattle.std.proofs.Common.{◌≡◌, ◌+◌, ◌*◌, ◌++◌, length, take}
use Rattle.jpast.specs.PastText.{digest_text}
use Rattle.jpast.proofs.lines.push_digest.Given as goal

abbrev pub invariant-loop-byte : goal.invariant-loop-byte
invariant-loop-byte l = record {
  text : l.line ≡ l.fn.line ++ digest_text (take l.byte-index l.digest);
  grows : length l.line ≡ length l.fn.line + 2 * l.byte-index;
}
