use Rattle.std.proofs.Common.{◌≡◌, ◌≤◌, ◌*◌, take, length}
use Rattle.jjson.specs.Json.{string_spelled}
use Rattle.jjson.proofs.strings.write_piece.Given as goal

abbrev pub invariant-loop-byte : goal.invariant-loop-byte
invariant-loop-byte l = record {
  text : l.line ≡ string_spelled l.way (take l.byte-index l.piece);
  short : length l.line ≤ 6 * l.byte-index;
}
