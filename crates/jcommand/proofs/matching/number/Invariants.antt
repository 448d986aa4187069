use Rattle.std.proofs.Common.{◌≡◌, ◌<◌, ◌^◌, drop}
use Rattle.jcommand.specs.Parsed.{decimal_from}
use Rattle.jcommand.proofs.matching.number.Given as goal

abbrev pub invariant-loop-byte : goal.invariant-loop-byte
invariant-loop-byte l = record {
  same : decimal_from l.n (drop l.byte-index l.text) ≡ decimal_from 0 l.text;
  fits : l.n < 2 ^ 32;
}
