use Rattle.std.proofs.Common.{◌≡◌, drop}
use Rattle.jcommand.specs.Sizes.{hex_from}
use Rattle.jcommand.proofs.sizes.hex.Given as goal

abbrev pub invariant-loop-byte : goal.invariant-loop-byte
invariant-loop-byte l = record {
  same : hex_from l.n (drop l.byte-index l.digits) ≡ hex_from 0 l.digits;
}
