use Rattle.std.proofs.Common.{◌≡◌, length, take}
use Rattle.jnode.specs.Header.{header_len}
use Rattle.jnode.proofs.header.front_of.Given as goal

abbrev pub invariant-loop-i : goal.invariant-loop-i
invariant-loop-i l = (length l.front ≡ header_len) × (take l.i l.front ≡ take l.i l.rest)
