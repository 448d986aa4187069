use Rattle.std.proofs.Common.{◌≡◌, take}
use Rattle.jcollect.specs.Collecting.{addresses_of}
use Rattle.jcollect.proofs.collecting.addresses_of.Given as goal

abbrev pub invariant-loop-node : goal.invariant-loop-node
invariant-loop-node l = l.addresses.items ≡ addresses_of (take l.node-index l.nodes)
