use Rattle.std.proofs.Common.{◌≡◌, map, take}
use Rattle.jinspects.proofs.live.addresses_of.Given as goal

abbrev pub invariant-loop-node : goal.invariant-loop-node
invariant-loop-node l = l.addresses.items ≡ map (λ n. n.0) (take l.node-index l.nodes)
