use Rattle.std.proofs.Common.{◌≡◌, take}
use Rattle.jmount.specs.StateOf.{entries}
use Rattle.jmount.specs.Collected.{without_addresses}
use Rattle.jmount.specs.CollectedEntries.{pending_entries}
use Rattle.jmount.proofs.sorting.entries_in.Given as goal

abbrev pub invariant-loop-node : goal.invariant-loop-node
invariant-loop-node l = pending_entries l.pending.items ≡ entries (without_addresses (take l.node-index l.nodes))
