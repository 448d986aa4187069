use Rattle.std.proofs.Common.{take}
use Rattle.jmount.specs.CollectedEntries.{CollectedEntries, pending_entries}
use Rattle.jmount.proofs.sorting.names_of.Given as goal

abbrev pub invariant-loop-entry : goal.invariant-loop-entry
invariant-loop-entry l = CollectedEntries l.names (pending_entries (take l.entry-index l.pending))
