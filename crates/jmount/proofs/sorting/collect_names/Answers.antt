use Rattle.std.proofs.Common.{List, subst}
use Rattle.jmount.specs.StateOf.{entries}
use Rattle.jmount.specs.Collected.{without_addresses}
use Rattle.jmount.specs.CollectedEntries.{CollectedEntries, pending_entries}
use Rattle.jmount.specs.declared.sorting.Pending.{Pending}
use Rattle.jmount.proofs.CollectedEntriesLemmas.{entries_collected_permuted, if_ok}
use Rattle.jmount.proofs.sorting.collect_names.Goals as goal

pub returns : goal.returns
returns c =
    if_ok c.names_of.result (λ names. CollectedEntries names (pending_entries c.deref.result.now)) (λ names. CollectedEntries names (entries (without_addresses c.args.nodes.now)))
    (λ names h.
    entries_collected_permuted names (entries (without_addresses c.args.nodes.now)) c.in_ok-pending.pending.items c.sort_unstable_by_key.new.self.items c.in_ok-pending.ensures c.sort_unstable_by_key.ensures.permutation
    (subst (λ (l : List Pending). CollectedEntries names (pending_entries l)) c.deref.ensures.value h))
    c.names_of.ensures
