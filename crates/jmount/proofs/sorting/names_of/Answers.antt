use Rattle.std.proofs.Common.{◌+◌, [], ◌∷◌, ◌++◌, sym, ap, ◌∙◌, take}
use Rattle.std.proofs.lemmas.List.{map_push, take_more}
use Rattle.jmount.specs.CollectedEntries.{pending_entries}
use Rattle.jmount.specs.declared.sorting.Pending.{Pending}
use Rattle.jmount.proofs.CollectedEntriesLemmas.{entries_collected_more}
use Rattle.jmount.proofs.sorting.names_of.Goals as goal

pub loop-entry-preserved : goal.loop-entry-preserved
loop-entry-preserved c =
    let i = c.loop-entry.entry-index in
    let pending = c.args.pending.now in
    let x = c.loop-entry-item.result in
    entries_collected_more c.loop-entry.names c.add.new.self (pending_entries (take i pending)) (pending_entries (take (i + 1) pending)) x.entry.now c.loop-entry.invariant c.in_ok-add.ensures.ok c.in_ok-add.ensures.alone
    (ap pending_entries (take_more pending i x c.loop-entry-test.true ∙ ap (λ (p : Pending). take i pending ++ p ∷ []) (sym c.loop-entry-item.is)) ∙ map_push (λ (p : Pending). p.entry.now) (take i pending) x)
