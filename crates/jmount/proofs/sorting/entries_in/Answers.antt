use Rattle.std.proofs.Common.{[], ◌∷◌, ◌++◌, sym, ap, ◌∙◌}
use Rattle.std.proofs.lemmas.List.{append-nil, map_push}
use Rattle.jnode.specs.declared.node.NodeRef.{NodeRef}
use Rattle.jmount.specs.StateOf.{entries}
use Rattle.jmount.specs.CollectedEntries.{pending_entries}
use Rattle.jmount.specs.declared.sorting.Pending.{Pending}
use Rattle.jmount.proofs.CollectedEntriesLemmas.{entries_more}
use Rattle.jmount.proofs.sorting.entries_in.Goals as goal
use Rattle.jmount.proofs.sorting.entries_in.Goals.{in-Entry+in_ok-push, in_default}

pub loop-node-preserved : goal.loop-node-preserved
loop-node-preserved c =
    let i = c.loop-node.node-index in
    let nodes = c.args.nodes.now in
    let n = c.loop-node-item.result in
    let known = pending_entries c.loop-node.pending.items in
    elim c.match-node.branch [
      | in-Entry+in_ok-push w ↦ entries_more nodes i n known (pending_entries c.match-node.pending.items) c.loop-node-test.true c.loop-node-item.is c.loop-node.invariant
          (ap (λ v. pending_entries v.items) w.pending-is ∙ ap pending_entries w.in_ok-push.ensures.items ∙ map_push (λ (p : Pending). p.entry.now) c.loop-node.pending.items _
          ∙ sym (ap (λ (m : NodeRef). known ++ entries (m ∷ [])) w.in-Entry.is))
      | in_default w ↦ entries_more nodes i n known (pending_entries c.match-node.pending.items) c.loop-node-test.true c.loop-node-item.is c.loop-node.invariant
          (ap (λ v. pending_entries v.items) w.pending-is ∙ sym (ap (λ (m : NodeRef). known ++ entries (m ∷ [])) w.in_default.is ∙ append-nil known))
    ]
