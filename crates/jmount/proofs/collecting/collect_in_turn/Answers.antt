use Rattle.std.proofs.Common.{rules, ◌≡◌, ℕ, List, ◌∷◌, [], ◌++◌, max, IfErr, sym, ap, subst, ◌∙◌, append_assoc, Err}
use Rattle.std.specs.Vec.Iter.{into_iter_items}
use Rattle.jnode.specs.declared.node.NodeRef.{NodeRef}
use Rattle.jmount.specs.Collected.{Collected, StopsCollecting}
use Rattle.jmount.proofs.CollectedLemmas.{collected_entry, collected_inode}
use Rattle.jmount.proofs.CollectLemmas.{number_push, entry_refused, inode_refused}
use Rattle.jmount.proofs.collecting.collect_in_turn.Goals as goal

pub loop-addr-preserved-in-Continue-1 : goal.loop-addr-preserved-in-Continue-1
loop-addr-preserved-in-Continue-1 c =
    let first : into_iter_items c.loop-addr.addr-iterator ≡ (c.in-Some.addr, c.in-Some.node) ∷ into_iter_items c.next.new.self = search rules in
    let greatest : c.max-greatest.result ≡ max c.loop-addr.greatest c.number_in.result = search rules in
    record {
      can = tt;
      finite = tt;
      collected = subst (λ (node : NodeRef). Collected c.add_entry.new.names c.loop-addr.inodes (c.loop-addr.yielded ++ (c.in-Some.addr, node) ∷ [])) (sym c.in-Entry.is)
          (collected_entry c.loop-addr.names c.add_entry.new.names c.loop-addr.inodes c.loop-addr.yielded c.in-Some.addr c.in-Entry.entry c.loop-addr.invariant.collected
          c.in_ok-add_entry-in-Entry.ensures.ok c.in_ok-add_entry-in-Entry.ensures.alone);
      number = number_push c.loop-addr.yielded c.in-Some.addr c.in-Some.node c.loop-addr.greatest c.number_in.result c.max-greatest.result c.loop-addr.invariant.number c.number_in.ensures greatest;
      whole = append_assoc c.loop-addr.yielded ((c.in-Some.addr, c.in-Some.node) ∷ []) (into_iter_items c.next.new.self) ∙ ap (λ (ns : List (ℕ × NodeRef)). c.loop-addr.yielded ++ ns) (sym first) ∙ c.loop-addr.invariant.whole;
    }

pub loop-addr-preserved : goal.loop-addr-preserved
loop-addr-preserved c =
    let first : into_iter_items c.loop-addr.addr-iterator ≡ (c.in-Some.addr, c.in-Some.node) ∷ into_iter_items c.next.new.self = search rules in
    let greatest : c.max-greatest.result ≡ max c.loop-addr.greatest c.number_in.result = search rules in
    record {
      can = tt;
      finite = tt;
      collected = subst (λ (node : NodeRef). Collected c.loop-addr.names c.add_inode.new.inodes (c.loop-addr.yielded ++ (c.in-Some.addr, node) ∷ [])) (sym c.in-Inode.is)
          (collected_inode c.loop-addr.names c.loop-addr.inodes c.add_inode.new.inodes c.loop-addr.yielded c.in-Some.addr c.in-Inode.inode c.loop-addr.invariant.collected
          c.in_ok-add_inode-in-Inode.ensures.ok c.in_ok-add_inode-in-Inode.ensures.alone);
      number = number_push c.loop-addr.yielded c.in-Some.addr c.in-Some.node c.loop-addr.greatest c.number_in.result c.max-greatest.result c.loop-addr.invariant.number c.number_in.ensures greatest;
      whole = append_assoc c.loop-addr.yielded ((c.in-Some.addr, c.in-Some.node) ∷ []) (into_iter_items c.next.new.self) ∙ ap (λ (ns : List (ℕ × NodeRef)). c.loop-addr.yielded ++ ns) (sym first) ∙ c.loop-addr.invariant.whole;
    }

pub returns-in_err-add_entry-in-Entry-clause-err : goal.returns-in_err-add_entry-in-Entry-clause-err
returns-in_err-add_entry-in-Entry-clause-err c =
    let first : into_iter_items c.loop-addr.addr-iterator ≡ (c.in-Some.addr, c.in-Some.node) ∷ into_iter_items c.next.new.self = search rules in
    let same : c.from_residual.result ≡ Err c.in_err-add_entry-in-Entry.field-0.0 = search rules in
    subst (λ r. IfErr r (StopsCollecting c.args.nodes.items)) (sym same)
    (entry_refused c.loop-addr.names c.loop-addr.inodes c.args.nodes.items c.loop-addr.yielded (into_iter_items c.next.new.self) c.in-Some.addr c.in-Some.node c.in-Entry.entry
    c.in_err-add_entry-in-Entry.field-0.0 c.loop-addr.invariant.collected (ap (λ (ns : List (ℕ × NodeRef)). c.loop-addr.yielded ++ ns) (sym first) ∙ c.loop-addr.invariant.whole)
    c.in-Entry.is c.in_err-add_entry-in-Entry.ensures.err)

pub returns-in_err-add_inode-in-Inode-clause-err : goal.returns-in_err-add_inode-in-Inode-clause-err
returns-in_err-add_inode-in-Inode-clause-err c =
    let first : into_iter_items c.loop-addr.addr-iterator ≡ (c.in-Some.addr, c.in-Some.node) ∷ into_iter_items c.next.new.self = search rules in
    let same : c.from_residual-in_err-add_inode-in-Inode.result ≡ Err c.in_err-add_inode-in-Inode.field-0.0 = search rules in
    subst (λ r. IfErr r (StopsCollecting c.args.nodes.items)) (sym same)
    (inode_refused c.loop-addr.names c.loop-addr.inodes c.args.nodes.items c.loop-addr.yielded (into_iter_items c.next.new.self) c.in-Some.addr c.in-Some.node c.in-Inode.inode
    c.in_err-add_inode-in-Inode.field-0.0 c.loop-addr.invariant.collected (ap (λ (ns : List (ℕ × NodeRef)). c.loop-addr.yielded ++ ns) (sym first) ∙ c.loop-addr.invariant.whole)
    c.in-Inode.is c.in_err-add_inode-in-Inode.ensures.err)
