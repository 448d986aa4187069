use Rattle.std.proofs.Common.{rules, ◌≡◌, ℕ, List, ◌∷◌, [], ◌++◌, max, IfErr, sym, ap, subst, ◌∙◌, append_assoc, Err}
use Rattle.std.proofs.lemmas.List.{append-nil, nil_from_length}
use Rattle.std.specs.Vec.Iter.{into_iter_items}
use Rattle.jnode.specs.declared.node.NodeRef.{NodeRef}
use Rattle.jmount.specs.StateOf.{entries}
use Rattle.jmount.specs.Collected.{Collected, StopsCollecting, without_addresses}
use Rattle.jmount.proofs.CollectedLemmas.{collected_inode}
use Rattle.jmount.proofs.CollectLemmas.{number_push, inode_refused}
use Rattle.jmount.proofs.CollectedEntriesLemmas.{collected_entries, collected_past_entry, collected_of_entries, entries_collected_apart}
use Rattle.jmount.proofs.collecting.collect_inodes.Goals as goal

pub loop-addr-preserved-in-Continue-1 : goal.loop-addr-preserved-in-Continue-1
loop-addr-preserved-in-Continue-1 c =
    let ys = c.loop-addr.yielded in
    let first : into_iter_items c.loop-addr.addr-iterator ≡ (c.in-Some.addr, c.in-Some.node) ∷ into_iter_items c.next.new.self = search rules in
    let greatest : c.max-greatest.result ≡ max c.loop-addr.greatest c.number_in.result = search rules in
    let more = ys ++ (c.in-Some.addr, c.in-Some.node) ∷ [] in
    record {
      can = tt;
      finite = tt;
      collected = collected_entries (entries (without_addresses ys)) c.add_inode.new.inodes more
          (subst (λ (node : NodeRef). Collected (entries (without_addresses ys)) c.add_inode.new.inodes (ys ++ (c.in-Some.addr, node) ∷ [])) (sym c.in-Inode.is)
          (collected_inode (entries (without_addresses ys)) c.loop-addr.inodes c.add_inode.new.inodes ys c.in-Some.addr c.in-Inode.inode c.loop-addr.invariant.collected
          c.in_ok-add_inode.ensures.ok c.in_ok-add_inode.ensures.alone));
      number = number_push ys c.in-Some.addr c.in-Some.node c.loop-addr.greatest c.number_in.result c.max-greatest.result c.loop-addr.invariant.number c.number_in.ensures greatest;
      whole = append_assoc ys ((c.in-Some.addr, c.in-Some.node) ∷ []) (into_iter_items c.next.new.self) ∙ ap (λ (ns : List (ℕ × NodeRef)). ys ++ ns) (sym first) ∙ c.loop-addr.invariant.whole;
    }

pub loop-addr-preserved : goal.loop-addr-preserved
loop-addr-preserved c =
    let ys = c.loop-addr.yielded in
    let first : into_iter_items c.loop-addr.addr-iterator ≡ (c.in-Some.addr, c.in-Some.node) ∷ into_iter_items c.next.new.self = search rules in
    let greatest : c.max-greatest.result ≡ max c.loop-addr.greatest c.number_in.result = search rules in
    let whole : (ys ++ (c.in-Some.addr, c.in-Some.node) ∷ []) ++ into_iter_items c.next.new.self ≡ c.args.nodes.items =
    append_assoc ys ((c.in-Some.addr, c.in-Some.node) ∷ []) (into_iter_items c.next.new.self) ∙ ap (λ (ns : List (ℕ × NodeRef)). ys ++ ns) (sym first) ∙ c.loop-addr.invariant.whole in
    record {
      can = tt;
      finite = tt;
      collected = collected_past_entry c.loop-addr.inodes ys (into_iter_items c.next.new.self) c.args.nodes.items c.in-Some.addr c.in-Some.node c.in_default.field-0 c.loop-addr.invariant.collected
          c.in_default.is whole (entries_collected_apart c.args.names (entries (without_addresses c.args.nodes.items)) c.requires);
      number = number_push ys c.in-Some.addr c.in-Some.node c.loop-addr.greatest c.number_in.result c.max-greatest.result c.loop-addr.invariant.number c.number_in.ensures greatest;
      whole = whole;
    }

pub returns-in_err-add_inode-clause-err : goal.returns-in_err-add_inode-clause-err
returns-in_err-add_inode-clause-err c =
    let ys = c.loop-addr.yielded in
    let first : into_iter_items c.loop-addr.addr-iterator ≡ (c.in-Some.addr, c.in-Some.node) ∷ into_iter_items c.next.new.self = search rules in
    let same : c.from_residual.result ≡ Err c.in_err-add_inode.field-0.0 = search rules in
    subst (λ r. IfErr r (StopsCollecting c.args.nodes.items)) (sym same)
    (inode_refused (entries (without_addresses ys)) c.loop-addr.inodes c.args.nodes.items ys (into_iter_items c.next.new.self) c.in-Some.addr c.in-Some.node c.in-Inode.inode
    c.in_err-add_inode.field-0.0 c.loop-addr.invariant.collected (ap (λ (ns : List (ℕ × NodeRef)). ys ++ ns) (sym first) ∙ c.loop-addr.invariant.whole)
    c.in-Inode.is c.in_err-add_inode.ensures.err)

pub returns-clause-ok : goal.returns-clause-ok
returns-clause-ok c =
    let ys = c.loop-addr.yielded in
    let none : into_iter_items c.loop-addr.addr-iterator ≡ [] = nil_from_length (into_iter_items c.loop-addr.addr-iterator) (search rules) in
    let all : ys ≡ c.args.nodes.items = sym (append-nil ys) ∙ ap (λ (ns : List (ℕ × NodeRef)). ys ++ ns) (sym none) ∙ c.loop-addr.invariant.whole in
    collected_of_entries c.args.names c.loop-addr.inodes ys c.args.nodes.items c.requires c.loop-addr.invariant.collected all
