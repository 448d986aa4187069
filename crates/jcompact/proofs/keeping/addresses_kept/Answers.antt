use Rattle.std.proofs.Common.{rules, ◌≡◌, length}
use Rattle.std.specs.Ordering.{nat_cmp}
use Rattle.jcompact.specs.Taking.{name_key_cmp, reached_by}
use Rattle.jcompact.proofs.KeptLemmas.{all_swept, begins, goes_on, is_of_nodes, none_in, none_left}
use Rattle.jcompact.proofs.keeping.addresses_kept.Goals as goal

pub loop-node-init : goal.loop-node-init
loop-node-init c =
    let reached = reached_by c.args.tree.mounted.now.state c.args.tree.unreached.now in
    begins c.args.nodes.now reached c.in_ok-left.left _ 18446744073709551616 c.in_ok-left.ensures.addresses c.in_ok-left.ensures.ranks c.in_ok-bare.ensures c.in_ok-left.ensures.left
    (λ i. none_in nat_cmp c.new-numbers.result i c.new-numbers.ensures.empty) (λ k. none_in name_key_cmp c.new-names.result k c.new-names.ensures.empty)
    (λ a. none_in nat_cmp c.new-kept.result a c.new-kept.ensures.empty)

pub loop-node-preserved : goal.loop-node-preserved
loop-node-preserved c =
    let s = c.args.tree.mounted.now.state in
    let reached = reached_by s c.args.tree.unreached.now in
    goes_on s c.args.nodes.now reached c.loop-node.left c.pop_last.new.self c.loop-node.taken c.take.new.taken _ c.in-Some.node c.requires.made c.requires.by_address c.requires.mountable
    c.in-Some.ensures.value c.in-Some.ensures.greatest c.in-Some.ensures.updates.0 c.in_ok-take.ensures c.loop-node.invariant

pub take-requires : goal.take-requires
take-requires c =
    let reached = reached_by c.args.tree.mounted.now.state c.args.tree.unreached.now in
    is_of_nodes c.args.nodes.now reached c.loop-node.left c.loop-node.taken _ c.in-Some.node c.requires.mountable c.loop-node.invariant c.in-Some.ensures.value

pub returns : goal.returns
returns c =
    let reached = reached_by c.args.tree.mounted.now.state c.args.tree.unreached.now in
    let none : length c.loop-node.left.entries ≡ 0 = search rules in
    all_swept c.args.nodes.now reached c.loop-node.left c.loop-node.taken (none_left c.loop-node.left none) c.loop-node.invariant
