use Rattle.std.specs.Prelude.{Contains}
use Rattle.std.proofs.Common.{◌≡◌, ◌<◌, ◌++◌, ◌∷◌, [], Option, ap, sym, subst, ◌∙◌, arith}
use Rattle.jname.proofs.ContentsByNameLemmas.{ok_map, err_map}
use Rattle.jname.proofs.FewLemmas.{either_way}
use Rattle.jnode.specs.declared.node.InodeNode.{InodeNode}
use Rattle.jmount.specs.ByVersion.{node_of_version}
use Rattle.jmount.specs.Inodes.{InodeAgrees}
use Rattle.jmount.proofs.NewestLemmas.{below_one_more, below_pushed, below_same, greater_more, none_above, none_of_greater}
use Rattle.jmount.proofs.versions.Versions.add.Goals as goal

pub invariant_of-self-then-node-self-2 : goal.invariant_of-self-then-node-self-2
invariant_of-self-then-node-self-2 c =
    let old = c.args.self.now.older.nodes.items in
    let new = c.add.new.self.nodes.items in
    let v = c.args.self.now.newest.version in
    record {
      below = either_way c.add.result
          (ok_map c.add.result (λ (from : (x : InodeNode) → Contains new x → Contains (c.args.node ∷ old) x). below_one_more old new c.args.node v from c.if-node-self-2.true c.args.self.now.below) c.add.ensures.nodes)
          (err_map c.add.result (λ (same : new ≡ old). below_same old new v same c.args.self.now.below) c.add.ensures.err);
    }

pub push-requires : goal.push-requires
push-requires c =
    ap (λ (node : InodeNode). node_of_version c.args.self.now.older.nodes.items node.version) c.copied.ensures
    ∙ none_of_greater c.args.self.now.older.nodes.items c.args.self.now.newest.version c.args.self.now.below

pub invariant_of-self-in-Break-1 : goal.invariant_of-self-in-Break-1
invariant_of-self-in-Break-1 c =
    record { below = below_same c.args.self.now.older.nodes.items c.push.new.self.nodes.items c.args.self.now.newest.version c.in_err-push.ensures.err c.args.self.now.below }

pub invariant_of-self-2 : goal.invariant_of-self-2
invariant_of-self-2 c =
    let above : c.args.self.now.newest.version < c.args.node.version = omega (arith, c.if-node-self.false, c.if-node-self-2.false) in
    record {
      below = below_pushed c.args.self.now.older.nodes.items c.push.new.self.nodes.items c.copied.result c.args.self.now.newest c.args.node.version
          c.in_ok-push.ensures.ok c.copied.ensures above c.args.self.now.below;
    }

pub returns-clause-alone : goal.returns-clause-alone
returns-clause-alone c =
    let above : c.args.self.now.newest.version < c.args.node.version = omega (arith, c.if-node-self.false, c.if-node-self-2.false) in
    subst (λ (o : Option InodeNode). InodeAgrees o c.args.node) (sym (none_above c.args.self.now c.args.node.version above)) tt

pub returns-clause-ok : goal.returns-clause-ok
returns-clause-ok c =
    greater_more c.args.self.now c.args.node c.push.new.self.nodes.items
    (c.in_ok-push.ensures.ok ∙ ap (λ (node : InodeNode). c.args.self.now.older.nodes.items ++ node ∷ []) c.copied.ensures)
