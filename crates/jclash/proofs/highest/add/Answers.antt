use Rattle.std.proofs.Common.{rules, ◌≡◌, Option, subst}
use Rattle.std.specs.BTreeMap.{get}
use Rattle.jclash.specs.Keys.{KnowsOneMore, node_key_cmp}
use Rattle.jclash.specs.declared.highest.Highest.{Highest}
use Rattle.jclash.proofs.KeyLemmas.{knows_more}
use Rattle.jclash.proofs.highest.add.Goals as goal

pub returns : goal.returns
returns c = λ ns order knows.
    let known : c.copied.result ≡ get node_key_cmp c.args.known.now c.in_ok-key.key = search rules in
    knows_more c.args.addr c.args.node.now ns c.in_ok-key.key c.args.known.now c.insert.new.self c.with_node-by.result.0 c.with_node-by.result.1 c.in_ok-key.ensures
    (subst (λ (o : Option Highest). KnowsOneMore o c.args.addr c.args.node.now c.with_node-by.result) known c.with_node-by.ensures)
    c.in_ok-insert.ensures.updates.0 order knows
