use Rattle.std.proofs.Common.{◌≡◌, sym, ◌∙◌}
use Rattle.jnode.specs.declared.node.NodeRef.TheVariants.{Entry}
use Rattle.jhistory.proofs.WordsLemmas.{adds_newest, adds_no_old}
use Rattle.jhistory.proofs.words.add_entry.Goals as goal

pub returns-then-not-branch : goal.returns-then-not-branch
returns-then-not-branch c = λ ns has here.
    adds_no_old ns (c.args.addr, Entry c.args.entry.now) c.args.named.now (sym (c.in_ok-is_newest.ensures ns has here) ∙ c.if-not-branch.true)

pub returns : goal.returns
returns c = λ ns has here.
    adds_newest ns c.args.addr c.args.entry.now c.args.named.now c.insert.new.self (sym (c.in_ok-is_newest.ensures ns has here) ∙ c.if-not-branch.false) c.in_ok-insert.ensures.updates.0
