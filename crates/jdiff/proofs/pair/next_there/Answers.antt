use Rattle.std.proofs.Common.{sym, ◌∙◌, true, false}
use Rattle.jmount.specs.Tree.{object}
use Rattle.jdiff.proofs.PairLemmas.{name_there, name_gone, shown_there}
use Rattle.jdiff.proofs.pair.next_there.Goals as goal

pub returns-then-is_some : goal.returns-then-is_some
returns-then-is_some c =
    let s = c.args.mounted.now.state in
    sym c.loop-name.invariant
    ∙ name_there s c.in-Some.name.now c.in-Some.ino c.loop-name.names c.next.new.self c.in-Some.ensures.steps
    (shown_there (object s c.in-Some.ino) c.object.result true c.object.ensures (sym c.is_some.ensures ∙ c.if-is_some.true))

pub loop-name-preserved : goal.loop-name-preserved
loop-name-preserved c =
    let s = c.args.mounted.now.state in
    name_gone s c.in-Some.name.now c.in-Some.ino c.loop-name.names c.next.new.self c.in-Some.ensures.steps
    (shown_there (object s c.in-Some.ino) c.object.result false c.object.ensures (sym c.is_some.ensures ∙ c.if-is_some.false))
    ∙ c.loop-name.invariant
