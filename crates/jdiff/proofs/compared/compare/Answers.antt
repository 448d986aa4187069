use Rattle.std.proofs.Common.{sym}
use Rattle.jdiff.proofs.ComparedLemmas.{compared_more}
use Rattle.jdiff.proofs.compared.compare.Goals as goal

pub returns-in-Some-clause-place : goal.returns-in-Some-clause-place
returns-in-Some-clause-place c = c.requires.known c.args.left.now.ino c.args.right.now.ino c.in-Some.place.now (sym c.in-Some.ensures.value)

pub returns-clause-known : goal.returns-clause-known
returns-clause-known c =
    compared_more c.args.trees.now.left.now.state c.args.trees.now.right.now.state c.args.compared.now c.insert.new.self c.args.left.now.ino c.args.right.now.ino c.first_difference-place.result
    c.requires.known c.first_difference-place.ensures c.in_ok-insert.ensures.updates
