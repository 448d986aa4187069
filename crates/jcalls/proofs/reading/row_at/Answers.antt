use Rattle.jcalls.proofs.ShownLemmas.{object_there}
use Rattle.jcalls.proofs.TreeLemmas.{path_reaches}
use Rattle.std.proofs.Common.{sym}
use Rattle.jcalls.proofs.reading.row_at.Goals as goal

pub returns-in-None-clause-err : goal.returns-in-None-clause-err
returns-in-None-clause-err c =
    let s = c.args.mounted.now.state in
    let there = path_reaches s c.args.path.now c.in-Ok.number c.requires.root (sym c.in-Ok.ensures) in
    absurd (object_there s c.in-Ok.number there (sym c.in-None.ensures))
