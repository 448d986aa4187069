use Rattle.std.proofs.Common.{subst}
use Rattle.jcalls.specs.Looking.{StatRefused}
use Rattle.jcalls.proofs.ShownLemmas.{told_same}
use Rattle.jcalls.proofs.reading.stat.Goals as goal

pub returns-in-Err-clause-refused : goal.returns-in-Err-clause-refused
returns-in-Err-clause-refused c _ =
    subst (λ told. StatRefused c.args.how c.args.image.now c.args.path.now told)
    (told_same c.in-Err.told c.tell.result c.tell.new.fault c.tell.ensures.status c.tell.ensures.address c.tell.ensures.detail) c.in-Err.ensures.err.due
