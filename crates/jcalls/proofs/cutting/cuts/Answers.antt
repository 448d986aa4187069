use Rattle.std.proofs.Common.{subst}
use Rattle.jcalls.specs.Cutting.{CutsRefused}
use Rattle.jcalls.specs.Works.{listed_in}
use Rattle.jcalls.proofs.ShownLemmas.{told_same}
use Rattle.jcalls.proofs.cutting.cuts.Goals as goal

pub returns-in-Err-clause-refused : goal.returns-in-Err-clause-refused
returns-in-Err-clause-refused c _ _ =
    subst (λ told. CutsRefused c.args.how c.args.image.now c.args.work.target (listed_in c.args.work) told)
    (told_same c.in-Err.told c.tell.result c.tell.new.fault c.tell.ensures.status c.tell.ensures.address c.tell.ensures.detail) c.in-Err.ensures.err.due
