use Rattle.jcalls.specs.Asked.{asked_order}
use Rattle.jcalls.proofs.ShownLemmas.{plain_fails}
use Rattle.jcalls.proofs.keeping.mount_kept.Goals as goal

pub returns-in-Ok-clause-err : goal.returns-in-Ok-clause-err
returns-in-Ok-clause-err c =
    plain_fails (asked_order c.args.how) c.args.how.block c.args.image.now c.in-Ok.mounted.state c.no_memory.result c.in-Ok.ensures.ok c.no_memory.ensures.told c.no_memory.ensures.is c.no_memory.ensures.other
