use Rattle.jcalls.proofs.ShownLemmas.{no_memory_fails}
use Rattle.jcalls.proofs.naming.tree_of.Goals as goal

pub returns-in-Ok-clause-err : goal.returns-in-Ok-clause-err
returns-in-Ok-clause-err c =
    no_memory_fails c.args.how c.args.image.now c.in-Ok.mounted.state c.no_memory.result c.in-Ok.ensures.ok c.no_memory.ensures.told c.no_memory.ensures.is c.no_memory.ensures.other
