use Rattle.std.proofs.Common.{refl}
use Rattle.jconvert.proofs.PackLemmas.{not_compressed}
use Rattle.jconvert.proofs.compressing.compress.Goals as goal

pub returns-in-Err-clause-err : goal.returns-in-Err-clause-err
returns-in-Err-clause-err g c = (
  c.args.sink,
  refl,
  not_compressed g.E.Order.order c.args.geometry.block c.args.image.now _ _ c.in-Err.fault c.in-Err.ensures.refused c.in-Err.ensures.no_sink,
)
