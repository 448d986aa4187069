use Rattle.jcuts.specs.Cuts.{Asked}
use Rattle.jcuts.specs.declared.lines.Telling.TheVariants.{Nodes}
use Rattle.jforetells.proofs.ForetoldLemmas.{halts_put_as}
use Rattle.jforetells.proofs.foretelling.put_updates.Goals as goal

pub put_halts-put-requires-clause-through : goal.put_halts-put-requires-clause-through
put_halts-put-requires-clause-through g c = c.requires.through

pub put_halts-put-requires-clause-goes_on : goal.put_halts-put-requires-clause-goes_on
put_halts-put-requires-clause-goes_on g c = c.requires.goes_on

pub put_halts-put-requires-clause-numbered : goal.put_halts-put-requires-clause-numbered
put_halts-put-requires-clause-numbered g c = c.requires.numbered

pub returns : goal.returns
returns g c =
    let a = c.args in
    let asked : Asked = record { telling = Nodes; ops = a.ops.now; lines = a.lines.now } in
    halts_put_as g.E.Order.order a.on a.mounted.now.image asked _ c.put_halts-put.result _ c.stops_found.ensures c.put_halts-put.ensures
