use Rattle.jcuts.specs.Cuts.{Asked}
use Rattle.jforetells.proofs.ForetoldLemmas.{stops_put_as}
use Rattle.jforetells.proofs.foretelling.put_told.Goals as goal

pub put_stops-put-requires-clause-through : goal.put_stops-put-requires-clause-through
put_stops-put-requires-clause-through g c = c.requires.through

pub put_stops-put-requires-clause-goes_on : goal.put_stops-put-requires-clause-goes_on
put_stops-put-requires-clause-goes_on g c = c.requires.goes_on

pub put_stops-put-requires-clause-numbered : goal.put_stops-put-requires-clause-numbered
put_stops-put-requires-clause-numbered g c = c.requires.numbered

pub returns : goal.returns
returns g c =
    let a = c.args in
    let asked : Asked = record { telling = a.on.telling; ops = a.ops.now; lines = a.lines.now } in
    stops_put_as g.E.Order.order a.on a.mounted.now.image asked _ c.put_stops-put.result _ c.stops_found.ensures c.put_stops-put.ensures
