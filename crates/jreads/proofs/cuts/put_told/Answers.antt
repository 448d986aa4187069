use Rattle.std.proofs.Common.{◌∙◌, ap}
use Rattle.jlog.specs.declared.start.Flash.{Flash}
use Rattle.jmount.specs.Mount.{Mount}
use Rattle.jcuts.specs.Cuts.{Asked}
use Rattle.jcuts.specs.declared.lines.Telling.TheVariants.{Nodes}
use Rattle.jreads.specs.CutTexts.{cuts_found}
use Rattle.jreads.proofs.CutsLemmas.{cuts_put_as}
use Rattle.jreads.proofs.cuts.put_told.Goals as goal

pub put_cuts-put-requires : goal.put_cuts-put-requires
put_cuts-put-requires g c = c.requires

pub returns : goal.returns
returns g c =
    let flash : Flash = c.args.start.now.flash in
    let m : Mount = c.args.start.now.mounted.now in
    let asked : Asked = record { telling = Nodes; ops = c.args.ops.now; lines = c.args.lines.now } in
    cuts_put_as g.E.Order.order flash m.image asked _ c.put_cuts-put.result _
    (c.cuts_found.ensures
    ∙ ap (λ (f : Flash). cuts_found f c.mounted.result.now.image c.put_cuts-put.result) c.flash.ensures
    ∙ ap (λ (k : Mount). cuts_found flash k.image c.put_cuts-put.result) c.mounted.ensures.same)
    c.put_cuts-put.ensures
