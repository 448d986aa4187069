use Rattle.jlog.specs.declared.start.Flash.{Flash}
use Rattle.jmount.specs.Mount.{Mount}
use Rattle.jcuts.specs.Cuts.{Asked}
use Rattle.jcuts.specs.declared.lines.Telling.TheVariants.{Nodes}
use Rattle.jedge.specs.Acts.{prints}
use Rattle.jedge.proofs.Steps.{answered, does_at, then_err, then_ok}
use Rattle.jreads.specs.CutTexts.{TellsCuts}
use Rattle.jreads.proofs.cuts.tell_mounted.Goals as goal

pub returns-in-Ok : goal.returns-in-Ok
returns-in-Ok g c =
    let asked : Asked = record { telling = Nodes; ops = c.args.ops.now; lines = c.args.lines.now } in
    let e = g.E.Order.order in
    let start = c.in-Ok.start in
    then_ok (answered c.in-Ok.ensures.starts)
    (does_at (λ (m : Mount). prints (TellsCuts e c.args.flash m.image asked)) c.in-Ok.ensures.mount
    (does_at (λ (f : Flash). prints (TellsCuts e f start.mounted.now.image asked)) c.in-Ok.ensures.flash c.print_told.ensures))

pub returns-in-Err : goal.returns-in-Err
returns-in-Err g c = then_err (answered c.in-Err.ensures.starts)
