use Rattle.flashbase.proofs.DeviceLemmas.{first_failed, then_puts}
use Rattle.jspare.specs.Showing.{spare_lines}
use Rattle.jregions.specs.RegionText.{region_lines}
use Rattle.jedge.proofs.info.put_dump.Goals as goal

pub returns-in_err-put_spare : goal.returns-in_err-put_spare
returns-in_err-put_spare g c =
    let put = c.in_err-put_spare.ensures in
    first_failed _ _ _ _ (spare_lines c.args.spare) (region_lines c.args.regions.now) _ c.from_residual.ensures.0 put.0 put.1

pub returns : goal.returns
returns g c =
    let put = c.in_ok-put_spare.ensures in
    then_puts (g.T.Sink.taken c.args.sink.now) (g.T.Sink.taken c.put_spare.new.sink) (g.T.Sink.taken c.put_regions.new.sink)
    (g.T.Sink.failures c.args.sink.now) (g.T.Sink.failures c.put_spare.new.sink) (g.T.Sink.failures c.put_regions.new.sink)
    (spare_lines c.args.spare) (region_lines c.args.regions.now) c.put_regions.result put.0 put.1 c.put_regions.ensures
