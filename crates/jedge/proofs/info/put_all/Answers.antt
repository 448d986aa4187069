use Rattle.std.proofs.Common.{Option, Ok, Err, ◌++◌}
use Rattle.std.specs.Prelude.{Result}
use Rattle.flashbase.specs.declared.source.DeviceFault.{DeviceFault}
use Rattle.flashbase.proofs.DeviceLemmas.{first_failed, then_puts}
use Rattle.jnode.specs.declared.order.Endian.{Endian}
use Rattle.jinfo.specs.InfoText.{info_text}
use Rattle.jspare.specs.Showing.{spare_lines}
use Rattle.jregions.specs.RegionText.{region_lines}
use Rattle.jedge.proofs.info.put_all.Goals as goal

pub returns-in_err-order-clause-puts : goal.returns-in_err-order-clause-puts
returns-in_err-order-clause-puts g c =
    let put = c.in_err-order.ensures.puts in
    first_failed _ _ _ _ (info_text c.args.image.now) (spare_lines c.args.spare ++ region_lines c.args.regions.now) _ c.from_residual.ensures.0 put.0 put.1

pub returns-in-Ok-clause-puts : goal.returns-in-Ok-clause-puts
returns-in-Ok-clause-puts g c =
    let put = c.in_ok-order.ensures.puts in
    let answer : Result (Option Endian) DeviceFault = Ok c.in_ok-order.order in
    then_puts (g.T.Sink.taken c.args.sink.now) (g.T.Sink.taken c.put_image.new.sink) (g.T.Sink.taken c.put_dump.new.sink)
    (g.T.Sink.failures c.args.sink.now) (g.T.Sink.failures c.put_image.new.sink) (g.T.Sink.failures c.put_dump.new.sink)
    (info_text c.args.image.now) (spare_lines c.args.spare ++ region_lines c.args.regions.now) answer put.0 put.1 c.in-Ok.ensures

pub returns-in-Err-clause-puts : goal.returns-in-Err-clause-puts
returns-in-Err-clause-puts g c =
    let put = c.in_ok-order.ensures.puts in
    let answer : Result (Option Endian) DeviceFault = Err (record {}) in
    then_puts (g.T.Sink.taken c.args.sink.now) (g.T.Sink.taken c.put_image.new.sink) (g.T.Sink.taken c.put_dump.new.sink)
    (g.T.Sink.failures c.args.sink.now) (g.T.Sink.failures c.put_image.new.sink) (g.T.Sink.failures c.put_dump.new.sink)
    (info_text c.args.image.now) (spare_lines c.args.spare ++ region_lines c.args.regions.now) answer put.0 put.1 c.in-Err.ensures
