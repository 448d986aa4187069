use Rattle.std.proofs.Common.{subst, List}
use Rattle.std.specs.List.{flat_map}
use Rattle.std.specs.Io.KnownBytes.{Appends}
use Rattle.flashbase.specs.Device.{PutsPart}
use Rattle.flashbase.proofs.DeviceLemmas.{first_failed, then_puts}
use Rattle.jregions.specs.RegionText.{region_line, more_regions_line, region_lines}
use Rattle.jregions.specs.declared.region.Region.{Region}
use Rattle.jregions.proofs.lines.put_regions.Goals as goal

pub returns-in_err-put_each : goal.returns-in_err-put_each
unfolding region_lines
returns-in_err-put_each g c =
    let regions = c.args.regions.now in
    let put = c.in_err-put_each.ensures in
    let part = subst (λ (l : List Region). PutsPart (g.T.Sink.taken c.args.sink.now) (g.T.Sink.taken c.put_each.new.sink) (flat_map region_line l)) c.deref.ensures.value put.0 in
    first_failed _ _ _ _ (flat_map region_line regions.first.items) (more_regions_line regions.more) _ c.from_residual.ensures.0 part put.1

pub returns : goal.returns
unfolding region_lines
returns g c =
    let regions = c.args.regions.now in
    let put = c.in_ok-put_each.ensures in
    let all = subst (λ (l : List Region). Appends (g.T.Sink.taken c.args.sink.now) (g.T.Sink.taken c.put_each.new.sink) (flat_map region_line l)) c.deref.ensures.value put.0 in
    then_puts _ (g.T.Sink.taken c.put_each.new.sink) _ _ _ _ (flat_map region_line regions.first.items) (more_regions_line regions.more) _ all put.1 c.put_more.ensures
