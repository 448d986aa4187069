use Rattle.std.proofs.Common.{rules}
use Rattle.flashbase.specs.Sinks.{change_of}
use Rattle.jscan.specs.Scans.{IsScannable}
use Rattle.jmap.specs.Picture.{picture_text}
use Rattle.jmap.proofs.PutLemmas.{map_failed}
use Rattle.jmap.proofs.picture.put_picture.Goals as goal

pub returns-in_err-put_svg : goal.returns-in_err-put_svg
returns-in_err-put_svg g c =
    let size = c.args.geometry.block in
    let image = c.args.image.now in
    let scannable : IsScannable size image = search rules in
    let put = c.in_err-put_svg.ensures in
    map_failed size image (picture_text g.E.Order.order size image c.args.kept.now c.args.paths.now) (change_of g.T.Sink c.args.sink.now c.put_svg.new.sink) _ c.from_residual.ensures.1 scannable put.0 put.1
