use Rattle.std.proofs.Common.{ℕ, Ok}
use Rattle.jreport.proofs.WholeImageLemmas.{content_failed, file_put, mount_failed}
use Rattle.jreport.proofs.whole_image.image_file.Goals as goal

pub returns-in_err-mounted : goal.returns-in_err-mounted
returns-in_err-mounted g c =
    mount_failed g.E.Order.order c.args.geometry.block c.args.image.now c.in_err-mounted.field-0.0 _ _ _ _ c.from_residual.ensures.1 c.in_err-mounted.ensures.told

pub returns-in_err-content : goal.returns-in_err-content
returns-in_err-content g c =
    content_failed ℕ g.E.Order.order c.args.geometry.block c.args.path.now c.args.image.now c.in_ok-mounted.mounted
    (g.T.Sink.taken c.args.sink.now) (g.T.Sink.taken c.content.new.sink) (g.T.Sink.failures c.args.sink.now) (g.T.Sink.failures c.content.new.sink)
    c.in_err-content.field-0.0 _ c.from_residual-in_err-content.ensures.1 c.in_ok-mounted.ensures.mounts c.in_err-content.ensures

pub returns : goal.returns
returns g c =
    file_put g.E.Order.order c.args.geometry.block c.args.path.now c.args.image.now c.in_ok-mounted.mounted
    (g.T.Sink.taken c.args.sink.now) (g.T.Sink.taken c.content.new.sink) (g.T.Sink.failures c.args.sink.now) (g.T.Sink.failures c.content.new.sink)
    (Ok c.noted.result) c.in_ok-mounted.ensures.mounts c.in_ok-content.ensures c.noted.ensures
