use Rattle.std.proofs.Common.{◌∙◌, subst}
use Rattle.std.specs.Io.KnownBytes.{Appends}
use Rattle.flashbase.specs.Device.{PutsPart}
use Rattle.flashbase.proofs.DeviceLemmas.{first_failed, then_puts}
use Rattle.jmap.specs.NodeTexts.{what_text}
use Rattle.jmap.specs.Places.{place_text}
use Rattle.jmap.proofs.rects.put_title.Goals as goal

pub returns-in_err-put_text : goal.returns-in_err-put_text
returns-in_err-put_text g c =
    let e = g.E.Order.order in
    let s = c.args.extent.now in
    let image = c.args.image.now in
    let put = c.in_err-put_text.ensures.puts in
    first_failed _ _ _ _ (what_text e image s.addr s.kind) (place_text e image c.args.paths.now s.addr s.kind) _ c.from_residual.ensures.0
    (subst (PutsPart (g.T.Sink.taken c.args.sink.now) (g.T.Sink.taken c.put_text.new.sink)) (c.as_slice.ensures ∙ c.what_line.ensures) put.0) put.1

pub returns : goal.returns
returns g c =
    let e = g.E.Order.order in
    let s = c.args.extent.now in
    let image = c.args.image.now in
    let first = c.in_ok-put_text.ensures.puts in
    then_puts _ (g.T.Sink.taken c.put_text.new.sink) _ _ _ _ (what_text e image s.addr s.kind) (place_text e image c.args.paths.now s.addr s.kind) _
    (subst (Appends (g.T.Sink.taken c.args.sink.now) (g.T.Sink.taken c.put_text.new.sink)) (c.as_slice.ensures ∙ c.what_line.ensures) first.0) first.1 c.put_place.ensures
