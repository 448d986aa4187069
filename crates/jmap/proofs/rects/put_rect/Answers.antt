use Rattle.std.proofs.Common.{◌-◌, ℕ, ap, ◌∙◌, ◌++◌, subst}
use Rattle.std.specs.Io.KnownBytes.{Appends}
use Rattle.flashbase.specs.Device.{PutsPart}
use Rattle.flashbase.proofs.DeviceLemmas.{first_failed, then_puts, then_failed, part_before}
use Rattle.jmap.specs.ByteKinds.{byte_kind}
use Rattle.jmap.specs.Picture.{rect_start, rect_end, rect_text, title_text}
use Rattle.jmap.proofs.rects.put_rect.Goals as goal

pub returns-in_err-put_text : goal.returns-in_err-put_text
unfolding rect_text
returns-in_err-put_text g c =
    let s = c.args.extent.now in
    let place : ℕ = s.addr - c.args.start in
    let start = c.as_slice.ensures ∙ c.start_of_rect-begin.ensures ∙ ap (rect_start place s.addr s.len) c.byte_kind-kind.ensures in
    let put = c.in_err-put_text.ensures.puts in
    first_failed _ _ _ _ (rect_start place s.addr s.len (byte_kind c.args.kept.now s)) (title_text g.E.Order.order c.args.image.now c.args.paths.now s ++ rect_end) _ c.from_residual.ensures.0
    (subst (PutsPart (g.T.Sink.taken c.args.sink.now) (g.T.Sink.taken c.put_text.new.sink)) start put.0) put.1

pub returns-in_err-put_title : goal.returns-in_err-put_title
unfolding rect_text
returns-in_err-put_title g c =
    let s = c.args.extent.now in
    let place : ℕ = s.addr - c.args.start in
    let start = c.as_slice.ensures ∙ c.start_of_rect-begin.ensures ∙ ap (rect_start place s.addr s.len) c.byte_kind-kind.ensures in
    let first = c.in_ok-put_text.ensures.puts in
    let put = c.in_err-put_title.ensures in
    let title = title_text g.E.Order.order c.args.image.now c.args.paths.now s in
    then_failed _ (g.T.Sink.taken c.put_text.new.sink) _ _ (g.T.Sink.failures c.put_text.new.sink) _ (rect_start place s.addr s.len (byte_kind c.args.kept.now s)) (title ++ rect_end) _
    c.from_residual-in_err-put_title.ensures.0
    (subst (Appends (g.T.Sink.taken c.args.sink.now) (g.T.Sink.taken c.put_text.new.sink)) start first.0) first.1
    (part_before _ _ title rect_end put.0) put.1

pub returns : goal.returns
unfolding rect_text
returns g c =
    let s = c.args.extent.now in
    let place : ℕ = s.addr - c.args.start in
    let start = c.as_slice.ensures ∙ c.start_of_rect-begin.ensures ∙ ap (rect_start place s.addr s.len) c.byte_kind-kind.ensures in
    let first = c.in_ok-put_text.ensures.puts in
    let put = c.in_ok-put_title.ensures in
    let title = title_text g.E.Order.order c.args.image.now c.args.paths.now s in
    then_puts _ (g.T.Sink.taken c.put_text.new.sink) _ _ (g.T.Sink.failures c.put_text.new.sink) _ (rect_start place s.addr s.len (byte_kind c.args.kept.now s)) (title ++ rect_end) _
    (subst (Appends (g.T.Sink.taken c.args.sink.now) (g.T.Sink.taken c.put_text.new.sink)) start first.0) first.1
    (then_puts _ (g.T.Sink.taken c.put_title.new.sink) _ _ (g.T.Sink.failures c.put_title.new.sink) _ title rect_end _ put.0 put.1 c.put_text-2.ensures.puts)
