use Rattle.std.proofs.Common.{◌≡◌, ℕ, List, Err, ap, ◌∙◌, subst}
use Rattle.std.specs.Io.KnownBytes.{Appends}
use Rattle.flashbase.specs.Device.{PutsPart, next_count}
use Rattle.flashbase.specs.Sinks.{change_of}
use Rattle.flashbase.proofs.DeviceLemmas.{part_behind}
use Rattle.jhistory.specs.HistoryText.{PutsHistory, Subjects, history_text}
use Rattle.jpast.specs.PastText.{pasts_text}
use Rattle.jpast.specs.declared.past.Past.{Past}
use Rattle.jinspects.specs.Tracing.{nodes_asked}
use Rattle.jinspects.proofs.TraceLemmas.{first_text_failed}
use Rattle.jinspects.proofs.history.put_told.Goals as goal

pub returns-in-Err-put_pasts : goal.returns-in-Err-put_pasts
returns-in-Err-put_pasts g c =
    let e = g.E.Order.order in
    let size : ℕ = c.args.geometry.block in
    let image : List ℕ = c.args.image.now in
    let trace = c.args.trace.now in
    let mid = c.put_history.new.sink in
    let end = c.put_pasts.new.sink in
    let lines : List ℕ = history_text e size image trace.words (nodes_asked trace.numbers c.args.period) in
    let first = c.in-Ok.ensures in
    let put = c.in-Err-put_pasts.ensures in
    let whole : Appends (g.T.Sink.taken c.args.sink.now) (g.T.Sink.taken mid) lines =
    subst (λ (s : Subjects). Appends (g.T.Sink.taken c.args.sink.now) (g.T.Sink.taken mid) (history_text e size image trace.words (nodes_asked s c.args.period))) c.as_ref-numbers.ensures.value first.1 in
    let part : PutsPart (g.T.Sink.taken mid) (g.T.Sink.taken end) (pasts_text trace.pasts.items) =
    subst (λ (ps : List Past). PutsPart (g.T.Sink.taken mid) (g.T.Sink.taken end) (pasts_text ps)) c.as_slice.ensures.value put.0 in (
      first.0,
      part_behind (g.T.Sink.taken c.args.sink.now) (g.T.Sink.taken mid) (g.T.Sink.taken end) lines (pasts_text trace.pasts.items) whole part,
      put.1 ∙ ap next_count first.2,
    )

pub returns-in-Err : goal.returns-in-Err
returns-in-Err g c =
    let e = g.E.Order.order in
    let size : ℕ = c.args.geometry.block in
    let image : List ℕ = c.args.image.now in
    let trace = c.args.trace.now in
    let sink = change_of g.T.Sink c.args.sink.now c.put_history.new.sink in
    first_text_failed Unit size image (history_text e size image trace.words (nodes_asked trace.numbers c.args.period)) (pasts_text trace.pasts.items) sink c.in-Err.fault
    (subst (λ (s : Subjects). PutsHistory {T = Unit} size image (history_text e size image trace.words (nodes_asked s c.args.period)) sink (Err c.in-Err.fault)) c.as_ref-numbers.ensures.value c.in-Err.ensures)
