use Rattle.std.proofs.Common.{rules}
use Rattle.flashbase.specs.Sinks.{change_of}
use Rattle.jscan.specs.Scans.{IsScannable}
use Rattle.jhistory.specs.HistoryText.{history_text, selection}
use Rattle.jhistory.proofs.TellingLemmas.{history_failed}
use Rattle.jhistory.proofs.history.put_history.Goals as goal

pub returns-in_err-put_lines : goal.returns-in_err-put_lines
returns-in_err-put_lines g c =
    let size = c.args.geometry.block in
    let image = c.args.image.now in
    let scannable : IsScannable size image = search rules in
    let put = c.in_err-put_lines.ensures in
    history_failed size image (history_text g.E.Order.order size image c.args.words.now (selection c.args.subjects c.args.period)) (change_of g.T.Sink c.args.sink.now c.put_lines.new.sink) _ c.from_residual.ensures.1 scannable put.0 put.1
