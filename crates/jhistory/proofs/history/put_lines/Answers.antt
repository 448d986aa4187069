use Rattle.std.proofs.Common.{◌≡◌, ℕ, List, ap, ◌∙◌, subst}
use Rattle.std.specs.List.{flat_map}
use Rattle.flashbase.specs.Device.{Puts}
use Rattle.flashbase.proofs.DeviceLemmas.{first_failed, then_puts}
use Rattle.jscan.specs.Scans.{image_extents}
use Rattle.jhistory.specs.HistoryText.{history_text, selection, told_line, word_totals, word_totals_line, words_told}
use Rattle.jhistory.proofs.history.put_lines.Goals as goal

pub returns-in_err-totals : goal.returns-in_err-totals
unfolding history_text
returns-in_err-totals g c =
    let e = g.E.Order.order in
    let size = c.args.geometry.block in
    let image = c.args.image.now in
    let words = c.args.told.words.now in
    let selected = (selection c.args.told.subjects c.args.told.period) in
    let ss = image_extents e size image in
    let put = c.in_err-totals.ensures.puts in
    first_failed _ _ _ _ (flat_map (told_line e size image words selected) ss) (word_totals_line (word_totals (words_told e size image words selected ss))) _ c.from_residual.ensures.0 put.0 put.1

pub returns : goal.returns
unfolding history_text
returns g c =
    let e = g.E.Order.order in
    let size = c.args.geometry.block in
    let image = c.args.image.now in
    let words = c.args.told.words.now in
    let selected = (selection c.args.told.subjects c.args.told.period) in
    let ss = image_extents e size image in
    let total = word_totals_line (word_totals (words_told e size image words selected ss)) in
    let put = c.in_ok-totals.ensures.puts in
    let last : c.as_slice.result.now ≡ total = c.as_slice.ensures ∙ c.totals_line.ensures ∙ ap word_totals_line c.in_ok-totals.ensures.totals in
    then_puts _ (g.T.Sink.taken c.put_extents.new.sink) _ _ (g.T.Sink.failures c.put_extents.new.sink) _ (flat_map (told_line e size image words selected) ss) total _ put.0 put.1
    (subst (λ (l : List ℕ). Puts (g.T.Sink.taken c.put_extents.new.sink) (g.T.Sink.taken c.put_text.new.sink) (g.T.Sink.failures c.put_extents.new.sink)
    (g.T.Sink.failures c.put_text.new.sink) l c.put_text.result) last c.put_text.ensures.puts)
