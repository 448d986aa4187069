use Rattle.std.proofs.Common.{◌≡◌, ℕ, ◌+◌, ◌<◌, ◌≤◌, List, length, sym, ap, ◌∙◌, subst, arith}
use Rattle.std.specs.Prelude.{Some, None}
use Rattle.flashbase.specs.Device.{Puts}
use Rattle.jhistory.specs.HistoryText.{extent_told, selection, told_line, word_line_if, word_totals, words_told}
use Rattle.jhistory.proofs.TellingLemmas.{on_ok, word_none, word_some, words_few}
use Rattle.jhistory.proofs.history.put_extent.Goals as goal

pub put_line-requires : goal.put_line-requires
put_line-requires g c =
    let e = g.E.Order.order in
    let done = c.requires.room.0 in
    let few = words_few e c.args.geometry.block c.args.image.now c.args.told.words.now (selection c.args.told.subjects c.args.told.period) done in
    let room : length done + 1 < 18446744073709551616 = c.requires.room.1 in
    record { room = (words_told e c.args.geometry.block c.args.image.now c.args.told.words.now (selection c.args.told.subjects c.args.told.period) done, c.requires.room.2, omega (arith, few, room)) }

pub returns-in-Some-clause-puts : goal.returns-in-Some-clause-puts
returns-in-Some-clause-puts g c =
    let is = sym c.extent_told.ensures ∙ c.in-Some.is in
    subst (λ (l : List ℕ). Puts (g.T.Sink.taken c.args.sink.now) (g.T.Sink.taken c.put_line.new.sink) (g.T.Sink.failures c.args.sink.now) (g.T.Sink.failures c.put_line.new.sink) l c.put_line.result)
    (c.as_slice.ensures ∙ sym (ap word_line_if is)) c.put_line.ensures.puts

pub returns-in-Some-clause-totals : goal.returns-in-Some-clause-totals
returns-in-Some-clause-totals g c =
    let e = g.E.Order.order in
    let size = c.args.geometry.block in
    let image = c.args.image.now in
    let words = c.args.told.words.now in
    let selected = (selection c.args.told.subjects c.args.told.period) in
    let is = sym c.extent_told.ensures ∙ c.in-Some.is in
    on_ok c.put_line.result _ _
    (λ counts done before. counts (words_told e size image words selected done) before ∙ ap word_totals (sym (word_some e size image words selected done c.args.extent.now (c.in-Some.word, c.in-Some.line) is)))
    c.put_line.ensures.totals

pub returns-in-None-clause-totals : goal.returns-in-None-clause-totals
returns-in-None-clause-totals g c = λ done before.
    before ∙ ap word_totals (sym (word_none g.E.Order.order c.args.geometry.block c.args.image.now c.args.told.words.now (selection c.args.told.subjects c.args.told.period) done c.args.extent.now (sym c.extent_told.ensures ∙ c.in-None.is)))
