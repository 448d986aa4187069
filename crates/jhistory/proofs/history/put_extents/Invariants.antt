use Rattle.std.proofs.Common.{◌≡◌}
use Rattle.std.specs.List.{flat_map}
use Rattle.std.specs.Io.KnownBytes.{Appends}
use Rattle.jhistory.specs.HistoryText.{selection, told_line, word_totals, words_told}
use Rattle.jhistory.proofs.history.put_extents.Given as goal

abbrev pub invariant-loop-extent : goal.invariant-loop-extent
invariant-loop-extent g l = record {
  put : Appends (g.T.Sink.taken l.fn.sink) (g.T.Sink.taken l.sink)
      (flat_map (told_line g.E.Order.order l.fn.geometry.block l.image l.told.words.now (selection l.told.subjects l.told.period)) l.yielded);
  failed : g.T.Sink.failures l.sink ≡ g.T.Sink.failures l.fn.sink;
  totals : l.totals ≡ word_totals (words_told g.E.Order.order l.fn.geometry.block l.image l.told.words.now (selection l.told.subjects l.told.period) l.yielded);
}
