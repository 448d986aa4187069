use Rattle.std.proofs.Common.{◌≡◌, ◌++◌}
use Rattle.jfolder.specs.Text.{items_words, root_words, settings_of_root}
use Rattle.jfolder.proofs.PutLemmas.{Upto}
use Rattle.jfolder.proofs.text.put_listing.Given as goal

abbrev pub invariant-loop-item : goal.invariant-loop-item
invariant-loop-item g l = record {
  put : Upto l.settings l.items l.item-index (root_words l.fn.root ++ items_words (settings_of_root l.fn.root) l.items) (g.T.Sink.taken l.fn.sink) (g.T.Sink.taken l.sink);
  failed : g.T.Sink.failures l.sink ≡ g.T.Sink.failures l.fn.sink;
}
