use Rattle.jupdates.proofs.BuiltLemmas.{build_compressed_notes_nothing, build_compressed_shows_ops}
use Rattle.jupdates.proofs.laws.build_compressed_shows_ops.Goals as goal

pub returns-clause-shows : goal.returns-clause-shows
returns-clause-shows c = build_compressed_shows_ops

pub returns-clause-notes : goal.returns-clause-notes
returns-clause-notes c = build_compressed_notes_nothing
