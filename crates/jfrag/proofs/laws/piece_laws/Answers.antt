use Rattle.jfrag.proofs.OverlaysLemmas.{one_more_piece, again_changes_nothing, empty_changes_nothing}
use Rattle.jfrag.proofs.Overwriting.{idle_is_not_taken}
use Rattle.jfrag.proofs.laws.piece_laws.Goals as goal

pub returns : goal.returns
returns c = record { one_more = one_more_piece; again = again_changes_nothing; empty = empty_changes_nothing; idle = idle_is_not_taken }
