use Rattle.jextract.specs.Parts.{keys_of}
use Rattle.jextract.specs.Walking.{extraction_steps_left, no_totals}
use Rattle.jextract.proofs.FillLemmas.{Reached}
use Rattle.jextract.proofs.extracting.fill.Given as goal

abbrev pub invariant-loop-walk : goal.invariant-loop-walk
invariant-loop-walk g l =
    Reached l.mounted.state (keys_of l.way) l.owners l.walk
    (record { made = g.F.Folder.made l.fn.folder; failures = g.F.Folder.failures l.fn.folder; told = g.N.Sink.taken l.fn.notes; told_failures = g.N.Sink.failures l.fn.notes; totals = no_totals })
    (record { made = g.F.Folder.made l.folder; failures = g.F.Folder.failures l.folder; told = g.N.Sink.taken l.notes; told_failures = g.N.Sink.failures l.notes; totals = l.walk.totals })

abbrev pub decreases-loop-walk : goal.decreases-loop-walk
decreases-loop-walk g l = extraction_steps_left l.walk
