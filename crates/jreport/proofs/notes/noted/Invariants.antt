use Rattle.std.proofs.Common.{◌≡◌, take, count_by}
use Rattle.jreport.specs.Notes.{is_noted}
use Rattle.jreport.proofs.notes.noted.Given as goal

abbrev pub invariant-loop-finding : goal.invariant-loop-finding
invariant-loop-finding l = l.count ≡ count_by (λ f. is_noted f.kind) (take l.finding-index l.finding-items)
