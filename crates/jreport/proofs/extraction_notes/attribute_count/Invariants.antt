use Rattle.std.proofs.Common.{◌≡◌, take, count_by}
use Rattle.jreport.specs.ExtractionNotes.{is_attribute_node}
use Rattle.jreport.proofs.extraction_notes.attribute_count.Given as goal

abbrev pub invariant-loop-finding : goal.invariant-loop-finding
invariant-loop-finding l = l.count ≡ count_by (λ f. is_attribute_node f.kind) (take l.finding-index l.finding-items)
