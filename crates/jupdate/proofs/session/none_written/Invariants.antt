use Rattle.std.proofs.Common.{◌≡◌, map, take}
use Rattle.jupdate.specs.Rows.{unwritten}
use Rattle.jupdate.proofs.session.none_written.Given as goal

abbrev pub invariant-loop-opening : goal.invariant-loop-opening
invariant-loop-opening l = l.stretches.items ≡ map unwritten (take l.opening-index l.row)
