use Rattle.std.proofs.Common.{length}
use Rattle.jname.proofs.few.+place_of.Given as goal

abbrev pub decreases-place_of : goal.decreases-place_of
decreases-place_of l = length l.few.now
