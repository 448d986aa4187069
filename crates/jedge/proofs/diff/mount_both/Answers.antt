use Rattle.std.proofs.Common.{inr}
use Rattle.jedge.proofs.diff.mount_both.Goals as goal

pub returns-in-Ok : goal.returns-in-Ok
returns-in-Ok g c = inr (c.in-Ok.left, c.in-Ok.ensures, c.in-Err-mounted_as.ensures)
