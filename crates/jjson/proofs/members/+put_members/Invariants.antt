use Rattle.std.proofs.Common.{length}
use Rattle.jjson.proofs.members.+put_members.Given as goal

abbrev pub decreases-put_members : goal.decreases-put_members
decreases-put_members g l = length l.parts.now
