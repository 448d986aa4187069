use Rattle.std.proofs.Common.{arith}
use Rattle.std.proofs.lemmas.Grind.{common_steps}
use Rattle.std.proofs.lemmas.Str.{IsUtf8-from_is_utf8}
use Rattle.jextract.proofs.MakingLemmas.{target_is_text}
use Rattle.jextract.proofs.making.target_of.Goals as goal

pub returns-in-Ok : goal.returns-in-Ok
returns-in-Ok c = (c.in-Ok.ensures.cases.0, target_is_text c.args.bytes.now c.in-Ok.ensures.cases.1 (grind (arith, common_steps, c.is_empty.ensures, c.if-is_empty.false)) (omega arith) (grind (arith, common_steps)))

pub returns-in-Err : goal.returns-in-Err
returns-in-Err c = grind (arith, common_steps, c.in-Err.ensures.cases.0, IsUtf8-from_is_utf8 c.args.bytes.now)
