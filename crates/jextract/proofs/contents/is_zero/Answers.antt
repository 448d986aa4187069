use Rattle.std.proofs.Common.{arith}
use Rattle.std.proofs.lemmas.Grind.{common_steps}
use Rattle.std.proofs.lemmas.Bool.Decides.{nat_tests}
use Rattle.jextract.proofs.ContentsLemmas.{zero_sum}
use Rattle.jextract.proofs.contents.is_zero.Goals as goal

pub returns : goal.returns
returns c = let zero = zero_sum c.args.block.now in grind (arith, common_steps, nat_tests)
