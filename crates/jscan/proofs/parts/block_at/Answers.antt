use Rattle.std.proofs.Common.{arith, refl, length-drop}
use Rattle.jscan.proofs.PartLemmas.{block_at}
use Rattle.jscan.proofs.parts.block_at.Goals as goal

pub returns : goal.returns
returns c k here = block_at _ _ _ k _ _ _ here (omega (arith, c.min-len.ensures, length-drop c.args.start c.args.image.now)) refl c.new.ensures
