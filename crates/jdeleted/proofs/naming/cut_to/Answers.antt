use Rattle.std.proofs.Common.{◌≤◌, arith}
use Rattle.jdeleted.specs.Naming.{cut_len}
use Rattle.jdeleted.proofs.NamingLemmas.{cut_within}
use Rattle.jdeleted.proofs.naming.cut_to.Goals as goal

pub slice-requires : goal.slice-requires
slice-requires c = let low : cut_len c.args.name.now c.args.most ≤ c.args.most = cut_within c.args.name.now c.args.most in omega (arith, low, c.cut_len.ensures, c.if-len-most.false, c.len.ensures)
