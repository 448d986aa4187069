use Rattle.std.proofs.Common.{rules}
use Rattle.jfolders.proofs.FirstLemmas.{first_consumed, first_ended}
use Rattle.jfolders.proofs.first.FirstBytesSource.fill.Goals as goal

pub returns-clause-bytes : goal.returns-clause-bytes
returns-clause-bytes g c = (
  first_consumed c.args.self.now.left c.in_ok-n.n (g.S.Source.rest c.args.self.now.source) (g.S.Source.rest c.fill.new.self) c.fill.new.buf _ (search rules) (search rules) c.in_ok-n.ensures.bytes.0,
  λ none room. first_ended _ (g.S.Source.rest c.fill.new.self) (c.in_ok-n.ensures.bytes.1 none (search rules)),
)
