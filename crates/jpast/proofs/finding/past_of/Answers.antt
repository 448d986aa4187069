use Rattle.std.proofs.Common.{sym, subst}
use Rattle.jpast.specs.Pasts.{IsSpanIf, object_versions}
use Rattle.jpast.proofs.finding.past_of.Goals as goal

pub returns-clause-past : goal.returns-clause-past
returns-clause-past c = λ ns has. record {
  span = subst (IsSpanIf (object_versions ns c.args.ino)) (sym c.known.ensures) (has c.args.ino);
  content = c.content_of.ensures;
}
