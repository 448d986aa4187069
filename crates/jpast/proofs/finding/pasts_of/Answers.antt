use Rattle.std.proofs.Common.{◌≡◌, [], ◌∷◌, ◌++◌, ap, sym, ◌∙◌, subst}
use Rattle.std.specs.Prelude.{map}
use Rattle.std.specs.List.{All}
use Rattle.jpast.specs.Pasts.{IsPastOf}
use Rattle.jpast.specs.declared.past.Past.{Past}
use Rattle.jpast.proofs.FindingLemmas.{each_more, order_more}
use Rattle.jpast.proofs.finding.pasts_of.Goals as goal

pub loop-ino-preserved : goal.loop-ino-preserved
loop-ino-preserved c =
    let before = c.loop-ino.invariant in
    let more : c.push.new.self.items ≡ c.loop-ino.pasts.items ++ c.past_of.result ∷ [] = c.in_ok-push.ensures.items in
    record {
      order = ap (map (λ (past : Past). past.ino)) more ∙ order_more c.loop-ino.pasts.items c.past_of.result c.loop-ino.yielded c.in-Some.ino before.order c.past_of.ensures.number;
      each = subst (All (IsPastOf c.args.nodes.now c.args.mounted.now.state)) (sym more)
          (each_more c.args.nodes.now c.args.mounted.now.state c.loop-ino.pasts.items c.past_of.result before.each (c.past_of.ensures.past c.args.nodes.now c.in_ok-spans.ensures));
    }
