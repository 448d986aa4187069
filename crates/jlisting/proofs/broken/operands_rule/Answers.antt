use Rattle.std.proofs.Common.{◌+◌, drop, Option, Bor, List, ℕ, sym, ap, ◌∙◌}
use Rattle.jlisting.specs.Broken.{operands_rule}
use Rattle.jlisting.proofs.BrokenLemmas.{left_words, no_words_left}
use Rattle.jlisting.proofs.broken.operands_rule.Goals as goal

pub returns-in-None : goal.returns-in-None
returns-in-None c =
    let i = c.loop-operand.operand-index in
    let operands = drop i c.args.operands.now in
    sym (sym c.loop-operand.invariant.same ∙ ap (λ (o : Option (Bor (List ℕ))). operands_rule (i + 2) operands (left_words o)) c.in-None.is
    ∙ no_words_left (i + 2) operands)
