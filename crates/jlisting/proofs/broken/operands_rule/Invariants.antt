use Rattle.std.proofs.Common.{◌≡◌, ◌+◌, drop, option_map}
use Rattle.jlisting.specs.Broken.{operands_rule, words_in}
use Rattle.jlisting.proofs.broken.operands_rule.Given as goal

abbrev pub invariant-loop-operand : goal.invariant-loop-operand
invariant-loop-operand l = record {
  counted : l.number ≡ l.operand-index + 1;
  same : operands_rule (l.operand-index + 2) (drop l.operand-index l.operands) (words_in (option_map (λ text. text.now) l.left))
      ≡ operands_rule 2 l.operands (words_in (option_map (λ text. text.now) l.fn.words));
}
