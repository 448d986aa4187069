use Rattle.std.proofs.Common.{Bool, sym, ap, arith}
use Rattle.std.proofs.lemmas.Grind.{common_steps}
use Rattle.std.proofs.lemmas.Str.{is_utf8-from_IsUtf8, IsUtf8-from_is_utf8}
use Rattle.jlisting.specs.Broken.{text_rule, unless}
use Rattle.jlisting.specs.declared.rule.WordRule.TheVariants.{NoText}
use Rattle.jlisting.proofs.word_rules.text_rule.Goals as goal

pub returns-in-Ok : goal.returns-in-Ok
unfolding text_rule
returns-in-Ok c = sym (ap (λ (b : Bool). unless b NoText) (is_utf8-from_IsUtf8 c.args.word.now c.in-Ok.ensures.cases.1))

pub returns-in-Err : goal.returns-in-Err
unfolding text_rule
returns-in-Err c = grind (arith, common_steps, c.in-Err.ensures.cases.0, IsUtf8-from_is_utf8 c.args.word.now)
