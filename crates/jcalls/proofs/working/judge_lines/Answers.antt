use Rattle.std.proofs.Common.{◌∙◌, [], arith, sym, subst}
use Rattle.std.proofs.lemmas.List.{take_all}
use Rattle.jcalls.specs.Works.{AreGiven, listed_with}
use Rattle.jcalls.proofs.GivenLemmas.{given_more}
use Rattle.jcalls.proofs.working.judge_lines.Goals as goal

pub loop-i-preserved : goal.loop-i-preserved
loop-i-preserved c =
    given_more (listed_with [] c.args.named.now.files.bytes.now c.args.named.now.files.rows.now) c.args.lines.now c.loop-i.i c.index-lines-i.result c.index-lines-i.is c.loop-i-test.true c.loop-i.invariant (sym c.is_file_given.ensures ∙ c.if-not-is_file_given.false)

pub returns-clause-ok : goal.returns-clause-ok
returns-clause-ok c =
    subst (λ lines. AreGiven (listed_with [] c.args.named.now.files.bytes.now c.args.named.now.files.rows.now) lines) (take_all c.loop-i.i c.args.lines.now (omega arith)) c.loop-i.invariant
