use Rattle.std.proofs.Common.{IsTrue, arith, length, subst}
use Rattle.std.specs.Prelude.{All}
use Rattle.std.proofs.lemmas.List.{take_all}
use Rattle.std.proofs.lemmas.List.Elements.{All-more}
use Rattle.jcalls.specs.Files.{is_row_within}
use Rattle.jcalls.proofs.FileLemmas.{no_row}
use Rattle.jcalls.proofs.given.judge_rows.Goals as goal

pub loop-i-preserved : goal.loop-i-preserved
loop-i-preserved c =
    All-more (λ row. IsTrue (is_row_within c.args.length row)) c.args.rows.now c.loop-i.i no_row (omega arith) c.loop-i.invariant (grind arith)

pub returns-clause-ok : goal.returns-clause-ok
returns-clause-ok c =
    subst (λ rows. All (λ row. IsTrue (is_row_within c.args.length row)) rows) (take_all c.loop-i.i c.args.rows.now (omega arith)) c.loop-i.invariant
