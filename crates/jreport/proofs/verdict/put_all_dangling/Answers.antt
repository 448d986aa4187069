use Rattle.std.proofs.Common.{ℕ, List, [], get_or, refl, Bor}
use Rattle.jreport.specs.Verdict.{dangling_line}
use Rattle.jline.proofs.TurnLemmas.{item_failed}
use Rattle.jreport.proofs.verdict.put_all_dangling.Goals as goal

pub returns-in_err-put_dangling : goal.returns-in_err-put_dangling
returns-in_err-put_dangling g c =
    let put = c.in_err-put_dangling.ensures in
    let before = c.loop-pino.invariant in
    let i = c.loop-pino.pino-index in
    let d : ℕ × Bor (List ℕ) × ℕ = (0, record { ref_ptr = (0, 0); now = [] }, 0) in
    item_failed (λ x. dangling_line (x.0, x.1.now, x.2)) c.args.entries.now i d (get_or c.args.entries.now i d) _ (g.T.Sink.taken c.loop-pino.sink) _ _ _ _ _
    c.from_residual.ensures.0 c.loop-pino-test.true refl before.put before.failed put.0 put.1
