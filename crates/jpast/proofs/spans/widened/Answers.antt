use Rattle.std.proofs.Common.{ℕ, subst, arith}
use Rattle.jpast.specs.Pasts.{IsSpanIf}
use Rattle.jpast.proofs.SpanLemmas.{span_widened}
use Rattle.jpast.proofs.spans.widened.Goals as goal

pub returns-in-Some : goal.returns-in-Some
returns-in-Some c = λ versions is.
    let span = c.in-Some.span in
    let v : ℕ = c.args.version in
    span_widened versions v span c.min.result c.max.result (subst (IsSpanIf versions) c.in-Some.is is) (grind arith) (grind arith) (omega arith) (omega arith) (omega arith) (omega arith)
