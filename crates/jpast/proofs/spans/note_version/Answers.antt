use Rattle.std.proofs.Common.{ℕ, sym, subst}
use Rattle.jpast.specs.Pasts.{IsSpanIf}
use Rattle.jpast.proofs.SpanLemmas.{span_noted}
use Rattle.jpast.proofs.spans.note_version.Goals as goal

pub returns : goal.returns
returns c = λ versions has.
    let ino : ℕ = c.args.ino in
    span_noted versions c.args.spans.now c.insert.new.self ino c.args.version c.widened-span.result has
    (c.widened-span.ensures (versions ino) (subst (IsSpanIf (versions ino)) (sym c.known.ensures) (has ino))) c.in_ok-insert.ensures.updates.0
