use Rattle.std.proofs.Common.{ℕ, List, [], ◌∷◌, ◌++◌, subst}
use Rattle.std.specs.Prelude.{codes}
use Rattle.std.specs.Io.KnownBytes.{Appends}
use Rattle.flashbase.specs.Device.{PutsPart}
use Rattle.flashbase.proofs.DeviceLemmas.{part_before}
use Rattle.jextract.specs.Outcomes.{left_out_reason}
use Rattle.flashbase.proofs.DeviceLemmas.{first_failed, then_failed, then_puts}
use Rattle.jextract.proofs.notes.put_reason.Goals as goal

pub returns-in_err-put_text : goal.returns-in_err-put_text
returns-in_err-put_text g c =
    let put = c.in_err-put_text.ensures.puts in
    first_failed _ _ _ _ (codes ": ") (left_out_reason c.args.reason ++ 10 ∷ []) _ c.from_residual.ensures.0 put.0 put.1

pub returns-in_err-put_text-2 : goal.returns-in_err-put_text-2
returns-in_err-put_text-2 g c =
    let put = c.in_ok-put_text.ensures.puts in
    let next = c.in_err-put_text-2.ensures.puts in
    then_failed _ (g.T.Sink.taken c.put_text.new.sink) _ _ _ _ (codes ": ") (left_out_reason c.args.reason ++ 10 ∷ []) _ c.from_residual-in_err-put_text-2.ensures.0 put.0 put.1
    (part_before _ _ (left_out_reason c.args.reason) (10 ∷ [])
    (subst (λ (l : List ℕ). PutsPart (g.T.Sink.taken c.put_text.new.sink) (g.T.Sink.taken c.put_text-2.new.sink) l) c.reason_text.ensures next.0)) next.1

pub returns : goal.returns
returns g c =
    let put = c.in_ok-put_text.ensures.puts in
    let next = c.in_ok-put_text-2.ensures.puts in
    then_puts _ (g.T.Sink.taken c.put_text.new.sink) _ _ _ _ (codes ": ") (left_out_reason c.args.reason ++ 10 ∷ []) _ put.0 put.1
    (then_puts _ (g.T.Sink.taken c.put_text-2.new.sink) _ _ _ _ (left_out_reason c.args.reason) (10 ∷ []) _
    (subst (λ (l : List ℕ). Appends (g.T.Sink.taken c.put_text.new.sink) (g.T.Sink.taken c.put_text-2.new.sink) l) c.reason_text.ensures next.0) next.1
    c.put_text-3.ensures.puts)
