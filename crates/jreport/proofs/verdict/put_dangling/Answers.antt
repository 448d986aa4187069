use Rattle.std.proofs.Common.{ℕ, List, [], ◌∷◌, ◌++◌, ◌∙◌, subst}
use Rattle.std.specs.Io.KnownBytes.{Appends}
use Rattle.flashbase.specs.Device.{PutsPart}
use Rattle.flashbase.proofs.DeviceLemmas.{part_before}
use Rattle.jline.specs.Words.{escaped}
use Rattle.jreport.specs.Verdict.{dangling_start}
use Rattle.flashbase.proofs.DeviceLemmas.{first_failed, then_puts, then_failed}
use Rattle.jreport.proofs.verdict.put_dangling.Goals as goal

pub returns-in_err-put_text : goal.returns-in_err-put_text
returns-in_err-put_text g c =
    let line = c.as_slice.ensures ∙ c.write_start.ensures in
    let put = c.in_err-put_text.ensures.puts in
    first_failed _ _ _ _ (dangling_start c.args.pino c.args.ino) (escaped c.args.name.now ++ 10 ∷ []) _ c.from_residual.ensures.0
    (subst (λ (l : List ℕ). PutsPart (g.T.Sink.taken c.args.sink.now) (g.T.Sink.taken c.put_text.new.sink) l) line put.0) put.1

pub returns-in_err-put_escaped : goal.returns-in_err-put_escaped
returns-in_err-put_escaped g c =
    let line = c.as_slice.ensures ∙ c.write_start.ensures in
    let put = c.in_ok-put_text.ensures.puts in
    let next = c.in_err-put_escaped.ensures in
    then_failed _ (g.T.Sink.taken c.put_text.new.sink) _ _ _ _ (dangling_start c.args.pino c.args.ino) (escaped c.args.name.now ++ 10 ∷ []) _
    c.from_residual-in_err-put_escaped.ensures.0
    (subst (λ (l : List ℕ). Appends (g.T.Sink.taken c.args.sink.now) (g.T.Sink.taken c.put_text.new.sink) l) line put.0) put.1
    (part_before _ _ (escaped c.args.name.now) (10 ∷ []) next.0) next.1

pub returns : goal.returns
returns g c =
    let line = c.as_slice.ensures ∙ c.write_start.ensures in
    let put = c.in_ok-put_text.ensures.puts in
    let next = c.in_ok-put_escaped.ensures in
    then_puts _ (g.T.Sink.taken c.put_text.new.sink) _ _ _ _ (dangling_start c.args.pino c.args.ino) (escaped c.args.name.now ++ 10 ∷ []) _
    (subst (λ (l : List ℕ). Appends (g.T.Sink.taken c.args.sink.now) (g.T.Sink.taken c.put_text.new.sink) l) line put.0) put.1
    (then_puts _ (g.T.Sink.taken c.put_escaped.new.sink) _ _ _ _ (escaped c.args.name.now) (10 ∷ []) _ next.0 next.1 c.put_text-2.ensures.puts)
