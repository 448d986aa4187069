use Rattle.std.proofs.Common.{◌≡◌, ℕ, List, None, get_or, refl, ◌∙◌, subst}
use Rattle.flashbase.specs.Device.{PutsPart}
use Rattle.jline.proofs.TurnLemmas.{item_failed}
use Rattle.jpast.specs.PastText.{past_line}
use Rattle.jpast.specs.declared.past.Past.{Past}
use Rattle.jpast.proofs.lines.put_pasts.Goals as goal

pub returns-in_err-put_text : goal.returns-in_err-put_text
returns-in_err-put_text g c =
    let put = c.in_err-put_text.ensures.puts in
    let before = c.loop-past.invariant in
    let d : Past = record { ino = 0; span = None; content = None } in
    let past = get_or c.args.pasts.now c.loop-past.past-index d in
    let is : c.as_slice.result.now ≡ past_line past = c.as_slice.ensures ∙ c.line_of.ensures in
    item_failed past_line c.args.pasts.now c.loop-past.past-index d past _ (g.T.Sink.taken c.loop-past.sink) _ _ _ _ _ c.from_residual.ensures.0 c.loop-past-test.true refl before.put before.failed
    (subst (λ (l : List ℕ). PutsPart (g.T.Sink.taken c.loop-past.sink) (g.T.Sink.taken c.put_text.new.sink) l) is put.0) put.1
