use Rattle.std.proofs.Common.{ℕ, List, [], get_or, refl, Bor}
use Rattle.jline.proofs.TurnLemmas.{item_failed}
use Rattle.jjson.proofs.texts.put_texts.Goals as goal

pub returns-in_err-put_text : goal.returns-in_err-put_text
returns-in_err-put_text g c =
    let put = c.in_err-put_text.ensures.puts in
    let before = c.loop-text.invariant in
    let i = c.loop-text.text-index in
    let d : Bor (List ℕ) = record { ref_ptr = (0, 0); now = [] } in
    item_failed (λ text. text.now) c.args.texts.now i d (get_or c.args.texts.now i d) _ (g.T.Sink.taken c.loop-text.sink) _ _ _ _ _
    c.from_residual.ensures.0 c.loop-text-test.true refl before.put before.failed put.0 put.1
