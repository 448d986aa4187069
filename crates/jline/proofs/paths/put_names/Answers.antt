use Rattle.std.proofs.Common.{ℕ, List, [], get_or, refl, Bor}
use Rattle.jline.specs.Paths.{name_shown}
use Rattle.jline.proofs.TurnLemmas.{item_failed}
use Rattle.jline.proofs.paths.put_names.Goals as goal

pub returns-in_err-put_name : goal.returns-in_err-put_name
returns-in_err-put_name g c =
    let put = c.in_err-put_name.ensures in
    let before = c.loop-name.invariant in
    let i = c.loop-name.name-index in
    let d : Bor (List ℕ) = record { ref_ptr = (0, 0); now = [] } in
    item_failed (λ name. name_shown name.now) c.args.path.now i d (get_or c.args.path.now i d) _ (g.T.Sink.taken c.loop-name.sink) _ _ _ _ _
    c.from_residual.ensures.0 c.loop-name-test.true refl before.put before.failed put.0 put.1
