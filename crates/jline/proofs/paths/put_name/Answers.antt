use Rattle.std.proofs.Common.{[], ◌∷◌}
use Rattle.jline.specs.Words.{escaped}
use Rattle.flashbase.proofs.DeviceLemmas.{first_failed, then_puts}
use Rattle.jline.proofs.paths.put_name.Goals as goal

pub returns-in_err-put_text : goal.returns-in_err-put_text
returns-in_err-put_text g c =
    let put = c.in_err-put_text.ensures.puts in
    first_failed _ _ _ _ (47 ∷ []) (escaped c.args.name.now) _ c.from_residual.ensures.0 put.0 put.1

pub returns : goal.returns
returns g c =
    let put = c.in_ok-put_text.ensures.puts in
    then_puts _ (g.T.Sink.taken c.put_text.new.sink) _ _ _ _ (47 ∷ []) (escaped c.args.name.now) _ put.0 put.1 c.put_escaped.ensures
