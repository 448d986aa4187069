use Rattle.flashbase.proofs.DeviceLemmas.{first_failed, then_puts}
use Rattle.jmap.proofs.places.put_two.Goals as goal

pub returns-in_err-put_text : goal.returns-in_err-put_text
returns-in_err-put_text g c =
    let put = c.in_err-put_text.ensures.puts in
    first_failed _ _ _ _ c.args.start.now c.args.end.now _ c.from_residual.ensures.0 put.0 put.1

pub returns : goal.returns
returns g c =
    let text = c.in_ok-put_text.ensures.puts in
    then_puts _ (g.T.Sink.taken c.put_text.new.sink) _ _ _ _ c.args.start.now c.args.end.now _ text.0 text.1 c.put_text-2.ensures.puts
