use Rattle.std.proofs.Common.{ℕ, List, ◌∙◌, subst}
use Rattle.flashbase.specs.Device.{Puts}
use Rattle.jreserve.proofs.note.put_reserve_note.Goals as goal

pub returns : goal.returns
returns g c =
    let line = c.as_slice.ensures ∙ c.write_reserve.ensures in
    subst (λ (text : List ℕ). Puts (g.T.Sink.taken c.args.sink.now) (g.T.Sink.taken c.put_text.new.sink) (g.T.Sink.failures c.args.sink.now)
    (g.T.Sink.failures c.put_text.new.sink) text c.put_text.result) line c.put_text.ensures.puts
