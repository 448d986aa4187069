use Rattle.std.proofs.Common.{◌≡◌, ℕ, ◌++◌, List, ap, ◌∙◌, subst}
use Rattle.flashbase.specs.Device.{Puts}
use Rattle.std.specs.Fmt.{decimal}
use Rattle.jfolder.proofs.words.put_decimal.Goals as goal

pub returns : goal.returns
returns g c =
    let line : c.as_slice.result.now ≡ decimal c.args.number =
    c.as_slice.ensures ∙ c.push_decimal.ensures.text ∙ ap (λ (l : List ℕ). l ++ decimal c.args.number) c.new-line.ensures in
    subst (λ (text : List ℕ). Puts (g.T.Sink.taken c.args.sink.now) (g.T.Sink.taken c.put_text.new.sink) (g.T.Sink.failures c.args.sink.now)
    (g.T.Sink.failures c.put_text.new.sink) text c.put_text.result) line c.put_text.ensures.puts
