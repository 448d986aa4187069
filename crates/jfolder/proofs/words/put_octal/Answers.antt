use Rattle.std.proofs.Common.{◌≡◌, ℕ, ◌++◌, List, ap, ◌∙◌, subst}
use Rattle.flashbase.specs.Device.{Puts}
use Rattle.jline.specs.Words.{octal}
use Rattle.jfolder.proofs.words.put_octal.Goals as goal

pub returns : goal.returns
returns g c =
    let line : c.as_slice.result.now ≡ octal c.args.mode =
    c.as_slice.ensures ∙ c.push_octal.ensures.text ∙ ap (λ (l : List ℕ). l ++ octal c.args.mode) c.new-line.ensures in
    subst (λ (text : List ℕ). Puts (g.T.Sink.taken c.args.sink.now) (g.T.Sink.taken c.put_text.new.sink) (g.T.Sink.failures c.args.sink.now)
    (g.T.Sink.failures c.put_text.new.sink) text c.put_text.result) line c.put_text.ensures.puts
