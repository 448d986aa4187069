use Rattle.std.proofs.Common.{List, ℕ, ◌∙◌, sym, ap, subst}
use Rattle.flashbase.specs.Device.{Puts}
use Rattle.jcuts.specs.Lines.{end_text}
use Rattle.jcuts.proofs.lines.put_end.Goals as goal

pub returns-in-Nodes : goal.returns-in-Nodes
returns-in-Nodes g c =
    let a = c.args in
    subst (λ (l : List ℕ). Puts (g.T.Sink.taken a.sink.now) (g.T.Sink.taken c.put_text.new.sink) (g.T.Sink.failures a.sink.now) (g.T.Sink.failures c.put_text.new.sink) l c.put_text.result)
    (c.as_slice.ensures ∙ (c.write_end.ensures ∙ sym (ap (λ t. end_text t a.ops a.nodes a.from a.end a.weak) c.in-Nodes.is))) c.put_text.ensures.puts
