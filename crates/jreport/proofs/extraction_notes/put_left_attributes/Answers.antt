use Rattle.std.proofs.Common.{◌≡◌, ℕ, List, [], Bool, false, if◌then◌else◌, ap, sym, ◌∙◌, ◌==◌, subst, arith}
use Rattle.std.proofs.lemmas.Bool.Decides.{nat_tests}
use Rattle.flashbase.specs.Device.{Puts}
use Rattle.jreport.specs.ExtractionNotes.{left_attributes_line_of}
use Rattle.jreport.proofs.extraction_notes.put_left_attributes.Goals as goal

pub returns : goal.returns
returns g c =
    let some : (c.args.nodes == 0) ≡ false = grind (arith, nat_tests) in
    let line = c.as_slice.ensures ∙ c.write_left_attributes.ensures ∙ ap (λ (b : Bool). if b then [] else left_attributes_line_of c.args.nodes) (sym some) in
    subst (λ (text : List ℕ). Puts (g.T.Sink.taken c.args.sink.now) (g.T.Sink.taken c.put_text.new.sink) (g.T.Sink.failures c.args.sink.now)
    (g.T.Sink.failures c.put_text.new.sink) text c.put_text.result) line c.put_text.ensures.puts
