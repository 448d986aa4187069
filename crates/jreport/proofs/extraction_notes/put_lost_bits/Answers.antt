use Rattle.std.proofs.Common.{◌≡◌, ℕ, List, [], Bool, false, if◌then◌else◌, ap, sym, ◌∙◌, ◌==◌, subst, arith}
use Rattle.std.proofs.lemmas.Bool.Decides.{nat_tests}
use Rattle.flashbase.specs.Device.{Puts}
use Rattle.jreport.specs.ExtractionNotes.{lost_bits_line_of}
use Rattle.jreport.proofs.extraction_notes.put_lost_bits.Goals as goal

pub returns : goal.returns
returns g c =
    let some : (c.args.objects == 0) ≡ false = grind (arith, nat_tests) in
    let line = c.as_slice.ensures ∙ c.write_lost_bits.ensures ∙ ap (λ (b : Bool). if b then [] else lost_bits_line_of c.args.objects) (sym some) in
    subst (λ (text : List ℕ). Puts (g.T.Sink.taken c.args.sink.now) (g.T.Sink.taken c.put_text.new.sink) (g.T.Sink.failures c.args.sink.now)
    (g.T.Sink.failures c.put_text.new.sink) text c.put_text.result) line c.put_text.ensures.puts
