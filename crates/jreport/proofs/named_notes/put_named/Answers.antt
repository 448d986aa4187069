use Rattle.std.proofs.Common.{◌≡◌, ◌++◌, ℕ, List, [], Bool, false, if◌then◌else◌, ap, sym, ◌∙◌, ◌==◌, subst, arith}
use Rattle.std.specs.Prelude.{codes}
use Rattle.std.proofs.lemmas.Bool.Decides.{nat_tests}
use Rattle.flashbase.specs.Device.{Puts}
use Rattle.jline.specs.Words.{in_line}
use Rattle.jreport.specs.NamedNotes.{named_findings, named_note_of}
use Rattle.jreport.proofs.named_notes.put_named.Goals as goal

pub returns : goal.returns
returns g c =
    let name = c.args.name.now in
    let some : (c.args.findings == 0) ≡ false = grind (arith, nat_tests) in
    let rest : c.as_slice.result.now ≡ named_findings c.args.findings = c.as_slice.ensures ∙ c.write_named.ensures in
    let line = ap (λ (l : List ℕ). codes "jffs2_image: note: " ++ (in_line name ++ l)) rest
    ∙ ap (λ (b : Bool). if b then [] else named_note_of name c.args.findings) (sym some) in
    subst (λ (text : List ℕ). Puts (g.T.Sink.taken c.args.sink.now) (g.T.Sink.taken c.put_note.new.sink) (g.T.Sink.failures c.args.sink.now)
    (g.T.Sink.failures c.put_note.new.sink) text c.put_note.result) line c.put_note.ensures
