use Rattle.std.proofs.Common.{rules, ◌≡◌, ◌++◌, ◌∷◌, [], ℕ, Bool, true, false, List, refl, ap, subst, ◌∙◌}
use Rattle.std.specs.Prelude.{◌==◌, length, codes, if◌then◌else◌}
use Rattle.flashbase.specs.Device.{Puts}
use Rattle.jline.specs.Words.{in_line}
use Rattle.jreport.specs.Advice.{advice_of, named_in, note_of}
use Rattle.jreport.proofs.advice.put_advice.Goals as goal

-- where there is something to say it is said
said : (b : Bool) (text : List ℕ) → b ≡ false → text ≡ (if b then [] else text)
said true text is = cc
said false text is = refl

pub returns : goal.returns
unfolding advice_of
returns g c =
    let note = note_of c.args.fault.now in
    let name : c.as_bytes.result.now ≡ named_in c.args.fault.now = c.as_bytes.ensures.value ∙ c.named_in.ensures in
    let rest : c.as_slice-2.result.now ≡ note ++ 10 ∷ [] = search rules in
    let some : (length note == 0) ≡ false = search rules in
    let first = ap (λ (l : List ℕ). codes "jffs2_image: note: " ++ (in_line l ++ c.as_slice-2.result.now)) name in
    let second = ap (λ (l : List ℕ). codes "jffs2_image: note: " ++ (in_line (named_in c.args.fault.now) ++ l)) rest in
    let whole = first ∙ (second ∙ said (length note == 0) (codes "jffs2_image: note: " ++ (in_line (named_in c.args.fault.now) ++ (note ++ 10 ∷ []))) some) in
    subst (λ (text : List ℕ). Puts (g.T.Sink.taken c.args.sink.now) (g.T.Sink.taken c.put_note.new.sink) (g.T.Sink.failures c.args.sink.now)
    (g.T.Sink.failures c.put_note.new.sink) text c.put_note.result) whole c.put_note.ensures
