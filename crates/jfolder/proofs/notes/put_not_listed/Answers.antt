use Rattle.std.proofs.Common.{◌≡◌, ◌∙◌, ℕ, List, ◌++◌, codes, subst}
use Rattle.flashbase.specs.Device.{Puts}
use Rattle.jfolder.specs.Notes.{not_listed_line, reason_text}
use Rattle.jfolder.proofs.notes.put_not_listed.Goals as goal

pub returns : goal.returns
unfolding not_listed_line
returns g c =
    let words : c.as_bytes.result.now ≡ reason_text c.args.reason = c.as_bytes.ensures.value ∙ c.text.ensures in
    subst (λ (l : List ℕ). Puts (g.N.Sink.taken c.args.notes.now) (g.N.Sink.taken c.put_pieces.new.sink) (g.N.Sink.failures c.args.notes.now)
    (g.N.Sink.failures c.put_pieces.new.sink) (codes "not listed: " ++ l ++ codes "\n") c.put_pieces.result) words c.put_pieces.ensures
