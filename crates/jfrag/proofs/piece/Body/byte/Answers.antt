use Rattle.std.proofs.Common.{◌∙◌, ap, sym, Option, ℕ}
use Rattle.std.specs.Option.{unwrap_or}
use Rattle.std.proofs.lemmas.Option.{unwrap_or-slice_get}
use Rattle.jfrag.specs.Pieces.{body_byte}
use Rattle.jfrag.proofs.piece.Body.byte.Goals as goal

pub returns-in-Bytes : goal.returns-in-Bytes
returns-in-Bytes c =
    c.unwrap_or.ensures
    ∙ ap (λ (o : Option ℕ). unwrap_or o 0) c.get.ensures
    ∙ unwrap_or-slice_get c.in-Bytes.part c.args.index 0
    ∙ sym (ap (body_byte c.args.index) c.in-Bytes.is)
