use Rattle.std.proofs.Common.{◌∙◌, ◌++◌, ap}
use Rattle.std.specs.Prelude.{codes, decimal}
use Rattle.jreserve.specs.Note.{blank_text, reserve_line}
use Rattle.jreserve.proofs.NoteLemmas.{five_pieces}
use Rattle.jreserve.proofs.note.write_reserve.Goals as goal

pub returns : goal.returns
unfolding reserve_line
returns c =
    five_pieces (codes "jffs2_image: note: ") (decimal c.args.left) (blank_text c.args.left) (decimal c.args.reserve) (codes " in reserve\n")
    c.push_text.new.self c.push_decimal.new.self c.push_text-2.new.self c.push_decimal-2.new.self c.push_text-3.new.self
    (c.push_text.ensures ∙ ap (λ l. l ++ codes "jffs2_image: note: ") c.clear.ensures) c.push_decimal.ensures.text
    (c.push_text-2.ensures ∙ ap (λ l. c.push_decimal.new.self ++ l) c.blank_text.ensures.text) c.push_decimal-2.ensures.text c.push_text-3.ensures
