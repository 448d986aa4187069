use Rattle.std.proofs.Common.{◌==◌, ◌-◌, length, ◌∙◌, sym, ap}
use Rattle.std.specs.List.{list_all}
use Rattle.jscan.proofs.PartLemmas.{erased_all}
use Rattle.jscan.proofs.parts.is_erased.Goals as goal

pub returns : goal.returns
returns c = c.are_erased.ensures ∙ sym (erased_all c.present.result.now (length c.args.part.now - length c.present.result.now)) ∙ ap (list_all (λ b. b == 0xFF)) (sym c.present.ensures)
