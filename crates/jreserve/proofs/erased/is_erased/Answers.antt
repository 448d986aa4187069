use Rattle.std.proofs.Common.{◌-◌, length, ◌∙◌, sym, ap}
use Rattle.jscan.proofs.PartLemmas.{erased_all}
use Rattle.jreserve.specs.Erased.{is_all_erased}
use Rattle.jreserve.proofs.erased.is_erased.Goals as goal

pub returns : goal.returns
returns c =
    c.are_erased.ensures ∙ sym (erased_all c.present.result.now (length c.args.part.now - length c.present.result.now)) ∙ ap is_all_erased (sym c.present.ensures)
