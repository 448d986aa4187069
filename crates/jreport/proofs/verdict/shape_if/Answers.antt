use Rattle.std.proofs.Common.{Bool, Some, None, ap, sym, ◌∙◌, cond}
use Rattle.jreport.specs.Verdict.{is_shaped}
use Rattle.jreport.proofs.VerdictLemmas.{is_shaped_by}
use Rattle.jreport.proofs.verdict.shape_if.Goals as goal

pub returns-then-asked : goal.returns-then-asked
returns-then-asked c =
    ap Some (is_shaped_by c.args.mounted.now c.has_shape.result c.has_shape.ensures)
    ∙ sym (ap (λ (b : Bool). cond b (Some (is_shaped c.args.mounted.now)) None) c.if-asked.true)
