use Rattle.std.proofs.Common.{◌≤◌, ◌∙◌, List, ℕ, length, arith, subst, sym}
use Rattle.jnode.specs.Writing.{canonical, totlen_most}
use Rattle.jconvert.proofs.KeepLemmas.{writable_few}
use Rattle.jconvert.proofs.keeping.put_one.Goals as goal

pub put_form-requires-clause-len : goal.put_form-requires-clause-len
put_form-requires-clause-len g c =
    subst (λ (form : List ℕ). length form ≤ totlen_most) (sym (c.deref.ensures.value ∙ c.in-Ok.ensures.ok))
    (writable_few g.E.Order.order c.args.node.now c.in-Ok.ensures.writable)
