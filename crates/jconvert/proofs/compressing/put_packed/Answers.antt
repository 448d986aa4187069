use Rattle.std.proofs.Common.{◌≤◌, ℕ, List, length, sym, subst}
use Rattle.jnode.specs.Writing.{totlen_most}
use Rattle.jexpand.specs.Expanded.{expanded_node}
use Rattle.jconvert.specs.PuttingPacked.{IsMadeFor}
use Rattle.jconvert.proofs.PackLemmas.{made_small, made_failed}
use Rattle.jconvert.proofs.compressing.put_packed.Goals as goal

pub put_form-requires-clause-len : goal.put_form-requires-clause-len
put_form-requires-clause-len g c =
    subst (λ (form : List ℕ). length form ≤ totlen_most) (sym c.deref.ensures.value)
    (made_small g.E.Order.order c.args.geometry.block c.args.image.now (c.args.addr, c.args.seen.now) c.make_packed.new.packing.form.items c.in-Ok-true-default.field-0-0
    c.in-Ok-true-default.is_packed c.requires.readable c.requires.accepted c.in-Ok-true-default.ensures.ok c.in-Ok-true-default.field-0-0-test)

pub returns-in-Err-put_form : goal.returns-in-Err-put_form
returns-in-Err-put_form g c =
    let e = g.E.Order.order in
    let made = subst (λ (form : List ℕ). IsMadeFor e (expanded_node e c.args.geometry.block c.args.image.now (c.args.addr, c.args.seen.now)) form c.in-Ok-true-default.field-0-0
    c.in-Ok-true-default.is_packed) (sym c.deref.ensures.value) c.in-Ok-true-default.ensures.ok in
    made_failed e c.args.geometry.block c.args.image.now (c.args.addr, c.args.seen.now) c.args.from _ _ _ _ c.in-Err-put_form.fault c.deref.result.now c.in-Ok-true-default.field-0-0
    c.in-Ok-true-default.is_packed made c.in-Ok-true-default.field-0-0-test c.in-Err-put_form.ensures.puts
