use Rattle.std.proofs.Common.{◌∙◌}
use Rattle.jconvert.proofs.WriteLemmas.{form_of}
use Rattle.jconvert.proofs.TileLemmas.{form_small, tile_put}
use Rattle.jconvert.proofs.writing.put_tile.Goals as goal

pub put_form-requires-clause-len : goal.put_form-requires-clause-len
put_form-requires-clause-len g c =
    let found = form_of g.E.Order.order _ c.make_form.new.making.form.items c.in-Ok-true.field-0 c.in-Ok-true.ensures.ok c.in-Ok-true.field-0-test in
    form_small g.E.Order.order c.args.geometry.block c.args.image.now c.args.addr c.args.seen.now c.deref.result.now found.0 c.requires.readable c.requires.accepted found.1
    (c.deref.ensures.value ∙ found.2)

pub returns-in-Ok-true-clause-put : goal.returns-in-Ok-true-clause-put
returns-in-Ok-true-clause-put g c =
    let found = form_of g.E.Order.order _ c.make_form.new.making.form.items c.in-Ok-true.field-0 c.in-Ok-true.ensures.ok c.in-Ok-true.field-0-test in
    tile_put g.E.Order.order c.args.geometry.block c.args.image.now (c.args.addr, c.args.seen.now) c.args.from _ _ _ _ c.put_form.result c.deref.result.now found.0 found.1
    (c.deref.ensures.value ∙ found.2) c.put_form.ensures.puts
