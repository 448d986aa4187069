use Rattle.std.proofs.Common.{sym}
use Rattle.std.specs.Prelude.{option_map}
use Rattle.jnode.specs.declared.order.Endian.{Endian}
use Rattle.jedge.proofs.Steps.{answered, does_at, then_err, then_ok}
use Rattle.jinspects.specs.Inspecting.{period_asked, tells_history, traces}
use Rattle.jinspects.proofs.history.history.Goals as goal

pub returns-in-Err : goal.returns-in-Err
returns-in-Err g c = then_err (answered c.in-Err.ensures)

pub returns-in-Err-load : goal.returns-in-Err-load
returns-in-Err-load g c =
    let word = option_map (λ p. p.now) c.args.asked.path in
    does_at (λ (e : Endian). traces e c.args.asked.options.geometry.block (period_asked c.args.asked) c.args.asked.image.now word)
    (sym c.requires) (then_ok (answered c.in-Ok.ensures) (then_err c.in-Err-load.ensures))

pub returns-in-Ok-trace_of : goal.returns-in-Ok-trace_of
returns-in-Ok-trace_of g c =
    let word = option_map (λ p. p.now) c.args.asked.path in
    let size = c.args.asked.options.geometry.block in
    let path = option_map (λ path. path.items) c.in-Ok.path in
    does_at (λ (e : Endian). traces e size (period_asked c.args.asked) c.args.asked.image.now word) (sym c.requires)
    (then_ok (answered c.in-Ok.ensures) (then_ok c.in-Ok-load.ensures
    (does_at (tells_history g.E.Order.order size (period_asked c.args.asked) path) c.as_slice-bytes.ensures.value
    (then_ok (answered c.others_if_none-others.ensures)
    (then_ok (answered c.in-Ok-trace_of.ensures.trace) c.print_trace.ensures)))))

pub returns : goal.returns
returns g c =
    let word = option_map (λ p. p.now) c.args.asked.path in
    let size = c.args.asked.options.geometry.block in
    let path = option_map (λ path. path.items) c.in-Ok.path in
    does_at (λ (e : Endian). traces e size (period_asked c.args.asked) c.args.asked.image.now word) (sym c.requires)
    (then_ok (answered c.in-Ok.ensures) (then_ok c.in-Ok-load.ensures
    (does_at (tells_history g.E.Order.order size (period_asked c.args.asked) path) c.as_slice-bytes.ensures.value
    (then_ok (answered c.others_if_none-others.ensures)
    (then_err (answered c.in-Err-trace_of.ensures.trace))))))
