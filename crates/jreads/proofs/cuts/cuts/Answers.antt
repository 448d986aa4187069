use Rattle.std.proofs.Common.{ℕ, List, option_map, sym}
use Rattle.jnode.specs.declared.order.Endian.{Endian}
use Rattle.jlog.specs.declared.start.Flash.{Flash}
use Rattle.jedge.proofs.Steps.{does_at, then_err, then_ok}
use Rattle.jreads.specs.Cutting.{cuts_on, cuts_text}
use Rattle.jreads.proofs.cuts.cuts.Goals as goal

pub returns-in-Err : goal.returns-in-Err
returns-in-Err g c = then_err c.in-Err.ensures

pub returns-in-Ok-load : goal.returns-in-Ok-load
returns-in-Ok-load g c =
    let asked = c.args.asked in
    let flash : Flash = record { geometry = asked.options.geometry; blocks = asked.blocks; page = asked.page } in
    does_at (λ (e : Endian). cuts_on e flash (option_map (λ name. name.now) asked.on) asked.listing.now) (sym c.requires)
    (then_ok c.in-Ok.ensures (then_ok c.in-Ok-load.ensures
    (does_at (λ (b : List ℕ). cuts_text g.E.Order.order flash b c.in-Ok-load.text.items) c.as_slice.ensures.value
    (does_at (λ (t : List ℕ). cuts_text g.E.Order.order flash c.as_slice.result.now t) c.as_slice-in-Ok-load.ensures.value
    c.tell_text.ensures))))

pub returns : goal.returns
returns g c = then_ok c.in-Ok.ensures (then_err c.in-Err-load.ensures)
