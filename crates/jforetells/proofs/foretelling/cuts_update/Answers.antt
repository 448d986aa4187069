use Rattle.std.proofs.Common.{ℕ, List, length, subst, sym}
use Rattle.std.specs.Prelude.{◌≤◌}
use Rattle.jcommand.specs.Parsed.{update_cuts_view}
use Rattle.jdevice.specs.declared.running.DevicePlan.{DevicePlan}
use Rattle.jedge.proofs.Steps.{does_at, then_err, then_ok}
use Rattle.jscan.specs.Image.{greatest_image}
use Rattle.jforetells.proofs.LoadLemmas.{loaded_small}
use Rattle.jforetells.specs.Foretelling.{device_foretold, foretells_text}
use Rattle.jforetells.specs.declared.plan.ForetoldPlan.TheVariants as plan
use Rattle.jforetells.proofs.foretelling.cuts_update.Goals as goal

pub returns-in-Err : goal.returns-in-Err
returns-in-Err g c = then_err c.in-Err.ensures

pub device_of-requires : goal.device_of-requires
device_of-requires g c = subst (λ (l : List ℕ). length l ≤ greatest_image) (sym c.as_slice-bytes.ensures.value) (loaded_small c.in-Ok.ensures)

pub returns-in-Ok-load : goal.returns-in-Ok-load
returns-in-Ok-load g c =
    let e = g.E.Order.order in
    let asked = update_cuts_view c.args.asked in
    let text = c.in-Ok-load.text.items in
    let bytes = c.as_slice-bytes.result.now in
    then_ok c.in-Ok.ensures (then_ok c.in-Ok-load.ensures
    (does_at (λ (i : List ℕ). foretells_text e (plan.Halts (device_foretold asked i)) i text) c.as_slice-bytes.ensures.value
    (does_at (λ (on : DevicePlan). foretells_text e (plan.Halts on) bytes text) c.device_of.ensures
    (does_at (λ (t : List ℕ). foretells_text e (plan.Halts c.device_of.result) bytes t) c.as_slice.ensures.value c.tell_text.ensures))))

pub returns : goal.returns
returns g c = then_ok c.in-Ok.ensures (then_err c.in-Err-load.ensures)
