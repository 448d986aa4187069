use Rattle.std.proofs.Common.{◌≡◌, ◌∙◌, List, ℕ, Option, Some, [], ap, length, refl, rules, subst, sym}
use Rattle.std.specs.Prelude.{IfSome}
use Rattle.jedge.specs.Calls.{Event}
use Rattle.jedge.specs.Told.{found_told}
use Rattle.jedge.proofs.Steps.{answered, does_at, nothing_done, then_err, then_ok}
use Rattle.jmakes.specs.Seen.{done_seen}
use Rattle.jmakes.proofs.LineLemmas.{ended_at}
use Rattle.jmakes.proofs.MakingSteps.{some_later}
use Rattle.jdevice.specs.Run.{device_done}
use Rattle.jupdates.specs.Updating.{prints_updated, ran_of}
use Rattle.jupdates.proofs.updated.write_device.Goals as goal

pub returns-in-Err : goal.returns-in-Err
returns-in-Err g c = then_err (nothing_done c.take_memory.ensures.same (refl, c.in-Err.ensures.memory))

pub print_updated-requires-clause-sound : goal.print_updated-requires-clause-sound
print_updated-requires-clause-sound g c = c.in-Ok.ensures.sound

pub print_updated-requires-clause-empty : goal.print_updated-requires-clause-empty
print_updated-requires-clause-empty g c =
    let fresh : Type 0 = g.H.Output.Sink.taken c.in-Ok.taken.1 ≡ Some [] in
    some_later fresh c.in-Ok-make_device.ensures
    (subst (λ (h : Option (List Event)). IfSome h (λ _. fresh)) (sym c.take_memory.ensures.same) c.in-Ok.ensures.empty)

pub returns-in-Err-make_device : goal.returns-in-Err-make_device
returns-in-Err-make_device g c =
    then_ok {x = tt} (nothing_done c.take_memory.ensures.same (refl, tt)) (then_err c.in-Err-make_device.ensures)

pub returns-in-Ok-run_ended : goal.returns-in-Ok-run_ended
returns-in-Ok-run_ended g c =
    let made = c.in-Ok-make_device.made in
    let done = c.in-Ok-run_ended.done in
    then_ok {x = tt} (nothing_done c.take_memory.ensures.same (refl, tt)) (then_ok c.in-Ok-make_device.ensures
    (then_ok (answered (ended_at (ran_of (device_done c.args.run)) made.closed _ c.in-Ok.ensures.name c.plan_on-plan.ensures refl c.in-Ok-run_ended.ensures))
    (does_at (λ (n : ℕ). prints_updated n (found_told c.args.found) (done_seen done)) (search rules) c.print_updated.ensures)))

pub returns-in-Err-run_ended : goal.returns-in-Err-run_ended
returns-in-Err-run_ended g c =
    let made = c.in-Ok-make_device.made in
    then_ok {x = tt} (nothing_done c.take_memory.ensures.same (refl, tt)) (then_ok c.in-Ok-make_device.ensures
    (then_err (answered (ended_at (ran_of (device_done c.args.run)) made.closed _ c.in-Ok.ensures.name c.plan_on-plan.ensures refl c.in-Err-run_ended.ensures))))
