use Rattle.std.proofs.Common.{◌≡◌, ◌∙◌, List, ℕ, Option, Some, [], ap, refl, subst, sym}
use Rattle.std.specs.Prelude.{IfSome}
use Rattle.jsteps.specs.declared.op.Op.{Op}
use Rattle.jlog.specs.View.{flash_of_start, mount_of, written_flash}
use Rattle.jlog.specs.declared.start.Flash.{Flash}
use Rattle.jedge.specs.Calls.{Event}
use Rattle.jedge.proofs.Steps.{answered, does_at, nothing_done, then_err, then_ok}
use Rattle.jmakes.specs.Making.{makes, wanted_file}
use Rattle.jmakes.specs.Seen.{done_seen, emission_seen, told_seen}
use Rattle.jmakes.specs.Writing.{Emits, all_ran, plan_on, prints_accepted}
use Rattle.jmakes.proofs.LineLemmas.{ended_at}
use Rattle.jmakes.proofs.MakingSteps.{some_later}
use Rattle.jmakes.proofs.written.write_from.Goals as goal

pub returns-in-Err : goal.returns-in-Err
returns-in-Err g c = then_err (nothing_done c.take_memory.ensures.same (refl, c.in-Err.ensures.memory))

pub print_accepted-requires-clause-sound : goal.print_accepted-requires-clause-sound
print_accepted-requires-clause-sound g c = c.in-Ok.ensures.sound

pub print_accepted-requires-clause-empty : goal.print_accepted-requires-clause-empty
print_accepted-requires-clause-empty g c =
    let fresh : Type 0 = g.H.Output.Sink.taken c.in-Ok.taken.1 ≡ Some [] in
    some_later fresh c.in-Ok-make_image.ensures
    (subst (λ (h : Option (List Event)). IfSome h (λ _. fresh)) (sym c.take_memory.ensures.same) c.in-Ok.ensures.empty)

pub returns-in-Err-make_image : goal.returns-in-Err-make_image
returns-in-Err-make_image g c =
    let e = g.E.Order.order in
    let a = c.args in
    let image = (mount_of a.start.now).image in
    then_ok {x = tt} (nothing_done c.take_memory.ensures.same (refl, tt)) (then_err
    (does_at (λ (flash : Flash). makes (wanted_file a.image.file) (Emits (written_flash e flash) image a.of.now.ops.items) all_ran) c.requires
    (does_at (λ (ops : List Op). makes (wanted_file a.image.file) (Emits (written_flash e (flash_of_start a.start.now)) image ops) all_ran) c.deref.ensures.value c.in-Err-make_image.ensures)))

pub returns-in-Ok-ended : goal.returns-in-Ok-ended
returns-in-Ok-ended g c =
    let e = g.E.Order.order in
    let a = c.args in
    let image = (mount_of a.start.now).image in
    let made = c.in-Ok-make_image.made in
    let done = c.in-Ok-ended.done in
    then_ok {x = tt} (nothing_done c.take_memory.ensures.same (refl, tt)) (then_ok
    (does_at (λ (flash : Flash). makes (wanted_file a.image.file) (Emits (written_flash e flash) image a.of.now.ops.items) all_ran) c.requires
    (does_at (λ (ops : List Op). makes (wanted_file a.image.file) (Emits (written_flash e (flash_of_start a.start.now)) image ops) all_ran) c.deref.ensures.value c.in-Ok-make_image.ensures))
    (then_ok (answered (ended_at (emission_seen made.emitted) made.closed _ c.in-Ok.ensures.name (c.plan_of.ensures ∙ ap (λ (flash : Flash). plan_on flash image) c.requires) c.deref-2.ensures.value c.in-Ok-ended.ensures))
    (does_at (λ (at : ℕ). prints_accepted at (told_seen a.written) (done_seen done)) c.address.ensures.same c.print_accepted.ensures)))

pub returns-in-Err-ended : goal.returns-in-Err-ended
returns-in-Err-ended g c =
    let e = g.E.Order.order in
    let a = c.args in
    let image = (mount_of a.start.now).image in
    let made = c.in-Ok-make_image.made in
    then_ok {x = tt} (nothing_done c.take_memory.ensures.same (refl, tt)) (then_ok
    (does_at (λ (flash : Flash). makes (wanted_file a.image.file) (Emits (written_flash e flash) image a.of.now.ops.items) all_ran) c.requires
    (does_at (λ (ops : List Op). makes (wanted_file a.image.file) (Emits (written_flash e (flash_of_start a.start.now)) image ops) all_ran) c.deref.ensures.value c.in-Ok-make_image.ensures))
    (then_err (answered (ended_at (emission_seen made.emitted) made.closed _ c.in-Ok.ensures.name (c.plan_of.ensures ∙ ap (λ (flash : Flash). plan_on flash image) c.requires) c.deref-2.ensures.value c.in-Err-ended.ensures))))
