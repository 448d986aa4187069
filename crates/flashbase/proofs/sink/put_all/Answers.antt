use Rattle.std.proofs.Common.{◌≤◌, ◌<◌, length, drop, arith, ◌∙◌, length-drop}
use Rattle.std.proofs.lemmas.List.{take_rest}
use Rattle.flashbase.proofs.DeviceLemmas.{Appends-take}
use Rattle.flashbase.proofs.sink.put_all.Goals as goal

pub loop-taken-preserved : goal.loop-taken-preserved
loop-taken-preserved g c =
    let before = c.loop-taken.invariant in
    let step = c.in-Ok.ensures in
    let n-within : c.in-Ok.n ≤ length (drop c.loop-taken.taken c.args.bytes.now) = rw take_rest at step.0 in
    let some : 0 < c.in-Ok.n = omega arith in
    record {
      within = omega (arith, n-within, length-drop c.loop-taken.taken c.args.bytes.now);
      appended = Appends-take _ _ _ _ _ _ before.appended step.1;
      none_failed = step.2 some ∙ before.none_failed;
    }
