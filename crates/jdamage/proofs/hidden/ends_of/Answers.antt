use Rattle.std.proofs.Common.{◌≡◌, ℕ, true, subst}
use Rattle.std.specs.BTreeSet.{contains}
use Rattle.std.specs.Ordering.{nat_cmp}
use Rattle.jdamage.specs.Sweep.{spot}
use Rattle.jgaps.specs.declared.fields.Stretch.{Stretch}
use Rattle.jdamage.proofs.DamageLemmas.{each_more}
use Rattle.jdamage.proofs.NowhereLemmas.{gains_it, gains_more}
use Rattle.jdamage.proofs.hidden.ends_of.Goals as goal

pub loop-stretch-preserved : goal.loop-stretch-preserved
loop-stretch-preserved c =
    let d : Stretch = record { ino = 0; version = 0; from = 0; to = 0 } in
    each_more (λ (s : Stretch). contains nat_cmp c.insert.new.self (spot s.ino s.to) ≡ true) c.args.sound.now c.loop-stretch.stretch-index d c.loop-stretch-test.true
    (λ k e before. gains_more c.loop-stretch.spots c.insert.new.self c.spot.result _ c.in_ok-insert.ensures.updates.0 (c.loop-stretch.invariant k e before))
    (subst (λ (n : ℕ). contains nat_cmp c.insert.new.self n ≡ true) c.spot.ensures (gains_it c.loop-stretch.spots c.insert.new.self c.spot.result c.in_ok-insert.ensures.updates.0))
