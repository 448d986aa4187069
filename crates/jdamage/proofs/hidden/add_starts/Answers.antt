use Rattle.std.proofs.Common.{◌≡◌, ℕ, true, subst, ap, ◌∙◌}
use Rattle.std.specs.BTreeSet.{contains}
use Rattle.std.specs.Ordering.{nat_cmp}
use Rattle.jdamage.specs.Hidden.{spot_at}
use Rattle.jdamage.specs.Sweep.{spot}
use Rattle.jgaps.specs.declared.fields.Stretch.{Stretch}
use Rattle.jdamage.proofs.DamageLemmas.{each_more}
use Rattle.jdamage.proofs.NowhereLemmas.{gains_it, gains_more}
use Rattle.jdamage.proofs.hidden.add_starts.Goals as goal

pub loop-addr-preserved : goal.loop-addr-preserved
loop-addr-preserved g c =
    let d : ℕ × ℕ = (0, 0) in
    record {
      keeps = λ q was. gains_more c.loop-addr.spots c.insert.new.self c.spot.result q c.in_ok-insert.ensures.updates.0 (c.loop-addr.invariant.keeps q was);
      starts = each_more (λ (l : ℕ × ℕ). contains nat_cmp c.insert.new.self (spot_at g.E.Order.order c.args.image.now l.0) ≡ true) c.args.lost.now c.loop-addr.addr-index d c.loop-addr-test.true
          (λ k e before. gains_more c.loop-addr.spots c.insert.new.self c.spot.result _ c.in_ok-insert.ensures.updates.0 (c.loop-addr.invariant.starts k e before))
          (subst (λ (n : ℕ). contains nat_cmp c.insert.new.self n ≡ true)
          (c.spot.ensures ∙ ap (spot c.stretch_at-node.result.ino) c.from.ensures ∙ ap (λ (s : Stretch). spot s.ino s.from) c.stretch_at-node.ensures)
          (gains_it c.loop-addr.spots c.insert.new.self c.spot.result c.in_ok-insert.ensures.updates.0));
    }
