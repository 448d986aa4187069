use Rattle.std.proofs.Common.{◌≡◌, ℕ, true, arith}
use Rattle.std.specs.BTreeSet.{contains}
use Rattle.std.specs.Ordering.{nat_cmp}
use Rattle.jgaps.specs.declared.gap.Gap.{Gap}
use Rattle.jdamage.proofs.DamageLemmas.{each_more}
use Rattle.jdamage.proofs.NowhereLemmas.{gains_it, gains_more}
use Rattle.jdamage.proofs.damage.add_files.Goals as goal

pub loop-gap-preserved : goal.loop-gap-preserved
loop-gap-preserved c =
    let d : Gap = record { ino = 0; from = 0; to = 0 } in
    record {
      keeps = λ q was. gains_more c.loop-gap.numbers c.insert.new.self _ q c.in_ok-insert.ensures.updates.0 (c.loop-gap.invariant.keeps q was);
      files = each_more (λ (x : Gap). contains nat_cmp c.insert.new.self x.ino ≡ true) c.args.gaps.now c.loop-gap.gap-index d c.loop-gap-test.true
          (λ k e before. gains_more c.loop-gap.numbers c.insert.new.self _ _ c.in_ok-insert.ensures.updates.0 (c.loop-gap.invariant.files k e before))
          (gains_it c.loop-gap.numbers c.insert.new.self _ c.in_ok-insert.ensures.updates.0);
    }

pub returns-clause-files : goal.returns-clause-files
returns-clause-files c = λ k d less. c.loop-gap.invariant.files k d (omega (arith, less, c.loop-gap-test.false))
