use Rattle.std.proofs.Common.{ℕ, ◌-◌, ◌^◌, get_or, refl, arith}
use Rattle.jgaps.specs.declared.gap.Gap.{Gap}
use Rattle.jdamage.proofs.DamageLemmas.{count_more}
use Rattle.jedge.proofs.missing.missing_in.Goals as goal

pub loop-gap-preserved : goal.loop-gap-preserved
loop-gap-preserved c =
    let gaps = c.args.gaps.now in
    let i = c.loop-gap.gap-index in
    let d : Gap = record { ino = 0; from = 0; to = 0 } in
    let here = get_or gaps i d in
    count_more (λ (g : Gap). g.to - g.from) gaps i d here (2 ^ 64 - 1) _ _ _ c.loop-gap-test.true refl c.loop-gap.invariant (omega (arith, c.gap_len.ensures)) c.saturating_add-missing.ensures
