use Rattle.std.proofs.Common.{◌≡◌, ◌-◌, ◌^◌, take}
use Rattle.std.specs.Prelude.{min, sum_by}
use Rattle.jgaps.specs.declared.gap.Gap.{Gap}
use Rattle.jedge.proofs.missing.missing_in.Given as goal

abbrev pub invariant-loop-gap : goal.invariant-loop-gap
invariant-loop-gap l =
    l.missing ≡ min (sum_by (λ (g : Gap). g.to - g.from) (take l.gap-index l.gaps)) (2 ^ 64 - 1)
