use Rattle.std.proofs.Common.{ℕ, ◌+◌, List, arith, get_or, subst}
use Rattle.std.proofs.lemmas.Grind.{common_steps}
use Rattle.jgaps.specs.declared.gap.Gap.{Gap}
use Rattle.jdamage.specs.Room.{PathsFit, names_told}
use Rattle.jdamage.specs.Ways.{NameOf}
use Rattle.jdamage.proofs.DamageLemmas.{each_more}
use Rattle.jdamage.proofs.RoomLemmas.{paths_fit_more}
use Rattle.jdamage.proofs.room.deepest_of_gaps.Goals as goal

pub told-requires : goal.told-requires
told-requires c = c.requires c.loop-gap.gap-index (record { ino = 0; from = 0; to = 0 }) c.loop-gap-test.true

pub loop-gap-preserved : goal.loop-gap-preserved
loop-gap-preserved c =
    let s = c.args.ways.now.up.mounted.now.state in
    let most = c.max-most.result in
    let d : Gap = record { ino = 0; from = 0; to = 0 } in
    record {
      few = grind (arith, common_steps, c.max-most.ensures, c.loop-gap.invariant.few, c.deepest.ensures.few);
      below = each_more (λ (g : Gap). PathsFit s (most + 1) (names_told s g.ino)) c.args.gaps.now c.loop-gap.gap-index d c.loop-gap-test.true
          (λ k x below. paths_fit_more s (c.loop-gap.most + 1) (most + 1) _ (grind (arith, common_steps, c.max-most.ensures)) (c.loop-gap.invariant.below k x below))
          (paths_fit_more s (c.deepest.result + 1) (most + 1) _ (grind (arith, common_steps, c.max-most.ensures))
          (subst (λ (l : List NameOf). PathsFit s (c.deepest.result + 1) l) c.told.ensures c.deepest.ensures.room));
    }

pub returns-clause-room : goal.returns-clause-room
returns-clause-room c = λ k d less. c.loop-gap.invariant.below k d (omega (arith, less, c.loop-gap-test.false))
