use Rattle.std.proofs.Common.{◌≡◌, ◌∙◌, ◌+◌, ◌≤◌, ◌-◌, ap, arith, drop, length, refl}
use Rattle.jscan.specs.declared.extent.ExtentKind.TheVariants.{Dirt}
use Rattle.jscan.proofs.DirtLemmas.{word_is_dirt}
use Rattle.jscan.proofs.ExtentLemmas.{goes_on}
use Rattle.jscan.proofs.extents.dirt_words.Goals as goal

pub loop-end-preserved : goal.loop-end-preserved
loop-end-preserved g c =
    let old = c.loop-end.invariant in
    let here : c.loop-end.end + 2 ≤ length c.present-present.result.now = omega arith in
    let long : c.loop-end.end + 12 ≤ length c.args.rest.now = omega (arith, old.words) in
    record {
      least = omega (arith, old.least);
      within = omega (arith, long);
      words = omega (arith, old.words);
      begins = goes_on _ _ _ _ Dirt refl old.begins (word_is_dirt _ _ _ _ _ _ c.present-present.ensures here long c.magic_at.ensures (c.if-not-is_dirt.ensures refl));
    }
