use Rattle.std.proofs.Common.{◌≡◌, ◌-◌, ◌+◌, ℕ, drop, get_or, refl, ap, ◌∙◌, arith}
use Rattle.jnode.specs.declared.order.Endian.TheVariants.{Little}
use Rattle.jregions.specs.Spans.{spans_from}
use Rattle.jregions.specs.declared.unit.UnitKind.TheVariants.{Nodes}
use Rattle.jregions.proofs.SpanLemmas.{none_taken, unit_taken}
use Rattle.jregions.proofs.spans.spans_of.Goals as goal

pub loop-at-init : goal.loop-at-init
loop-at-init c = record {
  within = omega arith;
  small = omega arith;
  taken = none_taken c.args.units.now c.new-spans.result.items c.new-spans.ensures.items;
}

pub loop-at-preserved : goal.loop-at-preserved
loop-at-preserved c =
    let inv = c.loop-at.invariant in
    let units = c.args.units.now in
    let next = c.loop-at.at - 1 in
    let one_less : c.loop-at.at ≡ next + 1 = omega (arith, c.loop-at-test.true) in
    record {
      within = omega (arith, inv.within);
      small = omega (arith, inv.small, c.in_ok-gap.ensures.small, c.loop-at-test.true);
      taken = unit_taken units c.loop-at.at next c.loop-at.gap c.in_ok-gap.gap (get_or units next (Nodes Little)) (Nodes Little) c.loop-at.spans.items c.take_unit.new.spans.items
          one_less inv.within refl inv.taken c.in_ok-gap.ensures.spans c.in_ok-gap.ensures.gap;
    }

pub returns : goal.returns
returns c =
    let inv = c.loop-at.invariant in
    let front : c.loop-at.at ≡ 0 = omega (arith, c.loop-at-test.false) in
    c.reverse.ensures.items ∙ inv.taken.made ∙ ap (λ (n : ℕ). spans_from n (drop n c.args.units.now)) front
