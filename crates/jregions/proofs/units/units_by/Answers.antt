use Rattle.std.proofs.Common.{◌≡◌, ◌++◌, ◌∷◌, [], ◌<◌, List, arith, ap, ap₂, sym, ◌∙◌}
use Rattle.std.specs.Prelude.{slice_index_or, false}
use Rattle.jregions.specs.Units.{kind_by, order_among, unit_count, unit_kind_at, usual_order}
use Rattle.jregions.specs.declared.unit.UnitKind.{UnitKind}
use Rattle.jregions.proofs.UnitLemmas.{each_next}
use Rattle.jregions.proofs.units.units_by.Goals as goal

pub loop-unit-preserved : goal.loop-unit-preserved
loop-unit-preserved c =
    let file = c.args.file.now in
    let unit = c.loop-unit.unit in
    let kind_at = unit_kind_at file in
    let within : unit < unit_count file = omega (arith, c.loop-unit-test.true, c.unit_count-unit-end.ensures) in
    let order = c.order_among-order.ensures.order
    ∙ ap₂ (order_among (usual_order file)) (c.requires.little unit within) (c.requires.big unit within) in
    let kind : c.kind_by.result ≡ kind_at unit = c.kind_by.ensures ∙ ap₂ kind_by order c.unit_bytes.ensures in
    record {
      units = c.in_ok-push.ensures.items ∙ ap₂ (λ (l : List UnitKind) (k : UnitKind). l ++ k ∷ []) c.loop-unit.invariant.units kind ∙ sym (each_next unit kind_at);
      usual = c.order_among-order.ensures.usual;
    }
