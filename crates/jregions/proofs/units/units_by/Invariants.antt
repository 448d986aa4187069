use Rattle.std.proofs.Common.{◌≡◌}
use Rattle.std.specs.Prelude.{IfSome}
use Rattle.flashbase.specs.Lists.{each_below}
use Rattle.jregions.specs.Units.{unit_kind_at, usual_order}
use Rattle.jregions.proofs.units.units_by.Given as goal

abbrev pub invariant-loop-unit : goal.invariant-loop-unit
invariant-loop-unit l = record {
  units : l.units.items ≡ each_below l.unit (unit_kind_at l.file);
  usual : IfSome l.usual (λ order. order ≡ usual_order l.file);
}
