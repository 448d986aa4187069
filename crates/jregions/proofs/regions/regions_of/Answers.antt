use Rattle.std.proofs.Common.{◌≡◌, length, ap, ◌∙◌, arith}
use Rattle.jregions.specs.Units.{units_of}
use Rattle.jregions.proofs.UnitLemmas.{units_are_few}
use Rattle.jregions.proofs.regions.regions_of.Goals as goal

pub spans_of-requires : goal.spans_of-requires
spans_of-requires c =
    let all : c.deref.result.now ≡ units_of c.args.file.now = c.deref.ensures.value ∙ c.in_ok-units.ensures in
    omega (arith, units_are_few c.args.file.now c.requires, ap length all)
