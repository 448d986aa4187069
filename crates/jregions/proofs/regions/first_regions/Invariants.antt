use Rattle.std.proofs.Common.{◌≡◌, map, take}
use Rattle.jregions.specs.Regions.{region_of_span}
use Rattle.jregions.proofs.regions.first_regions.Given as goal

abbrev pub invariant-loop-span : goal.invariant-loop-span
invariant-loop-span l = record {
  regions : l.regions.items ≡ map (region_of_span l.file) (take l.span-index l.span-items);
}
