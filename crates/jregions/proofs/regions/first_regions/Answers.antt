use Rattle.std.proofs.Common.{◌≡◌, ℕ, length, take, map, arith, ap, ◌∙◌}
use Rattle.std.specs.Prelude.{min}
use Rattle.std.proofs.lemmas.List.{take_all, take_min}
use Rattle.jregions.specs.Regions.{region_of_span}
use Rattle.jregions.proofs.regions.first_regions.Goals as goal

pub returns : goal.returns
returns c =
    let spans = c.args.spans.now in
    let first = take c.min.result spans in
    let least : c.min.result ≡ min 16 (length spans) = omega (arith, c.min.ensures) in
    let all : take c.loop-span.span-index first ≡ take 16 spans =
    take_all c.loop-span.span-index first c.loop-span-test.false ∙ ap (λ (n : ℕ). take n spans) least ∙ take_min 16 spans in
    c.loop-span.invariant.regions ∙ ap (map (region_of_span c.args.file.now)) all
