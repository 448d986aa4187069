use Rattle.std.proofs.Common.{◌≡◌, ◌&&◌, Bool, ap, sym, ◌∙◌, arith}
use Rattle.std.specs.Prelude.{min}
use Rattle.jdamage.specs.Sweep.{spot}
use Rattle.jdamage.proofs.SweepLemmas.{hides_between, no_other}
use Rattle.jdamage.proofs.coverage.hides_nothing.Goals as goal

pub returns-then-contains : goal.returns-then-contains
returns-then-contains c =
    let lost = c.args.lost.now in
    let begins : c.spot-from.result ≡ spot lost.ino lost.from = c.spot-from.ensures ∙ ap (spot lost.ino) c.from.ensures in
    let stops : c.spot-to.result ≡ spot lost.ino (min lost.to c.args.size) = c.spot-to.ensures ∙ ap (spot lost.ino) (c.min.ensures ∙ ap (min lost.to) c.from-2.ensures) in
    λ all spots left t below ends there.
    ap (λ (b : Bool). b && c.is_covered.result) (sym c.if-contains.true ∙ c.contains.ensures)
    ∙ hides_between lost c.args.size c.spot-from.result c.spot-to.result all left spots c.args.bare.now c.args.numbers.now t below ends there (omega (arith, c.ranges.size.fits)) begins stops
    c.is_covered.result c.is_covered.ensures.yes c.is_covered.ensures.no

pub returns-else-contains : goal.returns-else-contains
returns-else-contains c = λ all spots left t below ends there.
    c.if-contains.false ∙ sym (no_other c.args.lost.now c.args.size all left spots c.args.bare.now c.args.numbers.now t below (sym c.contains.ensures ∙ c.if-contains.false))
