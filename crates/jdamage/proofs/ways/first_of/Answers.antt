use Rattle.std.proofs.Common.{ℕ, take, length, map, ap, ◌∙◌, arith}
use Rattle.std.specs.Prelude.{min}
use Rattle.jdamage.specs.Ways.{name_held}
use Rattle.jdamage.proofs.WayLemmas.{first_held}
use Rattle.jdamage.proofs.ways.first_of.Goals as goal

pub returns : goal.returns
returns c =
    ap (λ (k : ℕ). map name_held (take k c.args.names.now)) {x = c.min.result} {y = min (length c.args.names.now) c.args.most} (omega (arith, c.min.ensures))
    ∙ first_held c.args.names.now c.args.most
