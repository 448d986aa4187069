use Rattle.std.proofs.Common.{◌≡◌, ◌*◌, ◌+◌, ◌-◌, ℕ, length, take, drop, arith, ap, ◌∙◌}
use Rattle.std.specs.Prelude.{min}
use Rattle.std.proofs.lemmas.List.{take_min, length-drop}
use Rattle.jregions.proofs.units.unit_bytes.Goals as goal

pub returns : goal.returns
returns c =
    let from = c.args.unit * 4096 in
    let rest = drop from c.args.file.now in
    let long : (from + c.min-len.result) - from ≡ min 4096 (length rest) = omega (arith, c.min-len.ensures, length-drop from c.args.file.now) in
    ap (λ (n : ℕ). take n rest) long ∙ take_min 4096 rest
