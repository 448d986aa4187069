use Rattle.std.proofs.Common.{◌≡◌, ◌≤◌, ◌∙◌, ap, sym, false, List, ℕ, arith}
use Rattle.jsteps.specs.Device.{device_mode}
use Rattle.jsteps.specs.Tests.{made_plan, new_of}
use Rattle.jsteps.proofs.OwnLemmas.{device_mode_small}
use Rattle.jsteps.proofs.PlannedLemmas.{device_made, given_as}
use Rattle.jsteps.proofs.planning.device.Goals as goal

pub make-requires : goal.make-requires
make-requires c =
    let is : c.mode-bits.result ≡ device_mode c.args.kind = c.mode-bits.ensures in
    let small : device_mode c.args.kind ≤ 0o060000 = device_mode_small c.args.kind in
    omega arith

pub returns : goal.returns
returns c = λ page.
    given_as _ _ _ c.make.ensures
    (device_made page c.args.index.now c.args.origin.time c.args.path.now c.args.kind c.args.origin.mode c.args.origin.uid c.args.origin.gid c.args.number.now
    ∙ ap (λ (bits : ℕ). made_plan c.args.index.now c.args.origin.time c.args.path.now (new_of bits c.args.origin.mode c.args.origin.uid c.args.origin.gid c.args.number.now) false) (sym c.mode-bits.ensures)
    ∙ ap (λ (target : List ℕ). made_plan c.args.index.now c.args.origin.time c.args.path.now (new_of c.mode-bits.result c.args.origin.mode c.args.origin.uid c.args.origin.gid target) false) (sym c.as_slice.ensures))
