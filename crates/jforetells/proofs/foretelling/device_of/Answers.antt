use Rattle.std.proofs.Common.{ℕ, ap}
use Rattle.jdevice.specs.declared.running.DevicePlan.{DevicePlan}
use Rattle.jforetells.proofs.foretelling.device_of.Goals as goal

pub returns : goal.returns
returns c =
    let a = c.args.asked in
    ap (λ (n : ℕ). (let on : DevicePlan = record { flash = record { geometry = a.options.geometry; blocks = n; page = a.page }; plain = a.plain; tail = a.tail } in on)) c.blocks_asked-blocks.ensures
