use Rattle.std.proofs.Common.{◌≡◌, ◌∙◌, ℕ, List, ap}
use Rattle.jdevice.specs.Blank.{blank_left, reserve_on}
use Rattle.jdevice.specs.Run.{device_done}
use Rattle.jedge.specs.Commands.{left_told}
use Rattle.jupdates.proofs.updated.left_of.Goals as goal

pub returns : goal.returns
returns c =
    let a = c.args in
    let run = device_done a.run.now in
    let left : c.from.result ≡ blank_left a.on a.mounted.now.image run =
    c.from.ensures ∙ (c.blank_left-left.ensures ∙ ap (λ (i : List ℕ). blank_left a.on i run) c.image.ensures) in
    let reserve : c.from-2.result ≡ reserve_on a.on = c.from-2.ensures ∙ c.reserve_on-reserve.ensures in
    c.left_found.ensures ∙ ap (λ (n : ℕ). left_told a.others n c.from-2.result a.mounted.now) left
    ∙ ap (λ (n : ℕ). left_told a.others (blank_left a.on a.mounted.now.image run) n a.mounted.now) reserve
