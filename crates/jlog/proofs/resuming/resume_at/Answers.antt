use Rattle.std.proofs.Common.{rules, ◌≡◌, true, false}
use Rattle.jlog.specs.Headline.{is_flash_of}
use Rattle.jlog.proofs.ResumeLemmas.{resumes}
use Rattle.jlog.proofs.resuming.resume_at.Goals as goal

pub returns : goal.returns
returns g c =
    let a = c.args in
    let writes : a.mounted.now.read_only ≡ false = search rules in
    let fits : is_flash_of a.geometry.block a.blocks c.image-image.result.now ≡ true = search rules in
    let done = resumes g.E.Order.order a.geometry.block a.blocks a.mounted.now c.image-image.result.now c.blank_from.result c.image-image.ensures writes fits c.blank_from.ensures in
    search (rules, done)
