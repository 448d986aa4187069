use Rattle.std.proofs.Common.{rules, ◌≡◌, true, false, subst}
use Rattle.jlog.specs.Headline.{is_flash_of}
use Rattle.jlog.specs.Resuming.{page_fits}
use Rattle.jlog.proofs.ResumeLemmas.{resumes}
use Rattle.jpacked.proofs.StartLemmas.{at_page}
use Rattle.jpacked.proofs.start.start_at.Goals as goal

pub returns : goal.returns
returns g c =
    let a = c.args in
    let m = a.mounted.now in
    let writes : m.read_only ≡ false = search rules in
    let fits : is_flash_of a.geometry.block a.blocks c.image-image.result.now ≡ true = search rules in
    let long : page_fits a.geometry.block a.page ≡ true = search rules in
    at_page a.page g.E.Order.order a.geometry.block a.blocks m _ writes (subst (λ l. is_flash_of a.geometry.block a.blocks l ≡ true) c.image-image.ensures fits) long
    (resumes g.E.Order.order a.geometry.block a.blocks m c.image-image.result.now c.blank_from.result c.image-image.ensures writes fits c.blank_from.ensures)
