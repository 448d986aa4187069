use Rattle.std.proofs.Common.{[], ◌∷◌}
use Rattle.jextract.specs.Folders.{Link}
use Rattle.jextract.proofs.MakingLemmas.{again_links, one_fails}
use Rattle.jextract.proofs.making.make_again.Goals as goal

pub returns-in_err-make_link-in-Regular : goal.returns-in_err-make_link-in-Regular
returns-in_err-make_link-in-Regular g c =
    let put = c.in_err-make_link-in-Regular.ensures in
    one_fails (Unit {0}) _ _ _ (Link c.args.first.now) c.in_err-make_link-in-Regular.field-0.0 _
    (again_links c.args.kind c.args.first.now c.in-Regular.is) put.adds put.counts c.from_residual.ensures.1

pub returns : goal.returns
returns g c =
    let put = c.in_ok-make_link-in-Regular.ensures in
    (Link c.args.first.now ∷ [], again_links c.args.kind c.args.first.now c.in-Regular.is, put.adds, put.counts)
