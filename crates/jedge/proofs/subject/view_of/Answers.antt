use Rattle.jedge.proofs.ViewLemmas.{plain_viewed, viewed_at}
use Rattle.jedge.proofs.subject.view_of.Goals as goal

pub returns-then-decompress : goal.returns-then-decompress
returns-then-decompress g c =
    viewed_at g.E.Order.order c.args.geometry.block c.args.decompress c.args.image.items _ _
    c.as_slice-then-decompress.ensures.value c.if-decompress.true c.made_view.ensures

pub returns-else-decompress : goal.returns-else-decompress
returns-else-decompress g c =
    plain_viewed g.E.Order.order c.args.geometry.block c.args.decompress c.args.image.items
    c.others_if_none-others.result c.if-decompress.false
    (rw c.as_slice.ensures.value at c.others_if_none-others.ensures)
