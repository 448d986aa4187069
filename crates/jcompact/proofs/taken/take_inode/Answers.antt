use Rattle.std.proofs.Common.{◌≡◌, Bool, refl, ap, ap₂, ◌∙◌}
use Rattle.std.specs.Prelude.{◌&&◌, ◌||◌, min}
use Rattle.jcompact.specs.Taking.{reached_by, spot_of}
use Rattle.jcompact.proofs.TakenLemmas.{takes_inode}
use Rattle.jcompact.proofs.taken.take_inode.Goals as goal

pub returns : goal.returns
returns c =
    let s = c.args.tree.mounted.now.state in
    let reached = reached_by s c.args.tree.unreached.now in
    let node = c.args.node.now in
    takes_inode s reached c.args.addr node c.args.taken.now _ c.spot-from.result c.spot.result c.spot-2.result c.has_bare-shows.result c.counts-also.result c.spot-from.ensures
    (c.spot.ensures ∙ ap (spot_of node.ino) (c.min-shown.ensures ∙ ap₂ min c.end_of-end.ensures c.size_in.ensures))
    (c.spot-2.ensures ∙ ap (spot_of node.ino) c.end_of-end.ensures)
    (record { yes = c.has_bare-shows.ensures.yes; no = c.has_bare-shows.ensures.no })
    c.cover.ensures c.in_ok-newest.ensures.updates.0 refl c.in_ok-keep_if.ensures
    (c.counts-also.ensures ∙ ap (λ (b : Bool). reached node.ino && (b || c.has_bare-shows.result)) c.in_ok-newest.ensures.added)
