use Rattle.std.proofs.Common.{ℕ, List, subst, sym}
use Rattle.jexpand.specs.Expanded.{unpacked_bytes}
use Rattle.jthrough.specs.View.{BeginWith, IsViewOf}
use Rattle.jthrough.proofs.AddressedLemmas.{view_holds_contents}
use Rattle.history_tests.proofs.history.lines.left.Goals as goal

pub left_mounted-requires-clause-mount : goal.left_mounted-requires-clause-mount
left_mounted-requires-clause-mount g c = c.in-Ok-mount_view.ensures.1

pub left_mounted-requires-clause-held : goal.left_mounted-requires-clause-held
left_mounted-requires-clause-held g c =
    let e = g.E.Order.order in
    let is = c.in-Ok-mount_view.ensures in
    let image : List ℕ = c.in-Ok-mount_view.mounted.image in
    let held : List ℕ = c.view_image.new.contents.items in
    subst (BeginWith (unpacked_bytes e 4096 image)) (sym c.deref-in-Ok-mount_view.ensures.value)
    (view_holds_contents e 4096 image held c.in-Ok.view
    (subst (λ (l : List ℕ). IsViewOf e 4096 l held c.in-Ok.view) (sym is.0) c.in-Ok.ensures.view)
    is.1.mounts.sound)
