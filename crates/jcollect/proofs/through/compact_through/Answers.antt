use Rattle.std.proofs.Common.{ℕ, List, sym, subst}
use Rattle.jexpand.specs.Expanded.{unpacked_bytes}
use Rattle.jthrough.specs.View.{BeginWith, IsViewOf}
use Rattle.jthrough.proofs.AddressedLemmas.{view_holds_contents}
use Rattle.jcollect.proofs.through.compact_through.Goals as goal

pub compact_mounted-requires : goal.compact_mounted-requires
compact_mounted-requires g c =
    let e = g.E.Order.order in
    let size : ℕ = c.args.geometry.block in
    let is = c.in-Ok-mount_view.ensures in
    let image : List ℕ = c.in-Ok-mount_view.mounted.image in
    let held : List ℕ = c.view_image.new.contents.items in
    record {
      mount = is.1;
      contents = subst (BeginWith (unpacked_bytes e size image)) (sym c.deref-2.ensures.value)
          (view_holds_contents e size image held c.in-Ok.view (subst (λ (l : List ℕ). IsViewOf e size l held c.in-Ok.view) (sym is.0) c.in-Ok.ensures.view) is.1.mounts.sound);
    }
