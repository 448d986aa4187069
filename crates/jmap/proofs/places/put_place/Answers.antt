use Rattle.std.proofs.Common.{rules, ◌≡◌, ℕ, sym, subst}
use Rattle.flashbase.specs.Sinks.{PutsTo}
use Rattle.jnode.specs.declared.node.Seen.TheVariants as seen
use Rattle.jscan.specs.declared.extent.ExtentKind.{ExtentKind}
use Rattle.jscan.specs.declared.extent.ExtentKind.TheVariants.{Tiled}
use Rattle.jmap.specs.Places.{object_place, path_in, place_text}
use Rattle.jmap.proofs.places.put_place.Goals as goal

pub returns-in-Tiled-Compressed : goal.returns-in-Tiled-Compressed
returns-in-Tiled-Compressed g c =
    let s = c.args.extent.now in
    let put = c.put_object_place-in-Tiled-Compressed in
    let kind : s.kind ≡ Tiled (seen.Compressed c.in-Tiled-Compressed.field-0-0) = search rules in
    subst (λ (k : ExtentKind). PutsTo g.T.Sink c.args.sink.now put.new.sink (place_text g.E.Order.order c.args.image.now c.args.paths.now s.addr k) put.result) (sym kind)
    (subst (λ (n : ℕ). PutsTo g.T.Sink c.args.sink.now put.new.sink (object_place (path_in c.args.paths.now n)) put.result) c.inode_number.ensures put.ensures)
