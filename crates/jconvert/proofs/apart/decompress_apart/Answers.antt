use Rattle.std.proofs.Common.{rules, ◌≡◌, ◌∙◌, ℕ, List, Ok, length, refl, ap, subst}
use Rattle.jnode.specs.declared.node.NodeRef.{NodeRef}
use Rattle.jconvert.specs.Apart.{image_of_nodes, WritesNodes}
use Rattle.jconvert.specs.declared.converted.Converted.{Converted}
use Rattle.jconvert.proofs.ApartLemmas.{end_is_long}
use Rattle.jconvert.proofs.apart.decompress_apart.Goals as goal

pub returns-in-Ok-write_nodes-clause-ok : goal.returns-in-Ok-write_nodes-clause-ok
returns-in-Ok-write_nodes-clause-ok g c =
    let e = g.E.Order.order in
    let size : ℕ = c.args.geometry.block in
    let image : List ℕ = c.args.image.now in
    let stay : List NodeRef = c.in-Ok-part.parted.stay.items in
    let wrote : WritesNodes e size stay (record { old = g.S.Sink.taken c.args.sink; new = g.S.Sink.taken c.write_nodes.new.sink; before = g.S.Sink.failures c.args.sink; now = g.S.Sink.failures c.write_nodes.new.sink })
    (Ok c.in-Ok-write_nodes.bytes) =
    subst (λ (ns : List NodeRef). WritesNodes e size ns (record { old = g.S.Sink.taken c.args.sink; new = g.S.Sink.taken c.write_nodes.new.sink; before = g.S.Sink.failures c.args.sink; now = g.S.Sink.failures c.write_nodes.new.sink }) (Ok c.in-Ok-write_nodes.bytes)) c.deref-2.ensures.value c.in-Ok-write_nodes.ensures in
    let many : c.len.result ≡ length stay = search rules in (
      c.in-Ok.ensures.accepted,
      (
        image_of_nodes e size stay,
        record {
          stay = stay;
          parts = c.in-Ok-part.ensures.parts;
          room = wrote.0;
          out_is = refl;
          changed = ap (λ (t : Converted). t.changed) c.in-Ok.ensures.told;
          nodes = many;
          bytes = wrote.2 ∙ end_is_long e size image stay c.in-Ok-part.parted.left.items c.in-Ok.ensures.accepted c.in-Ok-part.ensures.parts;
        },
        wrote.1,
      ),
      wrote.3,
    )
