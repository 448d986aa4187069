use Rattle.std.proofs.Common.{◌≡◌, ℕ, ◌+◌, List, ◌∷◌, ap, ◌∙◌, drop}
use Rattle.std.specs.BTreeSet.{contains}
use Rattle.std.specs.Ordering.{nat_cmp}
use Rattle.jnode.specs.declared.node.Seen.{Seen}
use Rattle.jexpand.specs.Expanded.{compressed_node_at}
use Rattle.jthrough.proofs.ViewLemmas.{refused_some, refused_none}
use Rattle.jlook.specs.Looked.{looked_by}
use Rattle.jlook.proofs.LookLemmas.{left_next, left_end, looking_start, looking_packed, looking_next, looking_refused, looking_end}
use Rattle.jlook.proofs.looking.look_over.Goals as goal

pub loop-tile-init : goal.loop-tile-init
loop-tile-init g c =
    looking_start (contains nat_cmp c.args.wanted.now) g.E.Order.order c.args.geometry.block c.args.image.now c.args.sighted.now.tiles.items c.new-look.result c.clear.new.self.items c.requires.sighted.tiles c.new-look.ensures c.clear.ensures.items

pub take_tile-requires-clause-sighted : goal.take_tile-requires-clause-sighted
take_tile-requires-clause-sighted g c =
    let i : ℕ = c.loop-tile.tile-index in
    let left : List (ℕ × Seen) = drop (i + 1) c.args.sighted.now.tiles.items in
    let first : drop i c.args.sighted.now.tiles.items ≡ c.tile-item.result ∷ left =
    left_next c.args.sighted.now.tiles.items c.deref-tile-items.result.now i c.tile-item.result c.deref-tile-items.ensures.value c.loop-tile-test.true c.tile-item.is in
    let shown : c.looked-seen.result ≡ looked_by (contains nat_cmp c.args.wanted.now) (compressed_node_at g.E.Order.order c.args.geometry.block c.args.image.now c.tile-item.result.0) c.tile-item.result.1 =
    c.looked-seen.ensures ∙ ap (looked_by (contains nat_cmp c.args.wanted.now) (compressed_node_at g.E.Order.order c.args.geometry.block c.args.image.now c.tile-item.result.0)) c.copied.ensures in
    looking_packed (contains nat_cmp c.args.wanted.now) g.E.Order.order c.args.geometry.block c.args.image.now _ left c.tile-item.result.0 c.tile-item.result.1 c.looked-seen.result c.loop-tile.look c.loop-tile.contents.items c.loop-tile.invariant first shown

pub returns-then-is_some : goal.returns-then-is_some
returns-then-is_some g c =
    let i : ℕ = c.loop-tile.tile-index in
    let left : List (ℕ × Seen) = drop (i + 1) c.args.sighted.now.tiles.items in
    let first : drop i c.args.sighted.now.tiles.items ≡ c.tile-item.result ∷ left =
    left_next c.args.sighted.now.tiles.items c.deref-tile-items.result.now i c.tile-item.result c.deref-tile-items.ensures.value c.loop-tile-test.true c.tile-item.is in
    let shown : c.looked-seen.result ≡ looked_by (contains nat_cmp c.args.wanted.now) (compressed_node_at g.E.Order.order c.args.geometry.block c.args.image.now c.tile-item.result.0) c.tile-item.result.1 =
    c.looked-seen.ensures ∙ ap (looked_by (contains nat_cmp c.args.wanted.now) (compressed_node_at g.E.Order.order c.args.geometry.block c.args.image.now c.tile-item.result.0)) c.copied.ensures in
    let why = refused_some c.take_tile.new.look.refused c.is_some.result c.is_some.ensures c.if-is_some.true in
    looking_refused (contains nat_cmp c.args.wanted.now) g.E.Order.order c.args.geometry.block c.args.image.now _ left c.tile-item.result.0 c.tile-item.result.1 c.looked-seen.result c.loop-tile.look c.take_tile.new.look c.loop-tile.contents.items c.take_tile.new.contents.items
    why.0 c.requires.sighted.scannable c.loop-tile.invariant first shown c.in_ok-take_tile.ensures why.1

pub loop-tile-preserved : goal.loop-tile-preserved
loop-tile-preserved g c =
    let i : ℕ = c.loop-tile.tile-index in
    let left : List (ℕ × Seen) = drop (i + 1) c.args.sighted.now.tiles.items in
    let first : drop i c.args.sighted.now.tiles.items ≡ c.tile-item.result ∷ left =
    left_next c.args.sighted.now.tiles.items c.deref-tile-items.result.now i c.tile-item.result c.deref-tile-items.ensures.value c.loop-tile-test.true c.tile-item.is in
    let shown : c.looked-seen.result ≡ looked_by (contains nat_cmp c.args.wanted.now) (compressed_node_at g.E.Order.order c.args.geometry.block c.args.image.now c.tile-item.result.0) c.tile-item.result.1 =
    c.looked-seen.ensures ∙ ap (looked_by (contains nat_cmp c.args.wanted.now) (compressed_node_at g.E.Order.order c.args.geometry.block c.args.image.now c.tile-item.result.0)) c.copied.ensures in
    looking_next (contains nat_cmp c.args.wanted.now) g.E.Order.order c.args.geometry.block c.args.image.now _ left c.tile-item.result.0 c.tile-item.result.1 c.looked-seen.result c.loop-tile.look c.take_tile.new.look c.loop-tile.contents.items c.take_tile.new.contents.items
    c.loop-tile.invariant first shown c.in_ok-take_tile.ensures (refused_none c.take_tile.new.look.refused c.is_some.result c.is_some.ensures c.if-is_some.false)

pub returns : goal.returns
returns g c =
    looking_end (contains nat_cmp c.args.wanted.now) g.E.Order.order c.args.geometry.block c.args.image.now _ c.loop-tile.look c.add_findings.new.self c.loop-tile.contents.items c.deref.result.now c.requires.sighted.scannable c.loop-tile.invariant
    (left_end c.args.sighted.now.tiles.items c.deref-tile-items.result.now c.loop-tile.tile-index c.deref-tile-items.ensures.value c.loop-tile-test.false)
    (c.deref.ensures.value ∙ c.requires.sighted.findings) c.in_ok-add_findings.ensures.found c.in_ok-add_findings.ensures.tiles c.in_ok-add_findings.ensures.read_only
    c.in_ok-add_findings.ensures.refused
