use Rattle.std.proofs.Common.{◌≡◌, ◌+◌, ℕ, List, drop, slice_index, length, ap, subst, ◌∙◌, arith}
use Rattle.jcollect.specs.Tiles.{tile_in}
use Rattle.jcollect.proofs.PutLemmas.{slice_left, slice_end}
use Rattle.jcollect.proofs.RoomLemmas.{Counting, flash_readable, flash_words, counting_next, counting_done, counting_bytes}
use Rattle.jcollect.proofs.room.bytes_needed.Goals as goal

pub loop-addr-preserved : goal.loop-addr-preserved
loop-addr-preserved g c =
    let e = g.E.Order.order in
    let size : ℕ = c.args.geometry.block in
    let addresses : List ℕ = c.args.addresses.now in
    let i : ℕ = c.loop-addr.addr-index in
    let addr : ℕ = slice_index addresses i in
    let long : c.len-len.result ≡ length (tile_in e size c.args.image.now addr) = c.len-len.ensures ∙ ap (λ (xs : List ℕ). length xs) c.tile_at.ensures.tile in
    counting_next e size c.args.blocks c.args.image.now addresses (drop i addresses) (drop (i + 1) addresses) addr c.len-len.result _ _ _ _
    (flash_words size c.args.blocks c.requires.flash) c.loop-addr.invariant (slice_left addresses i c.loop-addr-test.true) long (omega (arith, c.if-geometry-len.false))
    c.in-Ok.ensures.needed c.in-Ok.ensures.room

pub returns-in-Some-clause-room : goal.returns-in-Some-clause-room
returns-in-Some-clause-room g c =
    let addresses : List ℕ = c.args.addresses.now in
    let i : ℕ = c.loop-addr.addr-index in
    counting_done g.E.Order.order c.args.geometry.block c.args.blocks c.args.image.now addresses (drop i addresses) c.loop-addr.tally.needed c.in-Some.end
    (subst (Counting g.E.Order.order c.args.geometry.block c.args.blocks c.args.image.now addresses (drop i addresses) c.loop-addr.tally.needed) c.in-Some.is c.loop-addr.invariant)
    (slice_end addresses i c.loop-addr-test.false)

pub returns-in-Some-clause-bytes : goal.returns-in-Some-clause-bytes
returns-in-Some-clause-bytes g c =
    let addresses : List ℕ = c.args.addresses.now in
    let i : ℕ = c.loop-addr.addr-index in
    counting_bytes g.E.Order.order c.args.geometry.block c.args.blocks c.args.image.now addresses (drop i addresses) c.loop-addr.tally.needed c.in-Some.end
    (flash_readable c.args.geometry.block c.args.blocks c.requires.flash) c.requires.nodes
    (subst (Counting g.E.Order.order c.args.geometry.block c.args.blocks c.args.image.now addresses (drop i addresses) c.loop-addr.tally.needed) c.in-Some.is c.loop-addr.invariant)
    (slice_end addresses i c.loop-addr-test.false)
