use Rattle.std.proofs.Common.{◌≡◌, ◌+◌, ℕ, List, ◌++◌, length, sym, ap, ap₂, subst, ◌∙◌, arith}
use Rattle.flashbase.specs.Bytes.{pad4_of}
use Rattle.flashbase.specs.Device.{Puts}
use Rattle.flashbase.proofs.DeviceLemmas.{first_failed, then_failed}
use Rattle.jexpand.proofs.SightedLemmas.{size_some}
use Rattle.jlog.specs.Output.{gap}
use Rattle.jlog.specs.Places.{place_after}
use Rattle.jlog.proofs.PlaceLemmas.{pad4_same}
use Rattle.jcollect.specs.Tiles.{tile_in}
use Rattle.jcollect.proofs.NodeLemmas.{node_is_tile}
use Rattle.jcollect.proofs.RoomLemmas.{place_up}
use Rattle.jcollect.proofs.TileLemmas.{tile_words}
use Rattle.jcollect.proofs.writing.put_tile.Goals as goal

pub put_gap-requires-clause-up : goal.put_gap-requires-clause-up
put_gap-requires-clause-up g c =
    let least = size_some c.args.geometry.block c.requires.readable in
    let up = place_up c.args.geometry.block c.args.from c.len-len.result (omega (arith, least)) in
    omega (arith, up, c.place_after-at.ensures.place)

pub returns-in_err-put_gap-clause-puts : goal.returns-in_err-put_gap-clause-puts
returns-in_err-put_gap-clause-puts g c =
    let e = g.E.Order.order in
    let size : ℕ = c.args.geometry.block in
    let tile : List ℕ = tile_in e size c.args.image.now c.args.addr in
    let long : c.len-len.result ≡ length tile = c.len-len.ensures ∙ ap (λ (xs : List ℕ). length xs) c.tile_at-tile.ensures.tile in
    let at : c.place_after-at.result ≡ place_after size c.args.from (length tile) = c.place_after-at.ensures.place ∙ ap (place_after size c.args.from) long in
    let put = c.in_err-put_gap.ensures in
    subst (λ (a : ℕ). Puts (g.S.Sink.taken c.args.sink.now) (g.S.Sink.taken c.put_gap.new.sink) (g.S.Sink.failures c.args.sink.now) (g.S.Sink.failures c.put_gap.new.sink)
    (gap e size c.args.from a ++ tile) c.from_residual.result) at
    (first_failed _ _ _ _ (gap e size c.args.from c.place_after-at.result) tile _ c.from_residual.ensures.0 put.0 put.1)

pub returns-in_err-put_part-clause-puts : goal.returns-in_err-put_part-clause-puts
returns-in_err-put_part-clause-puts g c =
    let e = g.E.Order.order in
    let size : ℕ = c.args.geometry.block in
    let tile : List ℕ = tile_in e size c.args.image.now c.args.addr in
    let long : c.len-len.result ≡ length tile = c.len-len.ensures ∙ ap (λ (xs : List ℕ). length xs) c.tile_at-tile.ensures.tile in
    let at : c.place_after-at.result ≡ place_after size c.args.from (length tile) = c.place_after-at.ensures.place ∙ ap (place_after size c.args.from) long in
    let first = c.in_ok-put_gap.ensures in
    let put = c.in_err-put_part.ensures in
    subst (λ (a : ℕ). Puts (g.S.Sink.taken c.args.sink.now) (g.S.Sink.taken c.put_part.new.sink) (g.S.Sink.failures c.args.sink.now) (g.S.Sink.failures c.put_part.new.sink)
    (gap e size c.args.from a ++ tile) c.from_residual-in_err-put_part.result) at
    (subst (λ (t : List ℕ). Puts (g.S.Sink.taken c.args.sink.now) (g.S.Sink.taken c.put_part.new.sink) (g.S.Sink.failures c.args.sink.now) (g.S.Sink.failures c.put_part.new.sink)
    (gap e size c.args.from c.place_after-at.result ++ t) c.from_residual-in_err-put_part.result) c.tile_at-tile.ensures.tile
    (then_failed _ (g.S.Sink.taken c.put_gap.new.sink) _ _ _ _ (gap e size c.args.from c.place_after-at.result) c.tile_at-tile.result _ c.from_residual-in_err-put_part.ensures.0 first.0 first.1 put.0 put.1))

pub returns-clause-next : goal.returns-clause-next
returns-clause-next g c =
    let e = g.E.Order.order in
    let size : ℕ = c.args.geometry.block in
    let tile : List ℕ = tile_in e size c.args.image.now c.args.addr in
    let long : c.len-len.result ≡ length tile = c.len-len.ensures ∙ ap (λ (xs : List ℕ). length xs) c.tile_at-tile.ensures.tile in
    let at : c.place_after-at.result ≡ place_after size c.args.from (length tile) = c.place_after-at.ensures.place ∙ ap (place_after size c.args.from) long in
    let padded : pad4_of (length tile) ≡ length tile = pad4_same (length tile) (tile_words e tile (node_is_tile e size c.args.image.now c.args.addr c.requires.readable c.requires.sighted)) in
    ap₂ (λ (a n : ℕ). a + n) at (long ∙ sym padded)
