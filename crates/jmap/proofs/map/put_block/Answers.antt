use Rattle.std.proofs.Common.{◌*◌, ℕ, List, length, ap, arith, refl, ◌∙◌, subst}
use Rattle.flashbase.specs.Device.{Puts}
use Rattle.jscan.specs.Counts.{extents_below}
use Rattle.jscan.specs.Extents.{extents}
use Rattle.jscan.proofs.StreamCounts.{readable_some}
use Rattle.jmap.specs.ByteKinds.{byte_kinds}
use Rattle.jmap.proofs.BlockLemmas.{block_long, block_words}
use Rattle.jmap.proofs.MapLemmas.{always, bar_is_long, line_is, room_for_block, tally_next}
use Rattle.jmap.proofs.map.put_block.Goals as goal

pub survey-bar-requires-clause-some : goal.survey-bar-requires-clause-some
survey-bar-requires-clause-some g c =
    omega (arith, block_long c.args.size c.args.image.now c.args.k c.block_at.result (c.block_at.ensures c.args.k refl), readable_some c.args.size c.requires.size)

pub survey-bar-requires-clause-whole_words : goal.survey-bar-requires-clause-whole_words
survey-bar-requires-clause-whole_words g c =
    block_words c.args.size c.args.image.now c.args.k c.block_at.result (c.block_at.ensures c.args.k refl) c.requires.size

pub block_line-line-requires : goal.block_line-line-requires
block_line-line-requires g c =
    omega (
      arith,
      ap length (c.as_slice.ensures ∙ c.survey-bar.ensures.bar),
      bar_is_long (length c.block_at.result) (byte_kinds c.args.kept.now (extents g.E.Order.order (c.args.k * c.args.size) c.block_at.result)),
    )

pub add_all-requires : goal.add_all-requires
add_all-requires g c =
    let e = g.E.Order.order in
    let size = c.args.size in
    let image = c.args.image.now in
    let kept = c.args.kept.now in
    let k = c.args.k in
    let block : List ℕ = c.block_at.result in
    record {
      room = (
        byte_kinds kept (extents_below e size image k),
        byte_kinds kept (extents e (k * size) block),
        c.requires.total,
        c.survey-bar.ensures.tally,
        room_for_block e size image kept k block (c.block_at.ensures k refl) c.requires.size c.requires.small c.requires.next,
      );
    }

pub returns-clause-puts : goal.returns-clause-puts
returns-clause-puts g c =
    let e = g.E.Order.order in
    let size = c.args.size in
    let image = c.args.image.now in
    let kept = c.args.kept.now in
    let k = c.args.k in
    let line = c.as_slice-2.ensures ∙ c.block_line-line.ensures
    ∙ line_is e size image kept k c.block_at.result c.survey-bar.result.0 c.as_slice.result.now (c.block_at.ensures k refl) c.survey-bar.ensures.tally (c.as_slice.ensures ∙ c.survey-bar.ensures.bar) in
    subst (λ (l : List ℕ). Puts (g.T.Sink.taken c.args.sink.now) (g.T.Sink.taken c.put_text.new.sink) (g.T.Sink.failures c.args.sink.now)
    (g.T.Sink.failures c.put_text.new.sink) l c.put_text.result) line c.put_text.ensures.puts

pub returns-clause-total : goal.returns-clause-total
returns-clause-total g c =
    let e = g.E.Order.order in
    let size = c.args.size in
    let image = c.args.image.now in
    let kept = c.args.kept.now in
    let k = c.args.k in
    let block : List ℕ = c.block_at.result in
    always c.put_text.result
    (c.add_all.ensures (byte_kinds kept (extents_below e size image k)) (byte_kinds kept (extents e (k * size) block)) c.requires.total c.survey-bar.ensures.tally
    ∙ tally_next e size image kept k block (c.block_at.ensures k refl))
