use Rattle.std.proofs.Common.{◌≡◌, ◌*◌, ◌<◌, ◌/◌, ℕ, List, [], length, get_or, drop, ap, refl, sym, ◌∙◌, arith}
use Rattle.flashbase.specs.Crc.{crc_after}
use Rattle.flashbase.proofs.ChunkLemmas.{crc_after-chunk, crc_after-rest}
use Rattle.flashbase.proofs.checksum.push_short.Goals as goal

pub loop-chunk-init : goal.loop-chunk-init
unfolding crc_after
loop-chunk-init c = refl

pub loop-chunk-preserved : goal.loop-chunk-preserved
loop-chunk-preserved c =
    let within : c.loop-chunk.chunk-index < length c.args.bytes.now / 8 = omega (arith, c.as_chunks.ensures.front_len) in
    c.push_eight-remainder.ensures
    ∙ ap (λ (chunks : List (List ℕ)). crc_after c.loop-chunk.remainder (get_or chunks c.loop-chunk.chunk-index [])) c.as_chunks.ensures.front
    ∙ crc_after-chunk 8 c.args.start c.loop-chunk.chunk-index (length c.args.bytes.now / 8) c.loop-chunk.remainder c.args.bytes.now within c.loop-chunk.invariant

pub returns : goal.returns
returns c =
    let all : c.loop-chunk.chunk-index ≡ length c.args.bytes.now / 8 = omega (arith, c.as_chunks.ensures.front_len) in
    c.push_each.ensures
    ∙ ap (crc_after c.loop-chunk.remainder) (c.as_chunks.ensures.back ∙ ap (λ (k : ℕ). drop (k * 8) c.args.bytes.now) (sym all))
    ∙ crc_after-rest c.args.start (c.loop-chunk.chunk-index * 8) c.loop-chunk.remainder c.args.bytes.now c.loop-chunk.invariant
