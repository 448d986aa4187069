use Rattle.std.proofs.Common.{◌≡◌, ◌%◌, ◌∙◌, ℕ, length, ap, arith}
use Rattle.jscan.proofs.PartLemmas.{block_length}
use Rattle.jexpand.proofs.SightedLemmas.{size_words}
use Rattle.jlog.proofs.ImageLemmas.{block_size}
use Rattle.jrests.proofs.opening.rest_in.Goals as goal

pub clear_last-requires-clause-words : goal.clear_last-requires-clause-words
clear_last-requires-clause-words g c =
    let size : ℕ = c.args.geometry.block in
    let long : length c.block_part.result ≡ size = ap length c.block_part.ensures ∙ block_length size c.args.image.now c.args.block in
    ap (λ (n : ℕ). n % 4) long ∙ size_words size c.requires.readable

pub clear_last-requires-clause-small : goal.clear_last-requires-clause-small
clear_last-requires-clause-small g c =
    let size : ℕ = c.args.geometry.block in
    let long : length c.block_part.result ≡ size = ap length c.block_part.ensures ∙ block_length size c.args.image.now c.args.block in
    omega (arith, long, (block_size size c.requires.readable).most)
