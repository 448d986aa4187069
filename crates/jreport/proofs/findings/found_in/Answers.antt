use Rattle.std.proofs.Common.{rules, ◌≡◌, ◌<◌, ◌%◌, ℕ, length, arith, ap, refl, ◌∙◌}
use Rattle.jscan.specs.Counts.{extents_below}
use Rattle.jscan.specs.Image.{block_count}
use Rattle.jscan.proofs.StreamCounts.{readable_words}
use Rattle.jreport.specs.declared.findings.Found.{Found}
use Rattle.jreport.proofs.BlockLemmas.{block_begins, block_size_is, length_block_of, length_extents_below}
use Rattle.jreport.proofs.FoundLemmas.{attributes_few, noted_few, found_of_block}
use Rattle.jreport.proofs.findings.found_in.Goals as goal

pub found_in_block-found-requires-clause-whole_words : goal.found_in_block-found-requires-clause-whole_words
found_in_block-found-requires-clause-whole_words g c =
    let size = c.args.geometry.block in
    let len : length c.block_at.result ≡ size = ap length (c.block_at.ensures c.loop-k.k refl) ∙ length_block_of size c.args.image.now c.loop-k.k in
    ap (λ (n : ℕ). n % 4) len ∙ readable_words size c.requires.0

pub overflow_add-all : goal.overflow_add-all
overflow_add-all g c =
    let size = c.args.geometry.block in
    let k = c.loop-k.k in
    let image = c.args.image.now in
    let len : length c.block_at.result ≡ size = ap length (c.block_at.ensures k refl) ∙ length_block_of size image k in
    let next : k < block_count size image = search rules in
    let sizes = block_size_is size c.requires.0 in
    let begins = block_begins size (length image) k (omega (arith, sizes.0)) next in
    let so_far = noted_few (extents_below g.E.Order.order size image k) in
    omega (arith, ap (λ (r : Found). r.noted) c.loop-k.invariant, so_far, length_extents_below g.E.Order.order size image k, begins, c.requires.1, c.found_in_block-found.ensures.noted, len, sizes.1)

pub overflow_add-all-in-loop-k : goal.overflow_add-all-in-loop-k
overflow_add-all-in-loop-k g c =
    let size = c.args.geometry.block in
    let k = c.loop-k.k in
    let image = c.args.image.now in
    let len : length c.block_at.result ≡ size = ap length (c.block_at.ensures k refl) ∙ length_block_of size image k in
    let next : k < block_count size image = search rules in
    let sizes = block_size_is size c.requires.0 in
    let begins = block_begins size (length image) k (omega (arith, sizes.0)) next in
    let so_far = attributes_few (extents_below g.E.Order.order size image k) in
    omega (arith, ap (λ (r : Found). r.attributes) c.loop-k.invariant, so_far, length_extents_below g.E.Order.order size image k, begins, c.requires.1, c.found_in_block-found.ensures.attributes, len, sizes.1)

pub loop-k-preserved : goal.loop-k-preserved
loop-k-preserved g c =
    found_of_block g.E.Order.order c.args.geometry.block c.args.image.now c.loop-k.k c.block_at.result c.loop-k.all c.found_in_block-found.result
    (c.block_at.ensures c.loop-k.k refl) c.loop-k.invariant c.found_in_block-found.ensures.found
