use Rattle.std.proofs.Common.{◌≡◌, ◌*◌, ◌%◌, ◌++◌, ℕ, List, length, ap, sym, refl, ◌∙◌, subst, arith}
use Rattle.std.specs.Prelude.{IfSome}
use Rattle.flashbase.specs.Device.{Puts}
use Rattle.jscan.specs.Counts.{extents_below}
use Rattle.jscan.specs.Extents.{extents}
use Rattle.jscan.specs.Image.{block_of}
use Rattle.jscan.specs.PartialScans.{HasScanned}
use Rattle.jscan.specs.declared.extent.Extent.{Extent}
use Rattle.jscan.proofs.StreamCounts.{readable_words}
use Rattle.jscan.proofs.TakeLemmas.{if_ok}
use Rattle.jreport.proofs.BlockLemmas.{room_for_block, block_text, block_counts, extents_below_more, length_block_of}
use Rattle.jreport.proofs.report.put_block_of.Goals as goal

pub put_part-requires-clause-whole_words : goal.put_part-requires-clause-whole_words
put_part-requires-clause-whole_words g c =
    let len : length c.block_at.result ≡ c.args.size = ap length (c.block_at.ensures c.args.k refl) ∙ length_block_of c.args.size c.args.image.now c.args.k in
    ap (λ (n : ℕ). n % 4) len ∙ readable_words c.args.size c.requires.size

pub put_part-requires-clause-room : goal.put_part-requires-clause-room
put_part-requires-clause-room g c =
    let len : length c.block_at.result ≡ c.args.size = ap length (c.block_at.ensures c.args.k refl) ∙ length_block_of c.args.size c.args.image.now c.args.k in
    room_for_block g.E.Order.order c.args.size c.args.image.now c.args.k (length c.block_at.result) c.args.counts.now c.requires.counts c.requires.size c.requires.small c.requires.next (omega (arith, len))

pub returns-clause-puts : goal.returns-clause-puts
returns-clause-puts g c =
    let text = block_text g.E.Order.order c.args.size c.args.image.now c.args.k c.args.counts.now c.block_at.result c.requires.counts (c.block_at.ensures c.args.k refl) in
    subst (λ (l : List ℕ). Puts (g.T.Sink.taken c.args.sink.now) (g.T.Sink.taken c.put_part.new.sink) (g.T.Sink.failures c.args.sink.now)
    (g.T.Sink.failures c.put_part.new.sink) l c.put_part.result) text c.put_part.ensures.puts

pub returns-clause-counts : goal.returns-clause-counts
returns-clause-counts g c =
    let more = block_counts g.E.Order.order c.args.size c.args.image.now c.args.k c.args.counts.now c.block_at.result c.requires.counts (c.block_at.ensures c.args.k refl) in
    if_ok c.put_part.result c.put_part.ensures.counts (λ is. is ∙ more)

pub returns-clause-scan : goal.returns-clause-scan
returns-clause-scan g c =
    let e = g.E.Order.order in
    let size = c.args.size in
    let image = c.args.image.now in
    let k = c.args.k in
    let here : extents e (k * size) c.block_at.result ≡ extents e (k * size) (block_of size image k) = ap (extents e (k * size)) (c.block_at.ensures k refl) in
    let more = ap (λ (l : List Extent). extents_below e size image k ++ l) here ∙ sym (extents_below_more e size image k) in
    if_ok c.put_part.result (c.put_part.ensures.scan (extents_below e size image k) c.requires.scan)
    (λ has. subst (λ (l : List Extent). IfSome c.put_part.new.partial (HasScanned l)) more has)
