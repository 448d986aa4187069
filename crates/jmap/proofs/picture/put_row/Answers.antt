use Rattle.std.proofs.Common.{ℕ, List, ◌*◌, ◌++◌, ap, refl, ◌∙◌, subst}
use Rattle.std.specs.Io.KnownBytes.{Appends}
use Rattle.std.specs.List.{flat_map}
use Rattle.flashbase.specs.Device.{PutsPart}
use Rattle.flashbase.proofs.DeviceLemmas.{first_failed, then_puts, then_failed, part_before}
use Rattle.jscan.specs.Counts.{extents_of_block}
use Rattle.jscan.specs.Extents.{extents}
use Rattle.jmap.specs.Picture.{block_row, rect_text, svg_row_start, svg_end}
use Rattle.jmap.proofs.BlockLemmas.{block_words}
use Rattle.jmap.proofs.picture.put_row.Goals as goal

pub put_rects-requires-clause-whole_words : goal.put_rects-requires-clause-whole_words
put_rects-requires-clause-whole_words g c =
    block_words c.args.size c.args.image.now c.args.k c.block_at.result (c.block_at.ensures c.args.k refl) c.requires.size

pub returns-in_err-put_text : goal.returns-in_err-put_text
unfolding block_row
returns-in_err-put_text g c =
    let e = g.E.Order.order in
    let size = c.args.size in
    let image = c.args.image.now in
    let k = c.args.k in
    let rects = flat_map (rect_text e image (k * size) c.args.kept.now c.args.paths.now) (extents_of_block e size image k) in
    let put = c.in_err-put_text.ensures.puts in
    let start = c.as_slice.ensures ∙ c.start_of_row.ensures in
    first_failed _ _ _ _ (svg_row_start size k) (rects ++ svg_end) _ c.from_residual.ensures.0
    (subst (PutsPart (g.T.Sink.taken c.args.sink.now) (g.T.Sink.taken c.put_text.new.sink)) start put.0) put.1

pub returns-in_err-put_rects : goal.returns-in_err-put_rects
unfolding block_row
returns-in_err-put_rects g c =
    let e = g.E.Order.order in
    let size = c.args.size in
    let image = c.args.image.now in
    let k = c.args.k in
    let f = rect_text e image (k * size) c.args.kept.now c.args.paths.now in
    let rects = flat_map f (extents_of_block e size image k) in
    let first = c.in_ok-put_text.ensures.puts in
    let put = c.in_err-put_rects.ensures in
    let start = c.as_slice.ensures ∙ c.start_of_row.ensures in
    let same = ap (λ (l : List ℕ). flat_map f (extents e (k * size) l)) (c.block_at.ensures k refl) in
    then_failed _ (g.T.Sink.taken c.put_text.new.sink) _ _ (g.T.Sink.failures c.put_text.new.sink) _ (svg_row_start size k) (rects ++ svg_end) _ c.from_residual-in_err-put_rects.ensures.0
    (subst (Appends (g.T.Sink.taken c.args.sink.now) (g.T.Sink.taken c.put_text.new.sink)) start first.0) first.1
    (part_before _ _ rects svg_end (subst (PutsPart (g.T.Sink.taken c.put_text.new.sink) (g.T.Sink.taken c.put_rects.new.sink)) same put.0)) put.1

pub returns : goal.returns
unfolding block_row
returns g c =
    let e = g.E.Order.order in
    let size = c.args.size in
    let image = c.args.image.now in
    let k = c.args.k in
    let f = rect_text e image (k * size) c.args.kept.now c.args.paths.now in
    let rects = flat_map f (extents_of_block e size image k) in
    let first = c.in_ok-put_text.ensures.puts in
    let put = c.in_ok-put_rects.ensures in
    let start = c.as_slice.ensures ∙ c.start_of_row.ensures in
    let same = ap (λ (l : List ℕ). flat_map f (extents e (k * size) l)) (c.block_at.ensures k refl) in
    then_puts _ (g.T.Sink.taken c.put_text.new.sink) _ _ (g.T.Sink.failures c.put_text.new.sink) _ (svg_row_start size k) (rects ++ svg_end) _
    (subst (Appends (g.T.Sink.taken c.args.sink.now) (g.T.Sink.taken c.put_text.new.sink)) start first.0) first.1
    (then_puts _ (g.T.Sink.taken c.put_rects.new.sink) _ _ (g.T.Sink.failures c.put_rects.new.sink) _ rects svg_end _
    (subst (Appends (g.T.Sink.taken c.put_text.new.sink) (g.T.Sink.taken c.put_rects.new.sink)) same put.0) put.1 c.put_text-2.ensures.puts)
