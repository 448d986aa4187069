use Rattle.std.proofs.Common.{ℕ, List, ◌++◌, ap, ◌∙◌, subst}
use Rattle.std.specs.Io.KnownBytes.{Appends}
use Rattle.std.specs.List.{flat_map}
use Rattle.flashbase.specs.Device.{PutsPart}
use Rattle.flashbase.specs.Lists.{below}
use Rattle.flashbase.proofs.DeviceLemmas.{first_failed, then_puts, then_failed, part_before}
use Rattle.jscan.specs.Image.{block_count}
use Rattle.jmap.specs.Picture.{block_row, picture_text, svg_end, svg_legend, svg_start}
use Rattle.jmap.proofs.picture.put_svg.Goals as goal

pub returns-in_err-put_two : goal.returns-in_err-put_two
unfolding picture_text
returns-in_err-put_two g c =
    let size = c.args.size in
    let image = c.args.image.now in
    let rows = flat_map (block_row g.E.Order.order size image c.args.kept.now c.args.paths.now) (below (block_count size image)) in
    let put = c.in_err-put_two.ensures in
    let start = ap (λ (l : List ℕ). l ++ svg_legend) (c.as_slice.ensures ∙ c.start_of_svg.ensures ∙ ap svg_start c.div_ceil-blocks.ensures) in
    first_failed _ _ _ _ (svg_start (block_count size image) ++ svg_legend) (rows ++ svg_end) _ c.from_residual.ensures.0
    (subst (PutsPart (g.T.Sink.taken c.args.sink.now) (g.T.Sink.taken c.put_two.new.sink)) start put.0) put.1

pub returns-in_err-put_rows : goal.returns-in_err-put_rows
unfolding picture_text
returns-in_err-put_rows g c =
    let size = c.args.size in
    let image = c.args.image.now in
    let rows = flat_map (block_row g.E.Order.order size image c.args.kept.now c.args.paths.now) (below (block_count size image)) in
    let first = c.in_ok-put_two.ensures in
    let put = c.in_err-put_rows.ensures in
    let start = ap (λ (l : List ℕ). l ++ svg_legend) (c.as_slice.ensures ∙ c.start_of_svg.ensures ∙ ap svg_start c.div_ceil-blocks.ensures) in
    then_failed _ (g.T.Sink.taken c.put_two.new.sink) _ _ (g.T.Sink.failures c.put_two.new.sink) _ (svg_start (block_count size image) ++ svg_legend) (rows ++ svg_end) _ c.from_residual-in_err-put_rows.ensures.0
    (subst (Appends (g.T.Sink.taken c.args.sink.now) (g.T.Sink.taken c.put_two.new.sink)) start first.0) first.1
    (part_before _ _ rows svg_end put.0) put.1

pub returns : goal.returns
unfolding picture_text
returns g c =
    let size = c.args.size in
    let image = c.args.image.now in
    let rows = flat_map (block_row g.E.Order.order size image c.args.kept.now c.args.paths.now) (below (block_count size image)) in
    let first = c.in_ok-put_two.ensures in
    let put = c.in_ok-put_rows.ensures in
    let start = ap (λ (l : List ℕ). l ++ svg_legend) (c.as_slice.ensures ∙ c.start_of_svg.ensures ∙ ap svg_start c.div_ceil-blocks.ensures) in
    then_puts _ (g.T.Sink.taken c.put_two.new.sink) _ _ (g.T.Sink.failures c.put_two.new.sink) _ (svg_start (block_count size image) ++ svg_legend) (rows ++ svg_end) _
    (subst (Appends (g.T.Sink.taken c.args.sink.now) (g.T.Sink.taken c.put_two.new.sink)) start first.0) first.1
    (then_puts _ (g.T.Sink.taken c.put_rows.new.sink) _ _ (g.T.Sink.failures c.put_rows.new.sink) _ rows svg_end _ put.0 put.1 c.put_text.ensures.puts)
