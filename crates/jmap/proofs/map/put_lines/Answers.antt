use Rattle.std.proofs.Common.{◌≡◌, ℕ, List, ◌++◌, ap, ◌∙◌, subst}
use Rattle.std.specs.List.{flat_map}
use Rattle.flashbase.specs.Device.{Puts}
use Rattle.flashbase.specs.Lists.{below}
use Rattle.flashbase.proofs.DeviceLemmas.{first_failed, then_puts, then_failed, part_before}
use Rattle.jscan.specs.Image.{block_count}
use Rattle.jscan.specs.Scans.{image_extents}
use Rattle.jmap.specs.ByteKinds.{byte_kinds, tally_of}
use Rattle.jmap.specs.MapText.{block_map, map_heading, map_text, map_total}
use Rattle.jmap.proofs.map.put_lines.Goals as goal

pub returns-in_err-put_text : goal.returns-in_err-put_text
unfolding map_text
returns-in_err-put_text g c =
    let e = g.E.Order.order in
    let size = c.args.size in
    let image = c.args.image.now in
    let kept = c.args.kept.now in
    let rows = flat_map (block_map e size image kept) (below (block_count size image)) in
    let put = c.in_err-put_text.ensures.puts in
    first_failed _ _ _ _ map_heading (rows ++ map_total (tally_of (byte_kinds kept (image_extents e size image)))) _ c.from_residual.ensures.0 put.0 put.1

pub returns-in_err-total : goal.returns-in_err-total
unfolding map_text
returns-in_err-total g c =
    let e = g.E.Order.order in
    let size = c.args.size in
    let image = c.args.image.now in
    let kept = c.args.kept.now in
    let rows = flat_map (block_map e size image kept) (below (block_count size image)) in
    let total = map_total (tally_of (byte_kinds kept (image_extents e size image))) in
    let first = c.in_ok-put_text.ensures.puts in
    let put = c.in_err-total.ensures.puts in
    then_failed _ (g.T.Sink.taken c.put_text.new.sink) _ _ (g.T.Sink.failures c.put_text.new.sink) _ map_heading (rows ++ total) _ c.from_residual-in_err-total.ensures.0
    first.0 first.1 (part_before _ _ rows total put.0) put.1

pub returns : goal.returns
unfolding map_text
returns g c =
    let e = g.E.Order.order in
    let size = c.args.size in
    let image = c.args.image.now in
    let kept = c.args.kept.now in
    let rows = flat_map (block_map e size image kept) (below (block_count size image)) in
    let total = map_total (tally_of (byte_kinds kept (image_extents e size image))) in
    let first = c.in_ok-put_text.ensures.puts in
    let put = c.in_ok-total.ensures.puts in
    let last : c.as_slice.result.now ≡ total = c.as_slice.ensures ∙ c.total_line.ensures ∙ ap map_total c.in_ok-total.ensures.total in
    then_puts _ (g.T.Sink.taken c.put_text.new.sink) _ _ (g.T.Sink.failures c.put_text.new.sink) _ map_heading (rows ++ total) _ first.0 first.1
    (then_puts _ (g.T.Sink.taken c.put_blocks.new.sink) _ _ (g.T.Sink.failures c.put_blocks.new.sink) _ rows total _ put.0 put.1
    (subst (λ (l : List ℕ). Puts (g.T.Sink.taken c.put_blocks.new.sink) (g.T.Sink.taken c.put_text-2.new.sink) (g.T.Sink.failures c.put_blocks.new.sink)
    (g.T.Sink.failures c.put_text-2.new.sink) l c.put_text-2.result) last c.put_text-2.ensures.puts))
