use Rattle.std.proofs.Common.{Bool, ◌&&◌, sym, ap, ◌∙◌}
use Rattle.jinfo.specs.BlockSizes.{is_multiple}
use Rattle.jinfo.proofs.SizeLemmas.{common_multiple, marker_is}
use Rattle.jinfo.proofs.sizes.common_with.Goals as goal

pub returns-then-is_marker : goal.returns-then-is_marker
returns-then-is_marker c =
    let s = c.args.extent.now in
    λ size. common_multiple c.args.common s.addr c.common_divisor.result size c.common_divisor.ensures
    ∙ ap (λ (b : Bool). is_multiple c.args.common size && b) (sym (marker_is size s (sym c.is_marker.ensures ∙ c.if-is_marker.true)))
