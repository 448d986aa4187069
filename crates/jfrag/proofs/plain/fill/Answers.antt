use Rattle.std.proofs.Common.{arith, ◌≢◌, ◌∙◌, ap, ◌+◌, ◌<◌, length, below_more, get_or-set_same, get_or-set_other}
use Rattle.jfrag.specs.Overlays.{byte_at}
use Rattle.jfrag.proofs.OverlaysLemmas.{byte_capped}
use Rattle.jfrag.proofs.plain.fill.Goals as goal

pub loop-k-preserved : goal.loop-k-preserved
loop-k-preserved c = below_more _ _
    (λ j h. let ne : j ≢ c.loop-k.k = omega arith in rw get_or-set_other (c.loop-k.invariant j h))
    (let lt : c.loop-k.k < length c.loop-k.out = omega arith in rw get_or-set_same (c.byte_at.ensures ∙ ap byte_at c.visible_in-there.ensures ∙ byte_capped c.args.pieces.now (c.args.place + c.loop-k.k) c.saturating_add.result c.requires c.saturating_add.ensures))
