use Rattle.std.proofs.Common.{◌≡◌, ℕ, sym, subst, arith}
use Rattle.jscan.specs.Blank.{AreBlankFrom}
use Rattle.jscan.specs.Image.{block_count}
use Rattle.jscan.proofs.BlankCalls.{blank_past}
use Rattle.jscan.proofs.StreamCounts.{readable_some}
use Rattle.jscan.proofs.blank.blank_from.Goals as goal

pub loop-first-init : goal.loop-first-init
loop-first-init g c =
    let e = g.E.Order.order in
    let size = c.args.geometry.block in
    let some = readable_some size c.requires.readable in
    let count : c.div_ceil-first.result ≡ block_count size c.args.image.now = c.div_ceil-first.ensures in
    record {
      blank = subst (λ (b : ℕ). AreBlankFrom e size c.args.image.now c.args.blocks b) (sym count)
          (blank_past e size c.args.image.now c.args.blocks (omega (arith, some)) c.requires.within);
      few = omega arith;
    }
