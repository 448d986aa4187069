use Rattle.std.proofs.Common.{◌+◌, arith}
use Rattle.jfrag.specs.Overlays.{byte_at}
use Rattle.jfrag.specs.IntervalMap.{seen}
use Rattle.jfrag.specs.Layouts.{laid_at}
use Rattle.jfrag.proofs.OverlaysLemmas.{filled}
use Rattle.jfrag.proofs.frag.FragOverlayOverlay.read_at.Goals as goal

pub returns : goal.returns
returns c =
    filled c.read.new.out c.args.out.now (λ k. byte_at (seen (laid_at c.args.self.now.layout (c.args.place + k)) (c.args.place + k))) (omega arith)
    (λ k l. c.read.ensures k l)
