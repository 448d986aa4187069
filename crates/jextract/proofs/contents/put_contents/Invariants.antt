use Rattle.std.proofs.Common.{◌≡◌, ◌-◌}
use Rattle.jmount.specs.Shown.{readable}
use Rattle.jextract.specs.Filling.{HasBlocks}
use Rattle.jextract.proofs.contents.put_contents.Given as goal

abbrev pub invariant-loop-index : goal.invariant-loop-index
invariant-loop-index g l = record {
  placed : HasBlocks (g.W.FilledFile.cells l.fn.file) (g.W.FilledFile.cells l.file) (readable l.mounted.state l.ino) l.index l.hole;
  fault : g.W.FilledFile.fault l.file ≡ g.W.FilledFile.fault l.fn.file;
}

abbrev pub decreases-loop-index : goal.decreases-loop-index
decreases-loop-index g l = l.blocks - l.index
