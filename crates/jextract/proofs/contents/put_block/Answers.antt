use Rattle.std.proofs.Common.{◌∙◌, sym}
use Rattle.jextract.proofs.ContentsLemmas.{block_put, zeros_put}
use Rattle.jextract.proofs.contents.put_block.Goals as goal

pub returns-then-is_zero-clause-adds : goal.returns-then-is_zero-clause-adds
returns-then-is_zero-clause-adds g c = zeros_put (g.W.FilledFile.cells c.args.file.now) c.args.hole c.args.block.now (sym c.is_zero.ensures ∙ c.if-is_zero.true)

pub returns-clause-adds : goal.returns-clause-adds
returns-clause-adds g c =
    block_put (g.W.FilledFile.cells c.args.file.now) (g.W.FilledFile.cells c.put_hole.new.file) (g.W.FilledFile.cells c.write.new.self) c.args.hole c.args.block.now
    (sym c.is_zero.ensures ∙ c.if-is_zero.false) c.in_ok-put_hole.ensures.adds c.in_ok-write.ensures.adds
