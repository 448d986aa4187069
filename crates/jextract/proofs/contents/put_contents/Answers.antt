use Rattle.std.proofs.Common.{arith, take, ◌∙◌, ◌*◌}
use Rattle.jmount.specs.Shown.{readable}
use Rattle.jmount.proofs.PieceLemmas.{piece_read}
use Rattle.jextract.proofs.ContentsLemmas.{all_added, blank_more, block_read, blocks_more}
use Rattle.jextract.proofs.contents.put_contents.Goals as goal

pub loop-index-preserved-then-blank-gt0 : goal.loop-index-preserved-then-blank-gt0
loop-index-preserved-then-blank-gt0 g c = record {
  placed = blank_more (g.W.FilledFile.cells c.args.file.now) (g.W.FilledFile.cells c.loop-index.file) (readable c.args.mounted.now.state c.args.ino) c.loop-index.index c.blank_blocks-blank.result
      c.loop-index.hole (c.blank_blocks-blank.ensures.within c.if-blank-gt0.true) c.blank_blocks-blank.ensures.zeros c.loop-index.invariant.placed;
  fault = c.loop-index.invariant.fault;
}

pub loop-index-preserved : goal.loop-index-preserved
loop-index-preserved g c =
    let bytes = readable c.args.mounted.now.state c.args.ino in
    let count = c.read_at-count.result in
    let whole = c.read_at-count.ensures.count ∙ omega (arith, c.if-blank-gt0.array_long) in
    let read = piece_read bytes c.loop-index.block c.read_at-count.new.out (c.loop-index.index * 4096) count 4096 whole c.read_at-count.ensures.bytes in
    record {
      placed = blocks_more (g.W.FilledFile.cells c.args.file.now) (g.W.FilledFile.cells c.loop-index.file) (g.W.FilledFile.cells c.put_block.new.file) bytes (take count c.read_at-count.new.out)
          c.loop-index.index c.loop-index.hole c.in_ok-hole.hole (omega (arith, c.requires, c.loop-index-test.true, c.blocks_of-blocks.ensures.least))
          (block_read bytes (take count c.read_at-count.new.out) c.loop-index.index count whole read) c.loop-index.invariant.placed c.in_ok-hole.ensures.adds;
      fault = c.in_ok-hole.ensures.fails ∙ c.loop-index.invariant.fault;
    }

pub returns-clause-adds : goal.returns-clause-adds
returns-clause-adds g c =
    all_added (g.W.FilledFile.cells c.args.file.now) (g.W.FilledFile.cells c.loop-index.file) (g.W.FilledFile.cells c.put_hole.new.file) (readable c.args.mounted.now.state c.args.ino)
    c.loop-index.index c.loop-index.hole c.put_hole.result (omega (arith, c.requires, c.loop-index-test.false, c.blocks_of-blocks.ensures.all)) c.loop-index.invariant.placed c.put_hole.ensures.adds
