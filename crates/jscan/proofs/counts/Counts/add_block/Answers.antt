use Rattle.std.proofs.Common.{arith}
use Rattle.jscan.specs.Counts.{is_entry_tile, is_inode_tile, is_found}
use Rattle.jscan.proofs.CountLemmas.{number_fits}
use Rattle.jscan.proofs.counts.Counts.add_block.Goals as goal

pub add-requires-clause-entries : goal.add-requires-clause-entries
add-requires-clause-entries g c =
    omega (arith, c.loop-extent.invariant.entries, number_fits is_entry_tile g.E.Order.order c.args.start c.args.block.now c.requires.whole_words, c.requires.entries)

pub add-requires-clause-inodes : goal.add-requires-clause-inodes
add-requires-clause-inodes g c =
    omega (arith, c.loop-extent.invariant.inodes, number_fits is_inode_tile g.E.Order.order c.args.start c.args.block.now c.requires.whole_words, c.requires.inodes)

pub add-requires-clause-findings : goal.add-requires-clause-findings
add-requires-clause-findings g c =
    omega (arith, c.loop-extent.invariant.findings, number_fits is_found g.E.Order.order c.args.start c.args.block.now c.requires.whole_words, c.requires.findings)
