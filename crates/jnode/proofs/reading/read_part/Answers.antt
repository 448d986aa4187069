use Rattle.jnode.proofs.ReadingLemmas.{read_entry, read_inode, read_compressed}
use Rattle.jnode.proofs.reading.read_part.Goals as goal

pub returns-clause-entry : goal.returns-clause-entry
returns-clause-entry g c =
    read_entry g.E.Order.order c.args.rest.now c.rest_seen.result c.requires.good c.requires.words c.rest_seen.ensures

pub returns-clause-inode : goal.returns-clause-inode
returns-clause-inode g c =
    read_inode g.E.Order.order c.args.rest.now c.rest_seen.result c.requires.good c.requires.words c.rest_seen.ensures

pub returns-clause-compressed : goal.returns-clause-compressed
returns-clause-compressed g c =
    read_compressed g.E.Order.order c.args.rest.now c.rest_seen.result c.requires.good c.requires.words c.rest_seen.ensures
