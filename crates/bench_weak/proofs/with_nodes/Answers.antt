use Rattle.std.proofs.Common.{inl}
use Rattle.jnode.proofs.StoredLemmas.{written_inode}
use Rattle.bench_weak.proofs.with_nodes.Goals as goal

pub work_on-requires-clause-first : goal.work_on-requires-clause-first
work_on-requires-clause-first c =
    inl (written_inode _ _ _ _ _ c.deref-in-Ok-write_inode.ensures.value c.in-Ok.ensures.ok c.new-first.ensures.items c.in-Ok.ensures.fits c.in-Ok.ensures.writable)

pub work_on-requires-clause-second : goal.work_on-requires-clause-second
work_on-requires-clause-second c =
    inl (written_inode _ _ _ _ _ c.deref-in-Ok-write_inode-2.ensures.value c.in-Ok-write_inode.ensures.ok c.new-second.ensures.items c.in-Ok-write_inode.ensures.fits c.in-Ok-write_inode.ensures.writable)
