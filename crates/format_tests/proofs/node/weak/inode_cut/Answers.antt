use Rattle.std.proofs.Common.{inl}
use Rattle.jnode.proofs.StoredLemmas.{written_inode}
use Rattle.format_tests.proofs.node.weak.inode_cut.Goals as goal

pub weak_cut-requires : goal.weak_cut-requires
weak_cut-requires g c =
    inl (written_inode _ _ _ _ _ c.deref.ensures.value c.in-Ok.ensures.ok c.new-out.ensures.items c.in-Ok.ensures.fits c.in-Ok.ensures.writable)
