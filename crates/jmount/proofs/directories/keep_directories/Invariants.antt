use Rattle.std.proofs.Common.{List}
use Rattle.std.specs.Ordering.{nat_cmp}
use Rattle.std.specs.BTreeMap.{IsOrdered}
use Rattle.jname.specs.Live.{all_names}
use Rattle.jmount.proofs.KeptLemmas.{Name, HasSame, HaveParents, KeepsSoFar}
use Rattle.jmount.proofs.SeveralLemmas.{NotesSeveral}
use Rattle.jmount.proofs.directories.keep_directories.Given as goal

abbrev pub invariant-loop-dir : goal.invariant-loop-dir
invariant-loop-dir l = record {
  can : (goal.iterator-loop-dir).can_next l.dir-iterator;
  finite : (goal.iterator-loop-dir).is_finite l.dir-iterator;
  parents : HaveParents l.dir-iterator;
  so_far : KeepsSoFar l.objects (all_names l.names) l.dir-iterator;
  several : (done : List Name) × NotesSeveral l.objects (all_names l.names) done l.dir-iterator l.several;
  same : HasSame l.fn.objects l.objects;
  ordered : IsOrdered nat_cmp l.objects;
}
