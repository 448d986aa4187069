use Rattle.jmount.specs.Tree.{all_entries}
use Rattle.jcalls.proofs.TreeLemmas.{AreAdded}
use Rattle.jcalls.proofs.naming.names_of.Given as goal

abbrev pub invariant-loop-directory : goal.invariant-loop-directory
invariant-loop-directory l = record {
  can : (goal.iterator-loop-directory).can_next l.directory-iterator;
  finite : (goal.iterator-loop-directory).is_finite l.directory-iterator;
  added : AreAdded l.mounted.state (all_entries l.mounted.state) l.directory-iterator l.names.rows.items l.names.bytes.items;
}
