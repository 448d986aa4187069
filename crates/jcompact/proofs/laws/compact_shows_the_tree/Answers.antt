use Rattle.jcompact.proofs.CompactedLemmas.{compact_names, compact_objects, compact_paths, compact_reached}
use Rattle.jcompact.proofs.laws.compact_shows_the_tree.Goals as goal

pub returns-clause-paths : goal.returns-clause-paths
returns-clause-paths c e size image compact is text = compact_paths e size image compact is text

pub returns-clause-objects : goal.returns-clause-objects
returns-clause-objects c e size image compact is i leads = compact_objects e size image compact is i leads

pub returns-clause-rest : goal.returns-clause-rest
returns-clause-rest c e size image compact is = (compact_names e size image compact is, compact_reached e size image compact is)
