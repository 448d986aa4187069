use Rattle.std.proofs.Common.{ap, ◌∙◌}
use Rattle.jmount.specs.Shown.{objects_in}
use Rattle.jmount.proofs.WalkLemmas.{shown_entries-is}
use Rattle.jmount.proofs.stored_tree.StoredTree.objects.Goals as goal

pub returns : goal.returns
returns c = c.new.ensures ∙ shown_entries-is c.self.inside.objects.now c.self.invariant ∙ ap objects_in c.self.view_is
