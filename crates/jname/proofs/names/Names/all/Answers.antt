use Rattle.std.proofs.Common.{◌∙◌, ap, List}
use Rattle.jnode.specs.declared.node.Dirent.{Dirent}
use Rattle.jname.specs.Live.{all_names}
use Rattle.jname.proofs.OrderLemmas.{names_within-is}
use Rattle.jname.proofs.names.Names.all.Goals as goal

pub returns : goal.returns
returns c =
    c.new.ensures ∙ names_within-is c.self.inside.directories c.self.invariant.0
    ∙ ap (λ (given : List Dirent). all_names given) c.self.view_is
