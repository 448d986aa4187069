use Rattle.std.proofs.Common.{◌∙◌, ap, List}
use Rattle.jnode.specs.declared.node.Dirent.{Dirent}
use Rattle.jname.specs.Live.{highest}
use Rattle.jname.proofs.LiveLemmas.{highest-is}
use Rattle.jname.proofs.names.Names.highest.Goals as goal

pub returns : goal.returns
returns c =
    c.highest_of.ensures ∙ highest-is c.self.inside.directories c.self.invariant.0 c.args.dir
    ∙ ap (λ (given : List Dirent). highest given c.args.dir) c.self.view_is
