use Rattle.std.proofs.Common.{◌∙◌, ap, List}
use Rattle.jnode.specs.declared.node.Dirent.{Dirent}
use Rattle.jname.specs.Live.{live}
use Rattle.jname.proofs.LiveLemmas.{live-is}
use Rattle.jname.proofs.names.Names.get.Goals as goal

pub returns : goal.returns
returns c =
    live-is c.self.inside.directories c.self.invariant.0 (c.args.dir, c.args.name.now) c.live_of.result c.live_of.ensures
    ∙ ap (λ (given : List Dirent). live given (c.args.dir, c.args.name.now)) c.self.view_is
