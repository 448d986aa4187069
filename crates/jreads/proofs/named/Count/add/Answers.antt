use Rattle.std.proofs.Common.{[], refl, rules}
use Rattle.jbuild.specs.HostFiles.{read_of}
use Rattle.jreads.proofs.CountLemmas.{one_counted}
use Rattle.jreads.proofs.named.Count.add.Goals as goal

pub returns : goal.returns
returns c = λ files count.
    one_counted (read_of c.args.self.now.files) (read_of c.insert.new.self) c.args.self.now.left _
    files c.args.name.now [] c.args.length (search rules) c.requires refl count
