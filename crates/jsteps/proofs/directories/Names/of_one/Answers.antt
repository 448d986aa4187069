use Rattle.std.proofs.Common.{Some, refl}
use Rattle.jsteps.specs.declared.directories.Names.{Names}
use Rattle.jsteps.proofs.DirectoriesLemmas.{one_name}
use Rattle.jsteps.proofs.directories.Names.of_one.Goals as goal

pub returns : goal.returns
returns c =
    let names : Names = record { apart = Some (c.args.name, c.args.ino); others = c.new.result } in
    one_name names c.args.name c.args.ino refl c.new.ensures.empty
