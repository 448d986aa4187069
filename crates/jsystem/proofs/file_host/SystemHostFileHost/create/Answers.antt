use Rattle.std.specs.IoError.{error_kind}
use Rattle.jmakes.specs.Making.{wanted_file}
use Rattle.jsystem.proofs.MakingLemmas.{made_at, no_memory_to_make, not_made}
use Rattle.jsystem.proofs.file_host.SystemHostFileHost.create.Goals as goal

pub returns-in-Err-clause-act : goal.returns-in-Err-clause-act
returns-in-Err-clause-act c = not_made (wanted_file c.args.wanted) (error_kind c.in-Err.error) c.unmade.result c.unmade.ensures

pub returns-in-Ok-new-clause-act : goal.returns-in-Ok-new-clause-act
returns-in-Ok-new-clause-act c = made_at (wanted_file c.args.wanted) _ c.in-Ok.ensures

pub returns-in-Err-new-clause-act : goal.returns-in-Err-new-clause-act
returns-in-Err-new-clause-act c = no_memory_to_make (wanted_file c.args.wanted)
