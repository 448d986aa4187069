use Rattle.jsystem.proofs.ReadingLemmas.{measured}
use Rattle.jsystem.proofs.files_host.SystemHostFilesHost.length.Goals as goal

pub returns-in-Ok : goal.returns-in-Ok
returns-in-Ok c = measured c.args.name.now c.known_length.result

pub returns-in-Err : goal.returns-in-Err
returns-in-Err c = measured c.args.name.now 0
