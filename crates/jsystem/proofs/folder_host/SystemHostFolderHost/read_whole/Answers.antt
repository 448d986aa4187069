use Rattle.jsystem.proofs.FolderLemmas.{asked_to_read, no_memory_to_read}
use Rattle.jsystem.proofs.folder_host.SystemHostFolderHost.read_whole.Goals as goal

pub returns-in-Ok-clause-asks : goal.returns-in-Ok-clause-asks
returns-in-Ok-clause-asks c = asked_to_read c.args.name.now c.args.quiet _

pub returns-in-Err-clause-asks : goal.returns-in-Err-clause-asks
returns-in-Err-clause-asks c = rw c.in-Err.ensures.memory (no_memory_to_read c.args.name.now c.args.quiet)
