use Rattle.jsystem.proofs.FolderLemmas.{fill_asked}
use Rattle.jsystem.proofs.folder_host.SystemHostFolderHost.fill_folder.Goals as goal

pub returns-clause-asks : goal.returns-clause-asks
returns-clause-asks c = fill_asked c.args.name.now c.args.quiet _ c.filled_of.result c.filled_of.ensures.none c.filled_of.ensures.memory
