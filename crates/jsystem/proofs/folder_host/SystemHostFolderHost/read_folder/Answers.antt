use Rattle.jfolder.specs.Known.{nothing}
use Rattle.jsystem.proofs.FolderLemmas.{read_asked}
use Rattle.jsystem.proofs.folder_host.SystemHostFolderHost.read_folder.Goals as goal

pub returns-clause-asks : goal.returns-clause-asks
returns-clause-asks c = read_asked c.args.name.now c.args.quiet (λ _. nothing) c.folder_of.result c.folder_of.ensures.memory
