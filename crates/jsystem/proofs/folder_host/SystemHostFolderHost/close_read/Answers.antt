use Rattle.jsystem.proofs.FolderLemmas.{read_closed}
use Rattle.jsystem.proofs.folder_host.SystemHostFolderHost.close_read.Goals as goal

pub returns : goal.returns
returns c = read_closed c.args._name.now c.args._why c.of_kind.result
