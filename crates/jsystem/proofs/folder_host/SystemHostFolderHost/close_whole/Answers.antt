use Rattle.jsystem.proofs.FolderLemmas.{whole_closed}
use Rattle.jsystem.proofs.folder_host.SystemHostFolderHost.close_whole.Goals as goal

pub returns : goal.returns
returns c = whole_closed c.args._name.now c.args._why _
