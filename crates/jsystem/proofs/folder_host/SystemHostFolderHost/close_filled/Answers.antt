use Rattle.jsystem.proofs.FolderLemmas.{filled_closed}
use Rattle.jsystem.proofs.folder_host.SystemHostFolderHost.close_filled.Goals as goal

pub returns : goal.returns
returns c = λ made told. filled_closed c.args._name.now made c.args._why c.of_kind.result
