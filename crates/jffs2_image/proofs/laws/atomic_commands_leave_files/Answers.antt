use Rattle.jffs2_image.proofs.RunLawLemmas.{atomic_commands_leave_files}
use Rattle.jffs2_image.proofs.laws.atomic_commands_leave_files.Goals as goal

pub returns : goal.returns
returns c = atomic_commands_leave_files
