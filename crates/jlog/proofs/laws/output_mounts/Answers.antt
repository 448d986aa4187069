use Rattle.jlog.proofs.AnewLemmas.{output_is_image, output_is_sound, output_mounts}
use Rattle.jlog.proofs.laws.output_mounts.Goals as goal

pub returns-clause-image : goal.returns-clause-image
returns-clause-image c = output_is_image

pub returns-clause-sound : goal.returns-clause-sound
returns-clause-sound c = output_is_sound

pub returns-clause-mounts : goal.returns-clause-mounts
returns-clause-mounts c = output_mounts
