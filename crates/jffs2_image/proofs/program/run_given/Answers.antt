use Rattle.jffs2_image.proofs.program.run_given.Goals as goal

pub returns-in-Little : goal.returns-in-Little
returns-in-Little g c = c.run_command.ensures

pub returns-in-Big : goal.returns-in-Big
returns-in-Big g c = c.run_command-in-Big.ensures
