use Rattle.std.proofs.Common.{Option}
use Rattle.clap.specs.Words.{Text}
use Rattle.jcommand.specs.Parsed.{command_view}
use Rattle.jedge.specs.Commands.{reported}
use Rattle.jedge.proofs.Steps.{does_at}
use Rattle.jffs2_image.specs.Running.{found_act}
use Rattle.jffs2_image.proofs.program.run_looked.Goals as goal

pub returns-in-Some : goal.returns-in-Some
returns-in-Some g c =
    let asked = command_view c.args.request.command in
    does_at (λ (image : Option Text). reported (found_act image asked)) c.in-Some.ensures c.run_found.ensures

pub returns-in-None : goal.returns-in-None
returns-in-None g c =
    let asked = command_view c.args.request.command in
    does_at (λ (image : Option Text). reported (found_act image asked)) c.in-None.ensures c.run_given.ensures
