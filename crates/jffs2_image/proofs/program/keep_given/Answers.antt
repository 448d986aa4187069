use Rattle.std.proofs.Common.{Option, Some, refl}
use Rattle.clap.specs.Words.{Text}
use Rattle.jcommand.specs.Parsed.{command_view}
use Rattle.jcommand.specs.Requests.{file_made}
use Rattle.jedge.proofs.Steps.{answered, does_at}
use Rattle.jffs2_image.specs.Running.{keeps_file}
use Rattle.jffs2_image.proofs.program.keep_given.Goals as goal

pub returns-in-Some-file_made : goal.returns-in-Some-file_made
returns-in-Some-file_made g c =
    let asked = command_view c.args.command.now in
    does_at (λ (read : Option Text). keeps_file read (file_made asked)) c.in-Some.ensures
    (does_at (λ (made : Option Text). keeps_file (Some c.in-Some.read.now) made) c.in-Some-file_made.ensures c.keep_file.ensures)

pub returns-in-None-file_made : goal.returns-in-None-file_made
returns-in-None-file_made g c =
    let asked = command_view c.args.command.now in
    does_at (λ (read : Option Text). keeps_file read (file_made asked)) c.in-Some.ensures
    (does_at (λ (made : Option Text). keeps_file (Some c.in-Some.read.now) made) c.in-None-file_made.ensures (answered refl))

pub returns-in-None : goal.returns-in-None
returns-in-None g c =
    let asked = command_view c.args.command.now in
    does_at (λ (read : Option Text). keeps_file read (file_made asked)) c.in-None.ensures (answered refl)
