use Rattle.clap.specs.Words.{Text}
use Rattle.jcommand.specs.Parsed.{command_view}
use Rattle.jcommand.specs.Requests.{with_options, writes_image}
use Rattle.jcommand.specs.declared.parsed.Command.{Command}
use Rattle.jcommand.specs.declared.parsed.Options.{Options}
use Rattle.jedge.specs.Commands.{reported}
use Rattle.jedge.proofs.Steps.{does_at}
use Rattle.jauto.proofs.AutoLemmas.{found_reported, unfound_reported}
use Rattle.jffs2_image.specs.Running.{command_act}
use Rattle.jffs2_image.proofs.program.run_found.Goals as goal

pub returns-in-Ok : goal.returns-in-Ok
returns-in-Ok g c =
    let asked = command_view c.args.command in
    found_reported (writes_image asked) (λ (options : Options). command_act (with_options options asked))
    c.writes_image.ensures c.in-Ok.ensures
    (does_at (λ (k : Command Text). reported (command_act k)) c.with_options.ensures c.run_given.ensures)

pub returns-in-Err : goal.returns-in-Err
returns-in-Err g c =
    let asked = command_view c.args.command in
    unfound_reported (writes_image asked) (λ (options : Options). command_act (with_options options asked))
    c.writes_image.ensures c.in-Err.ensures c.report.ensures
