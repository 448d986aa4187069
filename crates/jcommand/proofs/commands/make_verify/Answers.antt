use Rattle.jcommand.proofs.commands.make_verify.Goals as goal

pub returns : goal.returns
returns c =
    let timed = c.add_arg.ensures _ _ c.make_printer-command.ensures c.make_flag-times.ensures in
    let set = c.add_settings-command.ensures _ timed in
    let first = c.add_arg-2.ensures _ _ set c.make_word-image.ensures in
    c.add_arg-3.ensures _ _ first c.make_word-folder.ensures
