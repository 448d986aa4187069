use Rattle.jcommand.proofs.commands.make_history.Goals as goal

pub returns : goal.returns
returns c =
    let first = c.add_arg.ensures _ _ c.make_printer-command.ensures c.make_optional-since.ensures in
    let second = c.add_arg-command.ensures _ _ first c.make_optional-until.ensures in
    let third = c.add_arg-2.ensures _ _ second c.make_word-image.ensures in
    c.add_arg-3.ensures _ _ third c.make_optional_word-path.ensures
