use Rattle.jcommand.proofs.commands.make_map.Goals as goal

pub returns : goal.returns
returns c =
    let first = c.add_arg.ensures _ _ c.make_printer-command.ensures c.make_flag-svg.ensures in
    c.add_arg-2.ensures _ _ first c.make_word-image.ensures
