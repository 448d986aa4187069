use Rattle.jcommand.proofs.commands.make_check.Goals as goal

pub returns : goal.returns
returns c =
    let first = c.add_arg.ensures _ _ c.make_printer-command.ensures c.make_flag-scan.ensures in
    let second = c.add_arg-command.ensures _ _ first c.make_flag-shape.ensures in
    let third = c.add_arg-2.ensures _ _ second c.make_flag-decompress.ensures in
    c.add_arg-3.ensures _ _ third c.make_word-image.ensures
