use Rattle.jcommand.proofs.commands.make_compress.Goals as goal

pub returns : goal.returns
returns c =
    let placed = c.add_replacing.ensures _ c.make_reader-command.ensures in
    let first = c.add_arg.ensures _ _ placed c.make_word-image.ensures in
    c.add_output.ensures _ first
