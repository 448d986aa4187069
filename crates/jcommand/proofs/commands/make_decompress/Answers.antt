use Rattle.jcommand.proofs.commands.make_decompress.Goals as goal

pub returns : goal.returns
returns c =
    let first = c.add_arg.ensures _ _ c.make_reader-command.ensures c.make_optional-clashes.ensures in
    let placed = c.add_replacing-command.ensures _ first in
    let second = c.add_arg-2.ensures _ _ placed c.make_word-image.ensures in
    c.add_output.ensures _ second
