use Rattle.jcommand.proofs.commands.make_build.Goals as goal

pub returns : goal.returns
returns c =
    let packed = c.add_compressing.ensures _ c.make_noting-command.ensures in
    let placed = c.add_placing-command.ensures _ packed in
    let first = c.add_arg.ensures _ _ placed c.make_word-listing.ensures in
    c.add_output.ensures _ first
