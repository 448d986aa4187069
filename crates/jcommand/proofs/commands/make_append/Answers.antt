use Rattle.jcommand.proofs.commands.make_append.Goals as goal

pub returns : goal.returns
returns c =
    let found = c.add_auto.ensures _ c.make_noting-command.ensures in
    let placed = c.add_placing-command.ensures _ found in
    let first = c.add_arg.ensures _ _ placed c.make_flag-decompress.ensures in
    let second = c.add_arg-command.ensures _ _ first c.make_flag-force.ensures in
    let third = c.add_arg-2.ensures _ _ second c.make_word-image.ensures in
    let fourth = c.add_arg-3.ensures _ _ third c.make_word-listing.ensures in
    c.add_output.ensures _ fourth
