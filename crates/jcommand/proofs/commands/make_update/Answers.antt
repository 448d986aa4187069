use Rattle.jcommand.proofs.commands.make_update.Goals as goal

pub returns : goal.returns
returns c =
    let first = c.add_arg.ensures _ _ c.make_reader-command.ensures c.make_optional-blocks.ensures in
    let second = c.add_arg-command.ensures _ _ first c.make_option-page.ensures in
    let placed = c.add_placing-command.ensures _ (c.add_updating.ensures _ second) in
    let third = c.add_arg-2.ensures _ _ placed c.make_word-image.ensures in
    let fourth = c.add_arg-3.ensures _ _ third c.make_word-listing.ensures in
    c.add_output.ensures _ fourth
