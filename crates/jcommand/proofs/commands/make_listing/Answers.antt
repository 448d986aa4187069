use Rattle.jcommand.proofs.commands.make_listing.Goals as goal

pub returns : goal.returns
returns c =
    let set = c.add_settings.ensures _ c.make_named-command.ensures in
    c.add_arg.ensures _ _ set c.make_word-folder.ensures
