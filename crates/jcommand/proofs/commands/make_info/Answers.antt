use Rattle.jcommand.proofs.commands.make_info.Goals as goal

pub returns : goal.returns
returns c =
    let regional = c.add_region.ensures _ c.make_named-command.ensures in
    c.add_arg.ensures _ _ (c.add_json.ensures _ regional) c.make_word-image.ensures
