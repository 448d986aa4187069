use Rattle.jcommand.proofs.commands.make_cat.Goals as goal

pub returns : goal.returns
returns c =
    let first = c.add_arg.ensures _ _ c.make_reader-command.ensures c.make_flag-decompress.ensures in
    let second = c.add_arg-command.ensures _ _ first c.make_flag-strict.ensures in
    let third = c.add_arg-2.ensures _ _ second c.make_optional-ino.ensures in
    let fourth = c.add_arg-command-2.ensures _ _ third c.make_optional-upto.ensures in
    let fifth = c.add_arg-3.ensures _ _ fourth c.make_word-image.ensures in
    c.add_arg-4.ensures _ _ fifth c.make_optional_word-path.ensures
