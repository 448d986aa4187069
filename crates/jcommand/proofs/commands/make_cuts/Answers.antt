use Rattle.jcommand.proofs.commands.make_cuts.Goals as goal

pub returns : goal.returns
returns c =
    let first = c.add_arg.ensures _ _ c.make_printer-command.ensures c.make_optional-blocks.ensures in
    let second = c.add_arg-2.ensures _ _ first c.make_option-page.ensures in
    let third = c.add_arg-command.ensures _ _ second c.make_optional-on.ensures in
    let packed = c.add_compressing.ensures _ third in
    let fourth = c.add_arg-command-2.ensures _ _ packed c.make_flag-decompress.ensures in
    let fifth = c.add_arg-3.ensures _ _ fourth c.make_flag-update.ensures in
    c.add_arg-4.ensures _ _ (c.add_updating-command.ensures _ fifth) c.make_word-listing.ensures
