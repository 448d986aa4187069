use Rattle.jcommand.proofs.commands.make_pack.Goals as goal

pub returns : goal.returns
returns c =
    let first = c.add_arg.ensures _ _ c.make_plain-command.ensures c.make_optional-blocks.ensures in
    let second = c.add_arg-2.ensures _ _ first c.make_option-page.ensures in
    let third = c.add_arg-command.ensures _ _ second c.make_flag-weak.ensures in
    let packed = c.add_compressing.ensures _ third in
    let placed = c.add_placing-command.ensures _ packed in
    let set = c.add_settings-command.ensures _ placed in
    let fourth = c.add_arg-3.ensures _ _ set c.make_word-folder.ensures in
    c.add_output.ensures _ fourth
