use Rattle.jcommand.proofs.commands.make_plain.Goals as goal

pub returns : goal.returns
returns c =
    let first = c.add_arg.ensures _ _ c.make_named-command.ensures c.in_ok-block.ensures in
    let second = c.add_arg-command.ensures _ _ first c.make_optional-endian.ensures in
    let third = c.add_arg-2.ensures _ _ second c.make_lettered_flag-little.ensures in
    c.add_arg-3.ensures _ _ third c.make_lettered_flag-big.ensures
