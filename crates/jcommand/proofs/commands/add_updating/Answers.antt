use Rattle.jcommand.proofs.commands.add_updating.Goals as goal

pub returns : goal.returns
returns c = λ app made.
    let plain = c.add_arg.ensures _ _ made c.make_flag-plain.ensures in
    c.add_arg-2.ensures _ _ plain c.make_flag-tail.ensures
