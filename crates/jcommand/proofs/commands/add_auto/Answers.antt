use Rattle.jcommand.proofs.commands.add_auto.Goals as goal

pub returns : goal.returns
returns c = λ app made.
    c.add_region.ensures _ (c.add_arg.ensures _ _ made c.make_lettered_flag-flag.ensures)
