use Rattle.jcommand.proofs.commands.add_placing.Goals as goal

pub returns : goal.returns
returns c = λ app made.
    c.add_atomic.ensures _ (c.add_arg.ensures _ _ made c.make_lettered_flag-pad.ensures)
