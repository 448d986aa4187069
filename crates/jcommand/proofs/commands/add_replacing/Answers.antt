use Rattle.jcommand.proofs.commands.add_replacing.Goals as goal

pub returns : goal.returns
returns c = λ app made. c.add_arg.ensures _ _ (c.add_atomic.ensures _ made) c.make_flag-flag.ensures
