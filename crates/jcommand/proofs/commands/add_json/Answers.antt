use Rattle.jcommand.proofs.commands.add_json.Goals as goal

pub returns : goal.returns
returns c = λ app made. c.add_arg.ensures _ _ made c.make_flag.ensures
