use Rattle.jcommand.proofs.commands.make_noting.Goals as goal

pub returns : goal.returns
returns c = c.add_arg.ensures _ _ c.make_writer.ensures c.make_flag-weak.ensures
