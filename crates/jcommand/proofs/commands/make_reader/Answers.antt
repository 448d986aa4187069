use Rattle.jcommand.proofs.commands.make_reader.Goals as goal

pub returns : goal.returns
returns c = c.add_auto.ensures _ c.make_plain.ensures
