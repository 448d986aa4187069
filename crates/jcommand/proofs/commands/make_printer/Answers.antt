use Rattle.jcommand.proofs.commands.make_printer.Goals as goal

pub returns : goal.returns
returns c = c.add_json.ensures _ c.make_reader.ensures
