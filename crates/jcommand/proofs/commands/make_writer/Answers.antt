use Rattle.jcommand.proofs.commands.make_writer.Goals as goal

pub returns : goal.returns
returns c = c.add_arg-2.ensures _ _ (c.add_arg.ensures _ _ c.make_plain.ensures c.make_required_option-blocks.ensures) c.make_option-page.ensures
