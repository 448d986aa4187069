use Rattle.jcommand.proofs.commands.add_output.Goals as goal

pub returns : goal.returns
returns c = λ app made.
    let named = c.add_arg.ensures _ _ made c.make_lettered_option-named.ensures in
    c.add_arg-2.ensures _ _ named c.make_optional_word-placed.ensures
