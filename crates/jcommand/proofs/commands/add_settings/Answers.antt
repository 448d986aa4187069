use Rattle.jcommand.proofs.commands.add_settings.Goals as goal

pub returns : goal.returns
returns c = λ app made.
    let first = c.add_arg.ensures _ _ made c.make_optional_two-owner.ensures in
    let second = c.add_arg-2.ensures _ _ first c.make_optional-time.ensures in
    c.add_arg-3.ensures _ _ second c.make_flag-quiet.ensures
