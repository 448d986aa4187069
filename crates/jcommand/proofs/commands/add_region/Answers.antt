use Rattle.jcommand.proofs.commands.add_region.Goals as goal

pub returns : goal.returns
returns c = λ app made.
    let sparing = c.add_arg.ensures _ _ made c.make_optional-layout.ensures in
    let from = c.add_arg-2.ensures _ _ sparing c.make_optional-offset.ensures in
    c.add_arg-3.ensures _ _ from c.make_optional-length.ensures
