use Rattle.jcalls.proofs.many.read_many.Goals as goal

pub returns-in-Ok-clause-done : goal.returns-in-Ok-clause-done
returns-in-Ok-clause-done c done =
    (c.in-Ok.mounted.state, c.in-Ok.ensures.ok, c.give_many.ensures.gives done)

pub returns-in-Ok-clause-small : goal.returns-in-Ok-clause-small
returns-in-Ok-clause-small c small =
    (c.in-Ok.mounted.state, c.in-Ok.ensures.ok, c.give_many.ensures.short small)
