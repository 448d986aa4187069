use Rattle.jdamage.proofs.damage.numbers_of.Goals as goal

pub returns-clause-damaged : goal.returns-clause-damaged
returns-clause-damaged g c = λ k d less is. c.in_ok-add_files.ensures.keeps _ (c.in_ok-numbers.ensures k d less is)
