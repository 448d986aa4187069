use Rattle.std.proofs.Common.{ℕ, refl, ap, ◌∙◌}
use Rattle.std.specs.BTreeSet.{contains}
use Rattle.std.specs.Ordering.{nat_cmp}
use Rattle.std.proofs.lemmas.List.{take_all}
use Rattle.jclash.specs.declared.parting.LeftOut.{LeftOut}
use Rattle.jcollect.specs.Staying.{is_left_out}
use Rattle.jcollect.proofs.StayingLemmas.{one_more_out}
use Rattle.jcollect.proofs.staying.addresses_left.Goals as goal

pub loop-one-preserved : goal.loop-one-preserved
loop-one-preserved c =
    one_more_out c.args.left.now c.loop-one.one-index _ _ (λ (a : ℕ). contains nat_cmp c.loop-one.out a) (λ (a : ℕ). contains nat_cmp c.add.new.out a)
    c.loop-one-test.true refl c.in_ok-add.ensures c.loop-one.invariant

pub returns : goal.returns
returns c = λ a. c.loop-one.invariant a ∙ ap (λ l. is_left_out l a) (take_all c.loop-one.one-index c.args.left.now c.loop-one-test.false)
