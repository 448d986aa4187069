use Rattle.std.proofs.Common.{sym, subst, ◌∙◌}
use Rattle.std.specs.Prelude.{Ok, IfSome}
use Rattle.std.specs.BTreeSet.{contains}
use Rattle.std.specs.Ordering.{nat_cmp}
use Rattle.jlook.specs.Chosen.{symlinks_in}
use Rattle.jlook.specs.Looks.{AnswersLook}
use Rattle.jlook.proofs.ChosenLemmas.{symlinks_are_of_outline}
use Rattle.jlook.proofs.LikelyLemmas.{likely_is_chosen}
use Rattle.jlook.proofs.chosen.mount_at_once.Goals as goal

pub returns-then-are_same : goal.returns-then-are_same
returns-then-are_same g c =
    likely_is_chosen symlinks_in symlinks_are_of_outline (contains nat_cmp c.in_ok-likely.likely) g.E.Order.order c.args.geometry.block c.args.image.now c.in-Some.mounted
    (subst (λ o. IfSome o (λ m. AnswersLook (contains nat_cmp c.in_ok-likely.likely) g.E.Order.order c.args.geometry.block c.args.image.now (Ok m))) c.in-Some.is c.in_ok-found.ensures)
    (λ i. sym (c.in_ok-numbers.ensures i) ∙ c.are_same.ensures.0 c.if-are_same.true i)
