use Rattle.std.proofs.Common.{rules, ◌≡◌, ◌++◌, ◌∷◌, [], Some, None, ap, ◌∙◌}
use Rattle.std.specs.Prelude.{IsSome}
use Rattle.std.specs.Ordering.{nat_cmp}
use Rattle.std.specs.BTreeMap.{get, Updates}
use Rattle.jdamage.proofs.GroupLemmas.{added, added_first, group_there}
use Rattle.jdamage.proofs.groups.add.Goals as goal

pub returns-in-Some : goal.returns-in-Some
returns-in-Some g c =
    let was : get nat_cmp c.args.groups.now c.args.number ≡ Some c.in-Some.group.now = search rules in
    let there : IsSome (get nat_cmp c.args.groups.now c.args.number) = search rules in
    let replaced : Updates nat_cmp c.args.groups.now (c.get_mut.follows.lender c.push.new.self) c.args.number (Some c.push.new.self) = (c.get_mut.follows.holds c.push.new.self).3 there in
    added c.args.groups.now (c.get_mut.follows.lender c.push.new.self) c.args.number c.push.new.self c.args.item replaced.0
    (c.in_ok-push.ensures.items ∙ ap (λ l. l ++ c.args.item ∷ []) (group_there c.args.groups.now c.args.number c.in-Some.group.now was))

pub returns : goal.returns
returns g c =
    let unchanged : c.get_mut.follows.lender-at-none ≡ c.args.groups.now = search rules in
    let none : get nat_cmp c.args.groups.now c.args.number ≡ None = search rules in
    added_first c.args.groups.now c.get_mut.follows.lender-at-none c.insert.new.self c.args.number c.push-2.new.self c.args.item unchanged none c.in_ok-insert.ensures.updates.0
    (c.in_ok-push-2.ensures.items ∙ ap (λ l. l ++ c.args.item ∷ []) c.new-group.ensures.items)
