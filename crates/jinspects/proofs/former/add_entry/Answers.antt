use Rattle.std.proofs.Common.{rules, ◌≡◌, true, false, sym, ◌∙◌}
use Rattle.jinspects.proofs.FormerLemmas.{given, not_given}
use Rattle.jinspects.proofs.former.add_entry.Goals as goal

pub returns-in_ok-insert : goal.returns-in_ok-insert
returns-in_ok-insert c =
    let is : c.is_name_given.result ≡ true = search rules in
    given c.args.dir c.args.name.now c.args.entry.now c.args.numbers.now c.insert.new.self (sym c.is_name_given.ensures ∙ is) c.in_ok-insert.ensures.updates.0

pub returns-else-is_name_given : goal.returns-else-is_name_given
returns-else-is_name_given c =
    let isnt : c.is_name_given.result ≡ false = search rules in
    not_given c.args.dir c.args.name.now c.args.entry.now c.args.numbers.now (sym c.is_name_given.ensures ∙ isnt)
