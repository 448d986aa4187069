use Rattle.std.proofs.Common.{rules, ◌≡◌, ◌==◌, true, false, sym, ◌∙◌}
use Rattle.jmount.specs.Tree.{type_bits, symlink_bits}
use Rattle.jlook.proofs.FoundLemmas.{added_none, added_one}
use Rattle.jlook.proofs.chosen.add_symlink.Goals as goal

pub returns-then-not-is_symlink : goal.returns-then-not-is_symlink
returns-then-not-is_symlink c =
    let isnt : c.is_symlink.result ≡ false = search rules in
    added_none c.args.ino c.args.numbers.now (type_bits c.args.object.now.mode == symlink_bits) (sym c.is_symlink.ensures ∙ isnt)

pub returns : goal.returns
returns c =
    let is : c.is_symlink.result ≡ true = search rules in
    added_one c.args.ino c.args.numbers.now c.insert.new.self (type_bits c.args.object.now.mode == symlink_bits) (sym c.is_symlink.ensures ∙ is) c.in_ok-insert.ensures.updates.0
