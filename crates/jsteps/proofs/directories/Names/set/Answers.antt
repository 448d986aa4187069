use Rattle.std.proofs.Common.{rules, ◌≡◌, true, false, Some, refl}
use Rattle.std.specs.Prelude.{is_some}
use Rattle.jsteps.specs.declared.directories.Names.{Names}
use Rattle.jsteps.proofs.DirectoriesLemmas.{is_of, replaced_by_update, replaced_apart, replaced_in_others}
use Rattle.jsteps.proofs.directories.Names.set.Goals as goal
use Rattle.jsteps.proofs.directories.Names.set.Goals.{then-is_none-via-then-is_none, then-is_none-via-else-is_none+then-is_apart}

pub returns-then-is_none-clause-ok : goal.returns-then-is_none-clause-ok
returns-then-is_none-clause-ok c =
    let old = c.args.self.now in
    let names : Names = record { apart = Some (c.args.name, c.args.ino); others = c.remove.new.self } in
    let free : is_some old.apart ≡ true → is_of old.apart c.args.name.items ≡ true =
    elim c.then-is_none.branch [
      | then-is_none-via-then-is_none w ↦ search rules
      | then-is_none-via-else-is_none+then-is_apart w ↦ search rules
    ] in
    replaced_apart old names c.args.name c.args.ino free (replaced_by_update old.others names.others c.args.name.items _ (search rules)) refl

pub returns-clause-ok : goal.returns-clause-ok
returns-clause-ok c =
    let old = c.args.self.now in
    let other : is_of old.apart c.args.name.items ≡ false = search rules in
    replaced_in_others old.apart old.others.entries c.insert.new.self.entries c.args.name.items (Some c.args.ino) other
    (replaced_by_update old.others c.insert.new.self c.args.name.items (Some c.args.ino) c.in_ok-insert.ensures.updates)
