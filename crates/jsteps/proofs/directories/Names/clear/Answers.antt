use Rattle.std.proofs.Common.{rules, ◌≡◌, true, false, None, refl}
use Rattle.jsteps.specs.declared.directories.Names.{Names}
use Rattle.jsteps.proofs.DirectoriesLemmas.{is_of, replaced_by_update, removed_apart, replaced_in_others}
use Rattle.jsteps.proofs.directories.Names.clear.Goals as goal

pub returns-then-is_apart : goal.returns-then-is_apart
returns-then-is_apart c =
    let old = c.args.self.now in
    let names : Names = record { apart = None; others = c.remove.new.self } in
    let was : is_of old.apart c.args.name.now ≡ true = search rules in
    removed_apart old names c.args.name.now was (replaced_by_update old.others names.others c.args.name.now None c.remove.ensures.updates) refl

pub returns-else-is_apart : goal.returns-else-is_apart
returns-else-is_apart c =
    let old = c.args.self.now in
    let other : is_of old.apart c.args.name.now ≡ false = search rules in
    replaced_in_others old.apart old.others.entries c.remove.new.self.entries c.args.name.now None other
    (replaced_by_update old.others c.remove.new.self c.args.name.now None c.remove.ensures.updates)
