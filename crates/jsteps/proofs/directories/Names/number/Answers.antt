use Rattle.std.proofs.Common.{rules, ◌≡◌, true, false, sym, ◌∙◌}
use Rattle.std.specs.Prelude.{bytes_eq}
use Rattle.jsteps.specs.Stored.{ino_among}
use Rattle.jsteps.proofs.DirectoriesLemmas.{is_of, found_apart, found_in_others}
use Rattle.jsteps.proofs.directories.Names.number.Goals as goal
use Rattle.jsteps.proofs.directories.Names.number.Goals.{in_default-via-in-Some+else-eq, in_default-via-in_default}

pub returns-in-Some : goal.returns-in-Some
returns-in-Some c =
    let same : bytes_eq c.in-Some.apart.items c.args.name.now ≡ true = search rules in
    sym (found_apart c.args.self.now (c.in-Some.apart, c.in-Some.ino) c.args.name.now c.in-Some.is same)

pub returns-in_default : goal.returns-in_default
returns-in_default c =
    let names = c.args.self.now in
    let other : is_of names.apart c.args.name.now ≡ false =
    elim c.in_default.branch [
      | in_default-via-in-Some+else-eq w ↦ search rules
      | in_default-via-in_default w ↦ search rules
    ] in
    let found : c.copied.result ≡ ino_among names.others.entries c.args.name.now = search rules in
    found ∙ sym (found_in_others names.apart names.others.entries c.args.name.now other)
