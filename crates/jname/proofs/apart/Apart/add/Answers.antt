use Rattle.std.proofs.Common.{rules, ◌≡◌, ℕ, List, Some, OnOk, subst}
use Rattle.std.specs.Prelude.{if◌then◌else◌, ◌==◌, ◌&&◌, bytes_eq}
use Rattle.std.specs.Cow.{cow_slice_items}
use Rattle.jname.specs.declared.directory.Directory.{Directory}
use Rattle.jname.specs.Directories.{content_under}
use Rattle.jname.proofs.apart.Apart.add.Goals as goal

pub returns-clause-ok : goal.returns-clause-ok
returns-clause-ok c =
    let same : c.deref_mut.result.now ≡ c.args.self.now.directory.value = search rules in
    subst (λ (d : Directory). OnOk c.add.result ((n : List ℕ) (v : ℕ) → content_under c.add.new.self n v ≡ (if bytes_eq (cow_slice_items c.args.name) n && c.args.version == v then Some c.args.content else content_under d n v))) same c.add.ensures.ok
