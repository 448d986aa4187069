use Rattle.std.proofs.Common.{rules, ◌≡◌, ℕ, Some, None, sym, subst}
use Rattle.std.specs.Prelude.{if◌then◌else◌, ◌==◌}
use Rattle.jname.specs.declared.sorted.Sorted.{Sorted}
use Rattle.jname.specs.declared.versions.Versions.{Versions}
use Rattle.jname.specs.Versions.{sorted_at, version_at}
use Rattle.jname.proofs.VersionLemmas.{second_more}
use Rattle.jname.proofs.versions.Versions.add.Goals as goal

pub returns-in_ok-add-in-One-clause-ok : goal.returns-in_ok-add-in-One-clause-ok
returns-in_ok-add-in-One-clause-ok c =
    let same : c.deref_mut.result.now ≡ c.of_one.result = search rules in
    let only : (v : ℕ) → sorted_at c.deref_mut.result.now v ≡ (if c.in-One.first == v then Some c.in-One.only else None) =
    subst (λ (s : Sorted). (v : ℕ) → sorted_at s v ≡ (if c.in-One.first == v then Some c.in-One.only else None)) (sym same) c.of_one.ensures in
    subst (λ (old : Versions). (v : ℕ) → sorted_at c.add.new.self v ≡ (if c.args.version == v then Some c.args.content else version_at old v)) (sym c.in-One.is)
    (second_more c.in-One.first c.in-One.only (sorted_at c.add.new.self) c.args.version c.args.content (sorted_at c.deref_mut.result.now) only c.in_ok-add-in-One.ensures.ok)
