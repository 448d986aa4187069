use Rattle.std.proofs.Common.{rules, ◌≡◌, ◌<◌, ℕ, Some, Option, sym, subst, arith}
use Rattle.std.specs.Prelude.{if◌then◌else◌, ◌==◌}
use Rattle.std.specs.Ordering.{nat_cmp}
use Rattle.std.specs.BTreeMap.{get}
use Rattle.jname.specs.declared.versions.Content.{Content}
use Rattle.jname.specs.Versions.{Agrees}
use Rattle.jname.proofs.VersionLemmas.{greater_more, none_above}
use Rattle.jname.proofs.sorted.Sorted.add.Goals as goal

pub returns-clause-alone : goal.returns-clause-alone
returns-clause-alone c =
    let above : c.args.self.now.greatest < c.args.version = omega (arith, c.if-version-self.false, c.if-version-self-2.false) in
    subst (λ (o : Option Content). Agrees o c.args.content) (sym (none_above c.args.self.now c.args.version above)) tt

pub returns-clause-ok : goal.returns-clause-ok
returns-clause-ok c =
    let above : c.args.self.now.greatest < c.args.version = omega (arith, c.if-version-self.false, c.if-version-self-2.false) in
    let more : (v : ℕ) → get nat_cmp c.insert.new.self v ≡ (if c.args.self.now.greatest == v then Some c.args.self.now.newest else get nat_cmp c.args.self.now.older v) = search rules in
    greater_more c.args.self.now c.insert.new.self c.args.version c.args.content above more
