use Rattle.std.proofs.Common.{rules, ◌≡◌, Some, Option, sym, subst}
use Rattle.std.specs.Option.{option_and_then}
use Rattle.std.specs.Ordering.{nat_cmp}
use Rattle.std.specs.BTreeMap.{get}
use Rattle.jname.specs.declared.apart.Apart.{Apart}
use Rattle.jname.specs.declared.versions.Versions.{Versions}
use Rattle.jname.specs.Versions.{IsLiveIn, version_at}
use Rattle.jname.specs.ContentsByName.{versions_of_name}
use Rattle.jname.specs.NameMaps.{names_in}
use Rattle.jname.specs.Directories.{content_held}
use Rattle.jname.proofs.names.live_of.Goals as goal

pub returns : goal.returns
returns c =
    let directory : get nat_cmp c.args.directories.now c.args.dir ≡ Some c.in_ok-get.field-0.now = search rules in
    let name : versions_of_name (names_in c.in_ok-get.field-0.now.directory.value.names) c.args.name.now ≡ Some c.in_ok-get-2.field-0.now = search rules in
    subst (λ (o : Option Apart). IsLiveIn (λ v. option_and_then (λ (d : Apart). content_held d c.args.name.now v) o) c.live.result) (sym directory)
    (subst (λ (o : Option Versions). IsLiveIn (λ v. option_and_then (λ (m : Versions). version_at m v) o) c.live.result) (sym name) c.live.ensures)
