use Rattle.std.proofs.Common.{rules, ◌≡◌, ◌∙◌, ap, List, Some, None}
use Rattle.std.specs.Ordering.{nat_cmp}
use Rattle.std.specs.BTreeMap.{get}
use Rattle.jnode.specs.declared.node.Dirent.{Dirent}
use Rattle.jname.specs.declared.directory.Directory.{Directory}
use Rattle.jname.specs.declared.versions.Versions.{Versions}
use Rattle.jname.specs.ContentsByName.{Name}
use Rattle.jname.specs.Live.{names_of}
use Rattle.jname.specs.NameMaps.{names_in}
use Rattle.jname.specs.Walk.{names_under}
use Rattle.jname.proofs.OrderLemmas.{names_under-is, names_of-none}
use Rattle.jname.proofs.names.Names.of.Goals as goal

pub returns-in-Some : goal.returns-in-Some
returns-in-Some c =
    let found : get nat_cmp c.self.inside.directories c.args.dir ≡ Some c.in-Some.apart.now = search rules in
    let held : c.deref.result.now ≡ c.in-Some.apart.now.directory.value = search rules in
    c.new.ensures ∙ ap (λ (d : Directory). names_under (names_in d.names)) held ∙ names_under-is c.self.inside.directories c.self.invariant.0 c.args.dir c.in-Some.apart.now found
    ∙ ap (λ (given : List Dirent). names_of given c.args.dir) c.self.view_is

pub returns-in-None : goal.returns-in-None
returns-in-None c =
    let none : get nat_cmp c.self.inside.directories c.args.dir ≡ None = search rules in
    c.new-in-None.ensures ∙ ap (λ (es : List (Name × Versions)). names_under es) c.self.invariant.1
    ∙ names_of-none c.self.inside.directories c.self.invariant.0 c.args.dir none
    ∙ ap (λ (given : List Dirent). names_of given c.args.dir) c.self.view_is
