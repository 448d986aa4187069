use Rattle.std.proofs.Common.{rules, ◌≡◌, Some, None, ap, sym, ◌∙◌}
use Rattle.std.specs.Option.{option_and_then}
use Rattle.std.specs.Ordering.{nat_cmp}
use Rattle.std.specs.BTreeMap.{get}
use Rattle.jmount.specs.Mount.{Mount}
use Rattle.jmount.specs.Kept.{directory_kept}
use Rattle.jmount.proofs.KeptLemmas.{first_directory-is}
use Rattle.jmount.proofs.mounted.Mounted.first_directory.Goals as goal

pub returns-in_err-get : goal.returns-in_err-get
returns-in_err-get c =
    let m = c.self.inside in
    let found : get nat_cmp m.objects c.args.ino ≡ None = search rules in
    let none : c.from_residual.result ≡ None = search rules in
    none ∙ sym (ap (option_and_then directory_kept) found)
    ∙ first_directory-is c.args.self.now.state m.objects m.names m.next (ap (λ (v : Mount). v.state) c.self.view_is) c.self.invariant.directories c.args.ino

pub returns : goal.returns
returns c =
    let m = c.self.inside in
    let found : get nat_cmp m.objects c.args.ino ≡ Some c.in_ok-get.field-0.now = search rules in
    c.directory_kept.ensures ∙ sym (ap (option_and_then directory_kept) found)
    ∙ first_directory-is c.args.self.now.state m.objects m.names m.next (ap (λ (v : Mount). v.state) c.self.view_is) c.self.invariant.directories c.args.ino
