use Rattle.std.proofs.Common.{rules, ◌≡◌, ◌-◌, ◌++◌, ℕ, List, Some, None, length, take, drop, ap, sym, ◌∙◌, arith}
use Rattle.std.specs.Prelude.{min}
use Rattle.std.specs.Ordering.{nat_cmp}
use Rattle.std.specs.BTreeMap.{get}
use Rattle.jmount.specs.Mount.{Mount}
use Rattle.jmount.specs.Shown.{bytes_if, readable}
use Rattle.jmount.proofs.StoredLemmas.{object-found}
use Rattle.jmount.proofs.mounted.Mounted.read_at.Goals as goal

pub returns-in-Some-clause-count : goal.returns-in-Some-clause-count
returns-in-Some-clause-count c =
    let m = c.self.inside in
    let found : get nat_cmp m.objects c.args.ino ≡ Some c.in-Some.stored.now = search rules in
    let is = ap bytes_if (object-found c.args.self.now.state m.objects m.names m.next (ap (λ (v : Mount). v.state) c.self.view_is) c.args.ino _ found) in
    c.read_stored.ensures.count ∙ ap (λ (bytes : List ℕ). min (length c.args.out.now) (length bytes - c.args.offset)) (sym is)

pub returns-in-Some-clause-bytes : goal.returns-in-Some-clause-bytes
returns-in-Some-clause-bytes c =
    let m = c.self.inside in
    let found : get nat_cmp m.objects c.args.ino ≡ Some c.in-Some.stored.now = search rules in
    let is = ap bytes_if (object-found c.args.self.now.state m.objects m.names m.next (ap (λ (v : Mount). v.state) c.self.view_is) c.args.ino _ found) in
    c.read_stored.ensures.bytes ∙ ap (λ (bytes : List ℕ). take c.read_stored.result (drop c.args.offset bytes) ++ drop c.read_stored.result c.args.out.now) (sym is)

pub returns-in-None-clause-count : goal.returns-in-None-clause-count
returns-in-None-clause-count c =
    let m = c.self.inside in
    let found : get nat_cmp m.objects c.args.ino ≡ None = search rules in
    let none : length (readable c.args.self.now.state c.args.ino) ≡ 0 = ap (λ o. length (bytes_if o)) (object-found c.args.self.now.state m.objects m.names m.next (ap (λ (v : Mount). v.state) c.self.view_is) c.args.ino _ found) in
    omega arith
