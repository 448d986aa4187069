use Rattle.std.proofs.Common.{rules, ◌≡◌, ◌≢◌, ◌<◌, ◌≤◌, ◌∙◌, ℕ, List, Some, None, length, slice_index, ap, sym, subst, arith}
use Rattle.std.specs.Prelude.{max}
use Rattle.std.specs.BTreeMap.{get}
use Rattle.std.specs.Ordering.{nat_cmp}
use Rattle.jmount.specs.Mount.{Mount}
use Rattle.jmount.specs.Shown.{bytes_if, readable}
use Rattle.jmount.proofs.StoredLemmas.{object-found}
use Rattle.jmount.proofs.mounted.Mounted.hole_end.Goals as goal

pub returns-in-Some-clause-within : goal.returns-in-Some-clause-within
returns-in-Some-clause-within c =
    let m = c.self.inside in
    let found : get nat_cmp m.objects c.args.ino ≡ Some c.in-Some.stored.now = search rules in
    let is = ap bytes_if (object-found c.args.self.now.state m.objects m.names m.next (ap (λ (v : Mount). v.state) c.self.view_is) c.args.ino _ found) in
    subst (λ (bytes : List ℕ). c.zeros_end_stored.result ≤ max c.args.offset (length bytes)) (sym is) c.zeros_end_stored.ensures.within

pub returns-in-Some-clause-zeros : goal.returns-in-Some-clause-zeros
returns-in-Some-clause-zeros c = λ i from to.
    let m = c.self.inside in
    let found : get nat_cmp m.objects c.args.ino ≡ Some c.in-Some.stored.now = search rules in
    let is = ap bytes_if (object-found c.args.self.now.state m.objects m.names m.next (ap (λ (v : Mount). v.state) c.self.view_is) c.args.ino _ found) in
    ap (λ (bytes : List ℕ). slice_index bytes i) is ∙ c.zeros_end_stored.ensures.zeros i from to

pub returns-in-Some-clause-stops : goal.returns-in-Some-clause-stops
returns-in-Some-clause-stops c =
    let m = c.self.inside in
    let found : get nat_cmp m.objects c.args.ino ≡ Some c.in-Some.stored.now = search rules in
    let is = ap bytes_if (object-found c.args.self.now.state m.objects m.names m.next (ap (λ (v : Mount). v.state) c.self.view_is) c.args.ino _ found) in
    subst (λ (bytes : List ℕ). c.zeros_end_stored.result ≡ c.args.offset → c.args.offset < length bytes → slice_index bytes c.args.offset ≢ 0) (sym is) c.zeros_end_stored.ensures.stops

pub returns-in-None-clause-stops : goal.returns-in-None-clause-stops
returns-in-None-clause-stops c = λ same inside.
    let m = c.self.inside in
    let found : get nat_cmp m.objects c.args.ino ≡ None = search rules in
    let none : length (readable c.args.self.now.state c.args.ino) ≡ 0 = ap (λ o. length (bytes_if o)) (object-found c.args.self.now.state m.objects m.names m.next (ap (λ (v : Mount). v.state) c.self.view_is) c.args.ino _ found) in
    absurd (omega (arith, none, inside))
