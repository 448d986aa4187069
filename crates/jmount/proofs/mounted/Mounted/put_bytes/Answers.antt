use Rattle.std.proofs.Common.{rules, ◌≡◌, ℕ, List, [], Some, None, refl, ap, sym, subst}
use Rattle.std.specs.Io.KnownBytes.{Appends}
use Rattle.std.proofs.KnownBytes.{Appends-nil}
use Rattle.std.specs.Ordering.{nat_cmp}
use Rattle.std.specs.BTreeMap.{get}
use Rattle.flashbase.specs.Device.{Puts}
use Rattle.jmount.specs.Mount.{Mount}
use Rattle.jmount.specs.Shown.{bytes_if, readable}
use Rattle.jmount.proofs.StoredLemmas.{object-found}
use Rattle.jmount.proofs.mounted.Mounted.put_bytes.Goals as goal

pub returns-in-Some : goal.returns-in-Some
returns-in-Some g c =
    let m = c.self.inside in
    let found : get nat_cmp m.objects c.args.ino ≡ Some c.in-Some.stored.now = search rules in
    let is = ap bytes_if (object-found c.args.self.now.state m.objects m.names m.next (ap (λ (v : Mount). v.state) c.self.view_is) c.args.ino _ found) in
    subst (λ (bytes : List ℕ). Puts (g.T.Sink.taken c.args.sink.now) (g.T.Sink.taken c.put_stored.new.sink) (g.T.Sink.failures c.args.sink.now)
    (g.T.Sink.failures c.put_stored.new.sink) bytes c.put_stored.result) (sym is) c.put_stored.ensures

pub returns-in-None : goal.returns-in-None
returns-in-None g c =
    let m = c.self.inside in
    let found : get nat_cmp m.objects c.args.ino ≡ None = search rules in
    let none : readable c.args.self.now.state c.args.ino ≡ [] = ap bytes_if (object-found c.args.self.now.state m.objects m.names m.next (ap (λ (v : Mount). v.state) c.self.view_is) c.args.ino _ found) in
    (subst (Appends (g.T.Sink.taken c.args.sink.now) (g.T.Sink.taken c.args.sink.now)) (sym none) (Appends-nil _), refl)
