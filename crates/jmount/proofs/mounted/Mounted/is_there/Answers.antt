use Rattle.std.proofs.Common.{sym, ap, ◌∙◌}
use Rattle.std.specs.Prelude.{is_some}
use Rattle.std.specs.Ordering.{nat_cmp}
use Rattle.std.specs.BTreeMap.{get}
use Rattle.jmount.specs.Mount.{Mount}
use Rattle.jmount.specs.Stored.{stored_object}
use Rattle.jmount.proofs.StoredLemmas.{object-is, is_some-map}
use Rattle.jmount.proofs.mounted.Mounted.is_there.Goals as goal

pub returns : goal.returns
returns c =
    let m = c.self.inside in
    c.contains_key.ensures ∙ is_some-map stored_object (get nat_cmp m.objects c.args.ino)
    ∙ sym (ap is_some (object-is c.args.self.now.state m.objects m.names m.next (ap (λ (v : Mount). v.state) c.self.view_is) c.args.ino))
