use Rattle.std.proofs.Common.{rules, option_map, Some, None, sym, ap, ◌∙◌}
use Rattle.std.specs.Ordering.{nat_cmp}
use Rattle.std.specs.BTreeMap.{get}
use Rattle.jmount.specs.Mount.{Mount}
use Rattle.jmount.specs.Shown.{shown}
use Rattle.jmount.specs.Stored.{stored_object}
use Rattle.jmount.proofs.StoredLemmas.{object-is, by-found, shown-found}
use Rattle.jmount.proofs.mounted.Mounted.object.Goals as goal

pub returns : goal.returns
returns c =
    let m = c.self.inside in
    let found = get nat_cmp m.objects c.args.ino in
    by-found c.get.result found None c.map.result (λ stored. Some (shown (stored_object stored))) _ c.get.ensures.value c.map.ensures.cases (λ x q. search rules)
    ∙ shown-found found
    ∙ sym (ap (option_map shown) (object-is c.args.self.now.state m.objects m.names m.next (ap (λ (v : Mount). v.state) c.self.view_is) c.args.ino))
