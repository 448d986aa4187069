use Rattle.std.proofs.Common.{◌≡◌, ℕ, List, subst, sym}
use Rattle.std.specs.Prelude.{◌&&◌, ◌==◌}
use Rattle.std.specs.List.{list_any}
use Rattle.std.specs.BTreeSet.{contains}
use Rattle.std.specs.Ordering.{nat_cmp}
use Rattle.jmount.specs.MountsNodes.{AreMountable}
use Rattle.jcompact.specs.Matters.{Placed, matters}
use Rattle.jcompact.specs.Taking.{reached_by}
use Rattle.jcompact.proofs.KeptLemmas.{what_matters}
use Rattle.jcompact.proofs.keeping.kept.Goals as goal

pub addresses_kept-requires-clause-mountable : goal.addresses_kept-requires-clause-mountable
addresses_kept-requires-clause-mountable c = subst AreMountable (sym c.deref.ensures.value) c.requires.mountable

pub returns : goal.returns
returns c =
    let s = c.args.mounted.now.state in
    let unreached = c.in_ok-unreached.unreached in
    let addresses = c.in_ok-addresses.addresses in
    let are : (a : ℕ) → contains nat_cmp addresses a ≡ list_any (λ n. (n.0 == a) && matters c.args.nodes.items (reached_by s unreached) n) c.args.nodes.items =
    subst (λ (ns : List Placed). (a : ℕ) → contains nat_cmp addresses a ≡ list_any (λ n. (n.0 == a) && matters ns (reached_by s unreached) n) ns) c.deref.ensures.value c.in_ok-addresses.ensures in
    what_matters s c.args.nodes.items c.requires.made unreached c.in_ok-unreached.ensures.unreached c.in_ok-unreached.ensures.reached c.requires.by_address addresses are c.at.result.items c.at.ensures
