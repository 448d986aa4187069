use Rattle.std.proofs.Common.{rules, ◌≡◌, subst}
use Rattle.std.specs.BTreeSet.{contains}
use Rattle.std.specs.Ordering.{nat_cmp}
use Rattle.jlook.specs.Look.{IsLookAt}
use Rattle.jlook.proofs.mounting.mount_sighted.Goals as goal

pub mount_look-requires : goal.mount_look-requires
mount_look-requires g c =
    let held : c.look_over.new.contents.items ≡ c.deref.result.now = search rules in
    record {
      looked = (
        contains nat_cmp c.args.wanted.now,
        subst (λ l. IsLookAt (contains nat_cmp c.args.wanted.now) g.E.Order.order c.args.geometry.block c.args.image.now l c.in_ok-look.look) held c.in_ok-look.ensures,
      );
    }

pub returns : goal.returns
returns g c =
    let held : c.look_over.new.contents.items ≡ c.deref.result.now = search rules in
    c.mount_look.ensures (contains nat_cmp c.args.wanted.now)
    (subst (λ l. IsLookAt (contains nat_cmp c.args.wanted.now) g.E.Order.order c.args.geometry.block c.args.image.now l c.in_ok-look.look) held c.in_ok-look.ensures)
