use Rattle.std.specs.BTreeSet.{contains}
use Rattle.std.specs.Ordering.{nat_cmp}
use Rattle.jlook.proofs.ChosenLemmas.{first_answers, nothing_is, without_contents}
use Rattle.jlook.proofs.mounting.mount_without.Goals as goal

pub mount_look-requires : goal.mount_look-requires
mount_look-requires g c = record {
  looked = (
    contains nat_cmp c.new-nothing.result,
    without_contents (contains nat_cmp c.new-nothing.result) (nothing_is c.new-nothing.result c.new-nothing.ensures.empty) g.E.Order.order c.args.geometry.block c.args.image.now
        c.look_over.new.contents.items c.in_ok-look.look c.in_ok-look.ensures,
  );
}

pub returns : goal.returns
returns g c =
    first_answers g.E.Order.order c.args.geometry.block c.args.image.now c.new-nothing.result c.mount_look.result c.new-nothing.ensures.empty
    (c.mount_look.ensures (contains nat_cmp c.new-nothing.result)
    (without_contents (contains nat_cmp c.new-nothing.result) (nothing_is c.new-nothing.result c.new-nothing.ensures.empty) g.E.Order.order c.args.geometry.block c.args.image.now
    c.look_over.new.contents.items c.in_ok-look.look c.in_ok-look.ensures))
