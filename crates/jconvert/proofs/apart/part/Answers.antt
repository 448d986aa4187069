use Rattle.std.proofs.Common.{rules, ◌∙◌, sym, subst}
use Rattle.jclash.specs.Parting.{AreByAddress}
use Rattle.jconvert.proofs.ApartLemmas.{located_are_in_order}
use Rattle.jconvert.proofs.RoomLemmas.{stay_have_room}
use Rattle.jconvert.proofs.apart.part.Goals as goal

pub without_clashing-requires : goal.without_clashing-requires
without_clashing-requires g c =
    subst AreByAddress (sym (c.deref.ensures.value ∙ c.in-Ok.ensures.nodes)) (located_are_in_order g.E.Order.order c.args.geometry.block c.args.image.now)

pub returns-in-Ok-without_clashing-clause-room : goal.returns-in-Ok-without_clashing-clause-room
returns-in-Ok-without_clashing-clause-room g c =
    stay_have_room g.E.Order.order c.args.geometry.block c.args.image.now c.in-Ok-without_clashing.parted.stay.items c.in-Ok-without_clashing.parted.left.items
    c.requires.accepted (search rules)
