use Rattle.jmount.specs.Tree.{object}
use Rattle.jsteps.proofs.AdvancingLemmas.{top_room, attributes_advanced, some_from}
use Rattle.jsteps.proofs.index.Index.set_attributes.Goals as goal

pub set_attributes-requires : goal.set_attributes-requires
set_attributes-requires c =
    let m = c.self.inside in
    top_room m.objects m.names m.next c.args.self.now c.self.view_is c.args.ino c.requires.room.version

pub returns : goal.returns
returns c =
    let m = c.self.inside in
    let x = c.args.self.now in
    attributes_advanced m.objects m.names m.next x c.self.view_is c.set_attributes.new.objects c.args.time c.args.ino c.args.attributes (some_from (object x.tree c.args.ino) c.requires.defined) c.set_attributes.ensures
