use Rattle.std.proofs.Common.{◌≡◌, ◌≤◌, arith}
use Rattle.std.specs.Prelude.{min}
use Rattle.jmount.specs.Tree.{object}
use Rattle.jsteps.specs.Nodes.{object_at}
use Rattle.jsteps.specs.Stored.{size_in}
use Rattle.jsteps.proofs.IndexLemmas.{some_and}
use Rattle.jsteps.proofs.AdvancingLemmas.{top_room, size_is, change_advanced, body_from}
use Rattle.jsteps.proofs.index.Index.cut.Goals as goal

pub change-requires : goal.change-requires
change-requires c =
    let m = c.self.inside in
    top_room m.objects m.names m.next c.args.self.now c.self.view_is c.args.ino c.requires.room.version

pub returns : goal.returns
returns c =
    let m = c.self.inside in
    let x = c.args.self.now in
    let a = c.args in
    let within : a.count ≤ (object_at x a.ino).body = body_from a.count (object x.tree a.ino) c.requires.defined in
    let same : size_in m.objects a.ino ≡ (object_at x a.ino).body = size_is m.objects m.names m.next x c.self.view_is a.ino in
    let size : a.count ≡ min a.count (size_in m.objects a.ino) = omega arith in
    change_advanced m.objects m.names m.next x c.self.view_is c.change.new.objects a.time a.ino a.count (λ old. min a.count old)
    (some_and (object x.tree a.ino) (λ o. a.count ≤ o.body) c.requires.defined) size c.change.ensures
