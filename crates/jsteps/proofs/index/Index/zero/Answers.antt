use Rattle.std.proofs.Common.{◌≡◌, ℕ, ◌+◌, ◌≤◌, ap, arith}
use Rattle.jmount.specs.Tree.{object}
use Rattle.jsteps.specs.Nodes.{object_at}
use Rattle.jsteps.specs.Stored.{size_in}
use Rattle.jsteps.proofs.AdvancingLemmas.{top_room, size_is, change_advanced, some_from}
use Rattle.jsteps.proofs.index.Index.zero.Goals as goal

pub overflow_add-size : goal.overflow_add-size
overflow_add-size c =
    let m = c.self.inside in
    let x = c.args.self.now in
    let size : (object_at x c.args.ino).body + c.args.count ≤ 0xFFFFFFFF = c.requires.room.size in
    let same : size_in m.objects c.args.ino ≡ (object_at x c.args.ino).body = size_is m.objects m.names m.next x c.self.view_is c.args.ino in
    let was : c.size_in.result ≡ size_in m.objects c.args.ino = c.size_in.ensures in
    omega arith

pub change-requires : goal.change-requires
change-requires c =
    let m = c.self.inside in
    top_room m.objects m.names m.next c.args.self.now c.self.view_is c.args.ino c.requires.room.version

pub returns : goal.returns
returns c =
    let m = c.self.inside in
    let x = c.args.self.now in
    let a = c.args in
    change_advanced m.objects m.names m.next x c.self.view_is c.change.new.objects a.time a.ino (c.size_in.result + a.count) (λ old. old + a.count)
    (some_from (object x.tree a.ino) c.requires.defined) (ap (λ (n : ℕ). n + a.count) c.size_in.ensures) c.change.ensures
