use Rattle.std.proofs.Common.{◌≡◌, ◌+◌, ◌≤◌, length, arith}
use Rattle.std.specs.Prelude.{max}
use Rattle.jmount.specs.Tree.{object}
use Rattle.jsteps.specs.Stored.{size_in}
use Rattle.jsteps.proofs.IndexLemmas.{some_and}
use Rattle.jsteps.proofs.AdvancingLemmas.{top_room, change_advanced}
use Rattle.jsteps.proofs.index.Index.put.Goals as goal

pub change-requires : goal.change-requires
change-requires c =
    let m = c.self.inside in
    top_room m.objects m.names m.next c.args.self.now c.self.view_is c.args.ino c.requires.room.version

pub returns : goal.returns
returns c =
    let m = c.self.inside in
    let x = c.args.self.now in
    let a = c.args in
    let len : c.len.result ≡ length a.bytes.now = c.len.ensures in
    let was : c.size_in.result ≡ size_in m.objects a.ino = c.size_in.ensures in
    let most : c.max-size.result ≡ max c.size_in.result (a.offset + c.len.result) = c.max-size.ensures in
    let size : c.max-size.result ≡ max (size_in m.objects a.ino) (a.offset + length a.bytes.now) = omega arith in
    change_advanced m.objects m.names m.next x c.self.view_is c.change.new.objects a.time a.ino c.max-size.result (λ old. max old (a.offset + length a.bytes.now))
    (some_and (object x.tree a.ino) (λ o. a.offset ≤ o.body) c.requires.defined) size c.change.ensures
