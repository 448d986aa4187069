use Rattle.std.proofs.Common.{◌≡◌, ℕ, cond, List, None, ap, ◌∙◌}
use Rattle.std.specs.Prelude.{◌==◌, ◌&&◌, bytes_eq}
use Rattle.jname.specs.Live.{Key}
use Rattle.jmount.specs.Tree.{object}
use Rattle.jsteps.specs.Stored.{ino_at}
use Rattle.jsteps.proofs.AdvancingLemmas.{top_room, clear_advanced, some_from}
use Rattle.jsteps.proofs.index.Index.remove_name.Goals as goal

pub raise-requires : goal.raise-requires
raise-requires c =
    let m = c.self.inside in
    let room = c.requires.room 0 in
    top_room m.objects m.names m.next c.args.self.now c.self.view_is c.args.directory room.version

pub returns-clause-ok : goal.returns-clause-ok
returns-clause-ok c = λ time.
    let m = c.self.inside in
    let x = c.args.self.now in
    let a = c.args in
    let there = c.requires.defined time in
    let copied : c.deref.result.now ≡ a.name.now = c.deref.ensures.value ∙ c.in_ok-name.ensures in
    let cleared : (key : Key) → ino_at c.clear_name.new.directories key ≡ cond (a.directory == key.0 && bytes_eq c.deref.result.now key.1) None (ino_at m.names key) = c.clear_name.ensures in
    clear_advanced m.objects m.names m.next x c.self.view_is c.raise.new.objects c.clear_name.new.directories time a.directory a.name.now (some_from (object x.tree a.directory) there) c.raise.ensures
    (λ key. cleared key ∙ ap (λ (name : List ℕ). cond (a.directory == key.0 && bytes_eq name key.1) None (ino_at m.names key)) copied)
