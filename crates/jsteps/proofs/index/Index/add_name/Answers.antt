use Rattle.std.proofs.Common.{◌≡◌, ℕ, cond, List, Some, refl, ap, ◌∙◌}
use Rattle.std.specs.Prelude.{◌==◌, ◌&&◌, bytes_eq}
use Rattle.jname.specs.Live.{Key}
use Rattle.jname.proofs.ContentsByNameLemmas.{err_always}
use Rattle.jmount.specs.Tree.{object}
use Rattle.jsteps.specs.Stored.{ino_at}
use Rattle.jsteps.proofs.AdvancingLemmas.{top_room, set_advanced, unchanged, some_from}
use Rattle.jsteps.proofs.index.Index.add_name.Goals as goal

pub returns-in_err-set_name-clause-err : goal.returns-in_err-set_name-clause-err
returns-in_err-set_name-clause-err c =
    let m = c.self.inside in
    let x = c.args.self.now in
    err_always c.from_residual-in_err-set_name.result
    (unchanged m.objects m.names m.next x c.self.view_is m.objects c.set_name.new.directories (λ i. refl) c.in_err-set_name.ensures.err)

pub raise-requires : goal.raise-requires
raise-requires c =
    let m = c.self.inside in
    let room = c.requires.room 0 in
    top_room m.objects m.names m.next c.args.self.now c.self.view_is c.args.directory room.version

pub returns-clause-ok : goal.returns-clause-ok
returns-clause-ok c = λ time.
    let m = c.self.inside in
    let x = c.args.self.now in
    let a = c.args in
    let there = c.requires.defined time in
    let copied : c.in_ok-name.name.items ≡ a.name.now = c.in_ok-name.ensures in
    let set : (key : Key) → ino_at c.set_name.new.directories key ≡ cond (a.directory == key.0 && bytes_eq c.in_ok-name.name.items key.1) (Some a.ino) (ino_at m.names key) =
    c.in_ok-set_name.ensures.ok in
    set_advanced m.objects m.names m.next x c.self.view_is c.raise.new.objects c.set_name.new.directories time a.directory a.name.now a.ino (some_from (object x.tree a.directory) there) c.raise.ensures
    (λ key. set key ∙ ap (λ (name : List ℕ). cond (a.directory == key.0 && bytes_eq name key.1) (Some a.ino) (ino_at m.names key)) copied)
