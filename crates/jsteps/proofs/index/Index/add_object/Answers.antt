use Rattle.std.proofs.Common.{◌≡◌, ◌≤◌, None, refl, arith}
use Rattle.jname.proofs.ContentsByNameLemmas.{err_always}
use Rattle.jsteps.specs.declared.stored.Stored.{Stored}
use Rattle.jsteps.proofs.AdvancingLemmas.{next_is, make_advanced, unchanged, get-unchanged}
use Rattle.jsteps.proofs.index.Index.add_object.Goals as goal

pub overflow_cast-self-inside : goal.overflow_cast-self-inside
overflow_cast-self-inside c =
    let m = c.self.inside in
    let x = c.args.self.now in
    let number : x.tree.next ≤ 0xFFFFFFFF = c.requires.number in
    let same : m.next ≡ x.tree.next = next_is m.objects m.names m.next x c.self.view_is in
    omega arith

pub overflow_add-self : goal.overflow_add-self
overflow_add-self c =
    let m = c.self.inside in
    let x = c.args.self.now in
    let number : x.tree.next ≤ 0xFFFFFFFF = c.requires.number in
    let same : m.next ≡ x.tree.next = next_is m.objects m.names m.next x c.self.view_is in
    omega arith

pub returns-in_err-put_object-clause-err : goal.returns-in_err-put_object-clause-err
returns-in_err-put_object-clause-err c =
    let m = c.self.inside in
    let x = c.args.self.now in
    err_always c.from_residual.result
    (unchanged m.objects m.names m.next x c.self.view_is c.put_object.new.objects m.names (get-unchanged m.objects c.put_object.new.objects c.in_err-put_object.ensures.err) (λ key. refl))

pub returns-clause-ok : goal.returns-clause-ok
returns-clause-ok c =
    let m = c.self.inside in
    let x = c.args.self.now in
    let a = c.args in
    let stored : Stored = record { mode = a.mode; uid = a.uid; gid = a.gid; size = c.own_len.result; atime = a.time; mtime = a.time; ctime = a.time; top = 1 } in
    make_advanced m.objects m.names m.next x c.self.view_is c.put_object.new.objects a.time a.mode a.uid a.gid a.target.now stored c.in_ok-put_object.ensures.ok
    (λ i. record { mode = a.mode; uid = a.uid; gid = a.gid; atime = a.time; mtime = a.time; ctime = a.time; device = None; body = c.own_len.ensures i }) refl
