use Rattle.std.proofs.Common.{[], ◌∷◌, sym, subst, append-nil, refl}
use Rattle.std.specs.Io.KnownBytes.{Appends}
use Rattle.flashbase.specs.Device.{PutsPart}
use Rattle.jfolder.specs.Complete.{LeftOut}
use Rattle.jfolder.specs.Notes.{left_out_line}
use Rattle.jfolder.proofs.notes.leave_out.Goals as goal

pub returns-in-Ok : goal.returns-in-Ok
returns-in-Ok g c =
    let put = c.in-Ok.ensures in
    let left : LeftOut = (c.args.path.now, c.args.reason) in
    (left ∷ [], subst (Appends (g.N.Sink.taken c.args.notes.now) (g.N.Sink.taken c.put_left_out.new.notes)) (sym (append-nil (left_out_line left))) put.0, put.1, refl, refl)

pub returns-in-Err : goal.returns-in-Err
returns-in-Err g c =
    let put = c.in-Err.ensures in
    let left : LeftOut = (c.args.path.now, c.args.reason) in
    (left ∷ [], subst (PutsPart (g.N.Sink.taken c.args.notes.now) (g.N.Sink.taken c.put_left_out.new.notes)) (sym (append-nil (left_out_line left))) put.0, put.1, refl)
