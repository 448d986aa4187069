use Rattle.std.proofs.Common.{map}
use Rattle.jextract.specs.Parts.{with_names}
use Rattle.jextract.specs.Walking.{Sight}
use Rattle.jextract.proofs.WalkLemmas.{completes}
use Rattle.jextract.proofs.extracting.leave.Goals as goal

pub returns : goal.returns
returns g c names =
    let old : Sight = record { made = g.F.Folder.made c.args.folder.now; failures = g.F.Folder.failures c.args.folder.now; told = g.N.Sink.taken c.args.notes.now; told_failures = g.N.Sink.failures c.args.notes.now; totals = c.args.totals.now } in
    let new : Sight = record { made = g.F.Folder.made c.complete-done.new.folder; failures = g.F.Folder.failures c.complete-done.new.folder; told = g.N.Sink.taken c.settle.new.notes; told_failures = g.N.Sink.failures c.settle.new.notes; totals = c.settle.new.totals } in
    completes (with_names c.args.mounted.now.state names) c.args.owners (map (λ name. name.now) c.args.path.now) c.args.ino old new c.complete-done.result c.settle.result c.complete-done.ensures c.settle.ensures
