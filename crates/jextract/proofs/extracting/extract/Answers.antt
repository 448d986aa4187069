use Rattle.std.proofs.Common.{subst}
use Rattle.jmount.specs.Tree.{State}
use Rattle.jextract.specs.Walking.{Fills, no_totals}
use Rattle.jextract.proofs.AloneLemmas.{whole_is_part}
use Rattle.jextract.proofs.FillLemmas.{extracts}
use Rattle.jextract.proofs.extracting.extract.Goals as goal

pub returns-in-Ok : goal.returns-in-Ok
returns-in-Ok g c =
    extracts c.args.mounted.now.state c.args.owners
    (record { old = g.F.Folder.made c.args.folder.now; new = g.F.Folder.made c.fill.new.folder; before = g.F.Folder.failures c.args.folder.now; now = g.F.Folder.failures c.fill.new.folder })
    (record { old = g.N.Sink.taken c.args.notes.now; new = g.N.Sink.taken c.fill.new.notes; before = g.N.Sink.failures c.args.notes.now; now = g.N.Sink.failures c.fill.new.notes })
    (g.F.Folder.made c.make_directory.new.self) (g.F.Folder.failures c.make_directory.new.self) c.fill.result c.in-Ok.ensures.adds c.in-Ok.ensures.counts
    (subst (λ (s : State). Fills s c.args.owners (record { made = g.F.Folder.made c.make_directory.new.self; failures = g.F.Folder.failures c.make_directory.new.self; told = g.N.Sink.taken c.args.notes.now; told_failures = g.N.Sink.failures c.args.notes.now; totals = no_totals })
    (record { made = g.F.Folder.made c.fill.new.folder; failures = g.F.Folder.failures c.fill.new.folder; told = g.N.Sink.taken c.fill.new.notes; told_failures = g.N.Sink.failures c.fill.new.notes; totals = no_totals }) c.fill.result)
    (whole_is_part c.args.mounted.now.state) c.fill.ensures)
