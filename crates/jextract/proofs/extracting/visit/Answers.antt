use Rattle.std.proofs.Common.{Bool, ◌&&◌, ap, ◌∙◌, map, Ok, sym, subst}
use Rattle.jmount.specs.Tree.{is_directory}
use Rattle.jextract.specs.Making.{firsts_of}
use Rattle.jextract.specs.Outcomes.{Make}
use Rattle.jextract.specs.Parts.{with_names}
use Rattle.jextract.specs.Walking.{Sight, VisitsKnown}
use Rattle.jextract.proofs.WalkLemmas.{known_at_fault, stops, visit_known, works_as}
use Rattle.jextract.proofs.extracting.visit.Goals as goal

pub returns-in_err-is_made-clause-visits : goal.returns-in_err-is_made-clause-visits
returns-in_err-is_made-clause-visits g c names made same =
    let old : Sight = record { made = g.F.Folder.made c.args.folder.now; failures = g.F.Folder.failures c.args.folder.now; told = g.N.Sink.taken c.args.notes.now; told_failures = g.N.Sink.failures c.args.notes.now; totals = c.args.totals.now } in
    let new : Sight = record { made = g.F.Folder.made c.make-done.new.folder; failures = g.F.Folder.failures c.make-done.new.folder; told = g.N.Sink.taken c.settle.new.notes; told_failures = g.N.Sink.failures c.settle.new.notes; totals = c.settle.new.totals } in
    let s = with_names c.args.mounted.now.state names in
    let path = map (λ name. name.now) c.args.path.now in
    let fault = c.in_err-is_made.field-0.0 in
    known_at_fault c.args.mounted.now.state s c.args.owners made (firsts_of c.args.firsts.now) (firsts_of c.make-done.new.firsts) path c.args.ino old new fault c.from_residual.result c.from_residual.ensures.1
    (λ todo. stops s c.args.owners made (Make path c.args.ino) todo old new c.make-done.result fault
    (works_as s c.args.owners (firsts_of c.args.firsts.now) made path c.args.ino old new c.make-done.result same c.make-done.ensures.works) c.in_err-is_made.ensures)

pub returns-then-is_made-clause-visits : goal.returns-then-is_made-clause-visits
returns-then-is_made-clause-visits g c names made same =
    let old : Sight = record { made = g.F.Folder.made c.args.folder.now; failures = g.F.Folder.failures c.args.folder.now; told = g.N.Sink.taken c.args.notes.now; told_failures = g.N.Sink.failures c.args.notes.now; totals = c.args.totals.now } in
    let new : Sight = record { made = g.F.Folder.made c.make-done.new.folder; failures = g.F.Folder.failures c.make-done.new.folder; told = g.N.Sink.taken c.settle.new.notes; told_failures = g.N.Sink.failures c.settle.new.notes; totals = c.settle.new.totals } in
    let s = with_names c.args.mounted.now.state names in
    let path = map (λ name. name.now) c.args.path.now in
    let done = c.in_ok-is_made.is_made in
    subst (λ (b : Bool). VisitsKnown c.args.mounted.now.state s c.args.owners made (firsts_of c.args.firsts.now, firsts_of c.make-done.new.firsts) (Make path c.args.ino) (old, new) (Ok b))
    (ap (λ (b : Bool). b && is_directory s c.args.ino) c.if-is_made.true ∙ sym c.is_directory.ensures)
    (visit_known c.args.mounted.now.state names c.args.owners made (firsts_of c.args.firsts.now) (firsts_of c.make-done.new.firsts) path c.args.ino old new c.make-done.result done same
    c.make-done.ensures.works c.make-done.ensures.firsts c.in_ok-is_made.ensures)

pub returns-else-is_made-clause-visits : goal.returns-else-is_made-clause-visits
returns-else-is_made-clause-visits g c names made same =
    let old : Sight = record { made = g.F.Folder.made c.args.folder.now; failures = g.F.Folder.failures c.args.folder.now; told = g.N.Sink.taken c.args.notes.now; told_failures = g.N.Sink.failures c.args.notes.now; totals = c.args.totals.now } in
    let new : Sight = record { made = g.F.Folder.made c.make-done.new.folder; failures = g.F.Folder.failures c.make-done.new.folder; told = g.N.Sink.taken c.settle.new.notes; told_failures = g.N.Sink.failures c.settle.new.notes; totals = c.settle.new.totals } in
    let s = with_names c.args.mounted.now.state names in
    let path = map (λ name. name.now) c.args.path.now in
    let done = c.in_ok-is_made.is_made in
    subst (λ (b : Bool). VisitsKnown c.args.mounted.now.state s c.args.owners made (firsts_of c.args.firsts.now, firsts_of c.make-done.new.firsts) (Make path c.args.ino) (old, new) (Ok b))
    (ap (λ (b : Bool). b && is_directory s c.args.ino) c.if-is_made.false ∙ sym c.if-is_made.false)
    (visit_known c.args.mounted.now.state names c.args.owners made (firsts_of c.args.firsts.now) (firsts_of c.make-done.new.firsts) path c.args.ino old new c.make-done.result done same
    c.make-done.ensures.works c.make-done.ensures.firsts c.in_ok-is_made.ensures)
