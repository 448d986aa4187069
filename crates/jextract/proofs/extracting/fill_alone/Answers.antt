use Rattle.std.proofs.Common.{◌≡◌, Bool, false, [], ◌∷◌, refl, subst, Ok}
use Rattle.jmount.specs.Tree.{is_directory}
use Rattle.jextract.specs.Making.{firsts_of}
use Rattle.jextract.specs.Outcomes.{Complete, Make, FirstPaths, root_alone}
use Rattle.jextract.specs.Parts.{part_alone}
use Rattle.jextract.specs.Walking.{Sight, Visits, no_totals}
use Rattle.jextract.specs.declared.totals.Totals.{Totals}
use Rattle.jextract.proofs.AloneLemmas.{counting, fills_alone, not_entered, stops_alone, stops_behind}
use Rattle.jextract.proofs.FillLemmas.{fills_at_fault}
use Rattle.jextract.proofs.extracting.fill_alone.Goals as goal

pub returns-in_err-visit : goal.returns-in_err-visit
returns-in_err-visit g c =
    let s = c.args.mounted.now.state in
    let p = part_alone c.args.name.now c.args.ino s in
    let old : Sight = record { made = g.F.Folder.made c.args.folder.now; failures = g.F.Folder.failures c.args.folder.now; told = g.N.Sink.taken c.args.notes.now; told_failures = g.N.Sink.failures c.args.notes.now; totals = c.none-totals.result } in
    let mid : Sight = record { made = g.F.Folder.made c.visit.new.folder; failures = g.F.Folder.failures c.visit.new.folder; told = g.N.Sink.taken c.visit.new.notes; told_failures = g.N.Sink.failures c.visit.new.notes; totals = c.visit.new.totals } in
    let fault = c.in_err-visit.field-0.0 in
    fills_at_fault p c.args.owners (counting old no_totals) (counting mid no_totals) fault c.from_residual-in_err-visit.result c.from_residual-in_err-visit.ensures.1
    (stops_alone s c.args.owners c.args.name.now c.args.ino (firsts_of c.in_ok-firsts.firsts) old mid no_totals no_totals fault c.in_ok-firsts.ensures.ok
    (c.in_err-visit.ensures.visits p.names (firsts_of c.in_ok-firsts.firsts) refl (Complete [] 1 ∷ [])))

pub returns-in_err-leave : goal.returns-in_err-leave
returns-in_err-leave g c =
    let s = c.args.mounted.now.state in
    let p = part_alone c.args.name.now c.args.ino s in
    let old : Sight = record { made = g.F.Folder.made c.args.folder.now; failures = g.F.Folder.failures c.args.folder.now; told = g.N.Sink.taken c.args.notes.now; told_failures = g.N.Sink.failures c.args.notes.now; totals = c.none-totals.result } in
    let mid : Sight = record { made = g.F.Folder.made c.visit.new.folder; failures = g.F.Folder.failures c.visit.new.folder; told = g.N.Sink.taken c.visit.new.notes; told_failures = g.N.Sink.failures c.visit.new.notes; totals = c.visit.new.totals } in
    let new : Sight = record { made = g.F.Folder.made c.leave.new.folder; failures = g.F.Folder.failures c.leave.new.folder; told = g.N.Sink.taken c.leave.new.notes; told_failures = g.N.Sink.failures c.leave.new.notes; totals = c.leave.new.totals } in
    let entered : c.in_ok-visit.field-0 ≡ false = not_entered c.in_ok-visit.field-0 (is_directory s c.args.ino) c.requires c.in_ok-visit.ensures.entered in
    let once = c.in_ok-visit.ensures.visits p.names (firsts_of c.in_ok-firsts.firsts) refl in
    let visits : Visits p c.args.owners (firsts_of c.in_ok-firsts.firsts) once.0 (Make (c.args.name.now ∷ []) c.args.ino) old mid (Ok false) =
    subst (λ (b : Bool). Visits p c.args.owners (firsts_of c.in_ok-firsts.firsts) once.0 (Make (c.args.name.now ∷ []) c.args.ino) old mid (Ok b)) entered once.1 in
    let fault = c.in_err-leave.field-0.0 in
    fills_at_fault p c.args.owners (counting old no_totals) (counting new no_totals) fault c.from_residual-in_err-leave.result c.from_residual-in_err-leave.ensures.1
    (stops_alone s c.args.owners c.args.name.now c.args.ino (firsts_of c.in_ok-firsts.firsts) old new no_totals no_totals fault c.in_ok-firsts.ensures.ok
    (stops_behind s c.args.owners c.args.name.now c.args.ino (firsts_of c.in_ok-firsts.firsts) once.0 old mid new fault visits (c.in_err-leave.ensures p.names)))

pub returns : goal.returns
returns g c =
    let s = c.args.mounted.now.state in
    let p = part_alone c.args.name.now c.args.ino s in
    let old : Sight = record { made = g.F.Folder.made c.args.folder.now; failures = g.F.Folder.failures c.args.folder.now; told = g.N.Sink.taken c.args.notes.now; told_failures = g.N.Sink.failures c.args.notes.now; totals = no_totals } in
    let mid : Sight = record { made = g.F.Folder.made c.visit.new.folder; failures = g.F.Folder.failures c.visit.new.folder; told = g.N.Sink.taken c.visit.new.notes; told_failures = g.N.Sink.failures c.visit.new.notes; totals = c.visit.new.totals } in
    let new : Sight = record { made = g.F.Folder.made c.leave.new.folder; failures = g.F.Folder.failures c.leave.new.folder; told = g.N.Sink.taken c.leave.new.notes; told_failures = g.N.Sink.failures c.leave.new.notes; totals = c.leave.new.totals } in
    let entered : c.in_ok-visit.field-0 ≡ false = not_entered c.in_ok-visit.field-0 (is_directory s c.args.ino) c.requires c.in_ok-visit.ensures.entered in
    let once = c.in_ok-visit.ensures.visits p.names (firsts_of c.in_ok-firsts.firsts) refl in
    let visits : Visits p c.args.owners root_alone once.0 (Make (c.args.name.now ∷ []) c.args.ino) old mid (Ok false) =
    subst (λ (f : FirstPaths). Visits p c.args.owners f once.0 (Make (c.args.name.now ∷ []) c.args.ino) old mid (Ok false)) c.in_ok-firsts.ensures.ok
    (subst (λ (t : Totals). Visits p c.args.owners (firsts_of c.in_ok-firsts.firsts) once.0 (Make (c.args.name.now ∷ []) c.args.ino)
    (record { made = old.made; failures = old.failures; told = old.told; told_failures = old.told_failures; totals = t }) mid (Ok false)) c.none-totals.ensures
    (subst (λ (b : Bool). Visits p c.args.owners (firsts_of c.in_ok-firsts.firsts) once.0 (Make (c.args.name.now ∷ []) c.args.ino)
    (record { made = old.made; failures = old.failures; told = old.told; told_failures = old.told_failures; totals = c.none-totals.result }) mid (Ok b)) entered
    once.1)) in
    fills_alone s c.args.owners c.args.name.now c.args.ino once.0 old mid new c.in_ok-leave.field-0 visits (c.in_ok-leave.ensures p.names)
