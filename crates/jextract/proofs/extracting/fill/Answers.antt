use Rattle.std.proofs.Common.{◌≡◌, Bool, [], refl, subst, sym, Ok}
use Rattle.std.specs.Prelude.{IsErrAnd}
use Rattle.jextract.specs.Outcomes.{root_alone, tasks_in}
use Rattle.jextract.specs.Parts.{keys_of, part_along}
use Rattle.jextract.specs.Walking.{Sight, Steps, no_totals}
use Rattle.jextract.specs.declared.extracting.Walk.{Walk}
use Rattle.jextract.specs.declared.fault.ExtractFault.{ExtractFault}
use Rattle.jextract.specs.declared.fault.ExtractFault.TheVariants.{OutOfMemory}
use Rattle.jextract.specs.declared.totals.Totals.{Totals}
use Rattle.jextract.proofs.StepLemmas.{stops_before}
use Rattle.jextract.proofs.FillLemmas.{Reached, fills_at_fault, reached_first, reaches_end, reaches_fault, reaches_on}
use Rattle.jextract.proofs.extracting.fill.Goals as goal

pub returns-in_err-firsts : goal.returns-in_err-firsts
returns-in_err-firsts g c =
    let p = part_along (keys_of c.args.way.now) c.args.mounted.now.state in
    let old : Sight = record { made = g.F.Folder.made c.args.folder.now; failures = g.F.Folder.failures c.args.folder.now; told = g.N.Sink.taken c.args.notes.now; told_failures = g.N.Sink.failures c.args.notes.now; totals = no_totals } in
    let is : c.in_err-firsts.field-0.0 ≡ OutOfMemory = c.in_err-firsts.ensures.err in
    fills_at_fault p c.args.owners old old OutOfMemory c.from_residual.result
    (subst (λ (f : ExtractFault). IsErrAnd c.from_residual.result (λ e. e ≡ f)) is c.from_residual.ensures.1)
    (stops_before p c.args.owners root_alone (tasks_in p [] 1) old)

pub loop-walk-init : goal.loop-walk-init
loop-walk-init g c =
    let s = c.args.mounted.now.state in
    let part = keys_of c.args.way.now in
    let old : Sight = record { made = g.F.Folder.made c.args.folder.now; failures = g.F.Folder.failures c.args.folder.now; told = g.N.Sink.taken c.args.notes.now; told_failures = g.N.Sink.failures c.args.notes.now; totals = no_totals } in
    let w : Walk = record { path = c.new.result; ino = 1; left = c.entries.result; above = c.new-2.result; firsts = c.in_ok-firsts.firsts; unread = c.names.result; totals = c.none.result } in
    subst (λ (t : Totals). Reached s part c.args.owners w old (record { made = old.made; failures = old.failures; told = old.told; told_failures = old.told_failures; totals = t })) (sym c.none.ensures)
    (reached_first s part c.args.owners w old c.new.ensures.items refl c.entries.ensures c.new-2.ensures.items c.in_ok-firsts.ensures.ok c.names.ensures)

pub returns-in_err-step : goal.returns-in_err-step
returns-in_err-step g c =
    let s = c.args.mounted.now.state in
    let part = keys_of c.args.way.now in
    let old : Sight = record { made = g.F.Folder.made c.args.folder.now; failures = g.F.Folder.failures c.args.folder.now; told = g.N.Sink.taken c.args.notes.now; told_failures = g.N.Sink.failures c.args.notes.now; totals = no_totals } in
    let now : Sight = record { made = g.F.Folder.made c.loop-walk.folder; failures = g.F.Folder.failures c.loop-walk.folder; told = g.N.Sink.taken c.loop-walk.notes; told_failures = g.N.Sink.failures c.loop-walk.notes; totals = c.loop-walk.walk.totals } in
    let next : Sight = record { made = g.F.Folder.made c.step.new.folder; failures = g.F.Folder.failures c.step.new.folder; told = g.N.Sink.taken c.step.new.notes; told_failures = g.N.Sink.failures c.step.new.notes; totals = c.step.new.self.totals } in
    let fault = c.in_err-step.field-0.0 in
    fills_at_fault (part_along part s) c.args.owners old next fault c.from_residual-in_err-step.result c.from_residual-in_err-step.ensures.1
    (reaches_fault s part c.args.owners c.loop-walk.walk old now next fault c.loop-walk.invariant (c.in_err-step.ensures c.loop-walk.invariant.1 c.loop-walk.invariant.2))

pub loop-walk-preserved : goal.loop-walk-preserved
loop-walk-preserved g c =
    let s = c.args.mounted.now.state in
    let part = keys_of c.args.way.now in
    let old : Sight = record { made = g.F.Folder.made c.args.folder.now; failures = g.F.Folder.failures c.args.folder.now; told = g.N.Sink.taken c.args.notes.now; told_failures = g.N.Sink.failures c.args.notes.now; totals = no_totals } in
    let now : Sight = record { made = g.F.Folder.made c.loop-walk.folder; failures = g.F.Folder.failures c.loop-walk.folder; told = g.N.Sink.taken c.loop-walk.notes; told_failures = g.N.Sink.failures c.loop-walk.notes; totals = c.loop-walk.walk.totals } in
    let next : Sight = record { made = g.F.Folder.made c.step.new.folder; failures = g.F.Folder.failures c.step.new.folder; told = g.N.Sink.taken c.step.new.notes; told_failures = g.N.Sink.failures c.step.new.notes; totals = c.step.new.self.totals } in
    reaches_on s part c.args.owners c.loop-walk.walk c.step.new.self old now next c.loop-walk.invariant
    (subst (λ (on : Bool). Steps s part c.args.owners c.loop-walk.invariant.1 c.loop-walk.walk c.step.new.self (now, next) (Ok on)) c.if-branch.true (c.in_ok-step.ensures c.loop-walk.invariant.1 c.loop-walk.invariant.2))

pub returns : goal.returns
returns g c =
    let s = c.args.mounted.now.state in
    let part = keys_of c.args.way.now in
    let old : Sight = record { made = g.F.Folder.made c.args.folder.now; failures = g.F.Folder.failures c.args.folder.now; told = g.N.Sink.taken c.args.notes.now; told_failures = g.N.Sink.failures c.args.notes.now; totals = no_totals } in
    let now : Sight = record { made = g.F.Folder.made c.loop-walk.folder; failures = g.F.Folder.failures c.loop-walk.folder; told = g.N.Sink.taken c.loop-walk.notes; told_failures = g.N.Sink.failures c.loop-walk.notes; totals = c.loop-walk.walk.totals } in
    let next : Sight = record { made = g.F.Folder.made c.step.new.folder; failures = g.F.Folder.failures c.step.new.folder; told = g.N.Sink.taken c.step.new.notes; told_failures = g.N.Sink.failures c.step.new.notes; totals = c.step.new.self.totals } in
    reaches_end s part c.args.owners c.loop-walk.walk c.step.new.self old now next c.loop-walk.invariant
    (subst (λ (on : Bool). Steps s part c.args.owners c.loop-walk.invariant.1 c.loop-walk.walk c.step.new.self (now, next) (Ok on)) c.if-branch.false (c.in_ok-step.ensures c.loop-walk.invariant.1 c.loop-walk.invariant.2))
