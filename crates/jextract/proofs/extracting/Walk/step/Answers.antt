use Rattle.std.proofs.Common.{◌≡◌, map, ℕ, Bool, true, List, [], ◌∷◌, ◌++◌, ◌-◌, ◌+◌, ◌≤◌, length, if◌then◌else◌, refl, sym, ap, ◌∙◌, subst, take, Ok, Err}
use Rattle.std.specs.Prelude.{IsErrAnd}
use Rattle.jmount.specs.Tree.{entries_in}
use Rattle.jextract.specs.Making.{firsts_of}
use Rattle.jextract.specs.Outcomes.{Make}
use Rattle.jextract.specs.Parts.{is_in_part, keys_of, part_along}
use Rattle.jextract.specs.Walking.{NotesVisit, Sight, extraction_todo, Visits, Completes, extraction_way, unmade}
use Rattle.jextract.specs.declared.extracting.Walk.{Walk}
use Rattle.jextract.specs.declared.fault.ExtractFault.{ExtractFault}
use Rattle.jextract.specs.declared.fault.ExtractFault.TheVariants.{OutOfMemory}
use Rattle.jextract.proofs.OnWayLemmas.{enters_on, known_here, one_unread, skips_on, stays_on}
use Rattle.jextract.proofs.StepLemmas.{enters, leave_failed, leaves_as, skips, stays, step_at_fault, stops_before, visit_at, visit_failed, visited_then_stops, way_back, way_on, step_left}
use Rattle.jextract.proofs.extracting.Walk.step.Goals as goal

pub returns-in_err-leave : goal.returns-in_err-leave
returns-in_err-leave g c made on_way =
    let s = c.args.mounted.now.state in
    let part = keys_of c.args.way.now in
    let w = c.args.self.now in
    let old : Sight = record { made = g.F.Folder.made c.args.folder.now; failures = g.F.Folder.failures c.args.folder.now; told = g.N.Sink.taken c.args.notes.now; told_failures = g.N.Sink.failures c.args.notes.now; totals = c.args.self.now.totals } in
    let new : Sight = record { made = g.F.Folder.made c.leave.new.folder; failures = g.F.Folder.failures c.leave.new.folder; told = g.N.Sink.taken c.leave.new.notes; told_failures = g.N.Sink.failures c.leave.new.notes; totals = c.leave.new.totals } in
    let n : Walk = record { path = w.path; ino = w.ino; left = c.next.new.self; above = w.above; firsts = w.firsts; unread = w.unread; totals = c.leave.new.totals } in
    let fault = c.in_err-leave.field-0.0 in
    step_at_fault s part c.args.owners made w n old new fault c.from_residual.result c.from_residual.ensures.1
    (leave_failed (part_along part s) part c.args.owners made w old new fault c.in_default.ensures.steps.0
    (subst (λ (p : List (List ℕ)). Completes (part_along part s) c.args.owners p w.ino old new (Err fault)) (ap (map (λ name. name.now)) c.deref.ensures.value) (c.in_err-leave.ensures (part_along part s).names)))

pub returns-in_default : goal.returns-in_default
returns-in_default g c made on_way =
    let s = c.args.mounted.now.state in
    let part = keys_of c.args.way.now in
    let w = c.args.self.now in
    let old : Sight = record { made = g.F.Folder.made c.args.folder.now; failures = g.F.Folder.failures c.args.folder.now; told = g.N.Sink.taken c.args.notes.now; told_failures = g.N.Sink.failures c.args.notes.now; totals = c.args.self.now.totals } in
    let new : Sight = record { made = g.F.Folder.made c.leave.new.folder; failures = g.F.Folder.failures c.leave.new.folder; told = g.N.Sink.taken c.leave.new.notes; told_failures = g.N.Sink.failures c.leave.new.notes; totals = c.leave.new.totals } in
    let done = c.in_ok-leave.field-0 in
    let m : Walk = record { path = w.path; ino = w.ino; left = c.next.new.self; above = w.above; firsts = w.firsts; unread = w.unread; totals = c.leave.new.totals } in
    leaves_as s part c.args.owners made w m c.go_up.new.self old new done c.go_up.result c.in_default.ensures.steps.0 refl refl refl refl
    (subst (λ (p : List (List ℕ)). Completes (part_along part s) c.args.owners p w.ino old new (Ok done)) (ap (map (λ name. name.now)) c.deref.ensures.value) (c.in_ok-leave.ensures (part_along part s).names)) c.go_up.ensures refl on_way

pub returns-then-not-is_in_part : goal.returns-then-not-is_in_part
returns-then-not-is_in_part g c made on_way =
    let s = c.args.mounted.now.state in
    let part = keys_of c.args.way.now in
    let w = c.args.self.now in
    let old : Sight = record { made = g.F.Folder.made c.args.folder.now; failures = g.F.Folder.failures c.args.folder.now; told = g.N.Sink.taken c.args.notes.now; told_failures = g.N.Sink.failures c.args.notes.now; totals = c.args.self.now.totals } in
    let n : Walk = record { path = w.path; ino = w.ino; left = c.next.new.self; above = w.above; firsts = w.firsts; unread = c.next-2.new.self; totals = w.totals } in
    let x : List ℕ × ℕ = (c.in-Some.name.now, c.in-Some.ino) in
    let unread = one_unread s made w x c.next.new.self c.in-Some.ensures.steps on_way c.next-2.new.self c.next-2.result c.next-2.ensures.steps in
    skips s part c.args.owners made w n x.0 x.1 unread.0 old c.in-Some.ensures.steps (sym c.is_in_part.ensures ∙ c.if-not-is_in_part.true) refl refl refl unread.1
    (skips_on s made w x c.next.new.self c.in-Some.ensures.steps on_way n unread.0 refl refl refl unread.1 refl)

pub returns-in_err-push : goal.returns-in_err-push
returns-in_err-push g c made on_way =
    let s = c.args.mounted.now.state in
    let part = keys_of c.args.way.now in
    let w = c.args.self.now in
    let old : Sight = record { made = g.F.Folder.made c.args.folder.now; failures = g.F.Folder.failures c.args.folder.now; told = g.N.Sink.taken c.args.notes.now; told_failures = g.N.Sink.failures c.args.notes.now; totals = c.args.self.now.totals } in
    let n : Walk = record { path = c.push.new.self; ino = w.ino; left = c.next.new.self; above = w.above; firsts = w.firsts; unread = c.next-2.new.self; totals = w.totals } in
    step_at_fault s part c.args.owners made w n old old OutOfMemory c.from_residual-in_err-push.result c.from_residual-in_err-push.ensures.1 (stops_before (part_along part s) c.args.owners made (extraction_todo part w) old)

pub returns-in_err-visit : goal.returns-in_err-visit
returns-in_err-visit g c made on_way =
    let s = c.args.mounted.now.state in
    let part = keys_of c.args.way.now in
    let w = c.args.self.now in
    let inside : is_in_part part w.ino c.in-Some.name.now ≡ true = sym c.is_in_part.ensures ∙ c.if-not-is_in_part.false in
    let old : Sight = record { made = g.F.Folder.made c.args.folder.now; failures = g.F.Folder.failures c.args.folder.now; told = g.N.Sink.taken c.args.notes.now; told_failures = g.N.Sink.failures c.args.notes.now; totals = c.args.self.now.totals } in
    let new : Sight = record { made = g.F.Folder.made c.visit.new.folder; failures = g.F.Folder.failures c.visit.new.folder; told = g.N.Sink.taken c.visit.new.notes; told_failures = g.N.Sink.failures c.visit.new.notes; totals = c.visit.new.totals } in
    let n : Walk = record { path = c.push.new.self; ino = w.ino; left = c.next.new.self; above = w.above; firsts = c.visit.new.firsts; unread = c.next-2.new.self; totals = c.visit.new.totals } in
    let way = way_on w c.in-Some.name c.deref-2.result.now c.push.new.self.items c.deref-2.ensures.value c.in_ok-push.ensures.items in
    let fault = c.in_err-visit.field-0.0 in
    let known = known_here s made w (c.in-Some.name.now, c.in-Some.ino) c.next.new.self c.in-Some.ensures.steps on_way in
    let visits = visit_at (part_along part s) c.args.owners made made _ (extraction_way w ++ c.in-Some.name.now ∷ []) c.in-Some.ino old new (Err fault) way (c.in_err-visit.ensures.visits (part_along part s).names made known) in
    step_at_fault s part c.args.owners made w n old new fault c.from_residual-in_err-visit.result c.from_residual-in_err-visit.ensures.1
    (visit_failed (part_along part s) part c.args.owners made w n c.in-Some.name.now c.in-Some.ino c.next.new.self made old new fault c.in-Some.ensures.steps inside visits)

pub returns-in_err-enter : goal.returns-in_err-enter
returns-in_err-enter g c made on_way =
    let s = c.args.mounted.now.state in
    let part = keys_of c.args.way.now in
    let w = c.args.self.now in
    let inside : is_in_part part w.ino c.in-Some.name.now ≡ true = sym c.is_in_part.ensures ∙ c.if-not-is_in_part.false in
    let old : Sight = record { made = g.F.Folder.made c.args.folder.now; failures = g.F.Folder.failures c.args.folder.now; told = g.N.Sink.taken c.args.notes.now; told_failures = g.N.Sink.failures c.args.notes.now; totals = c.args.self.now.totals } in
    let new : Sight = record { made = g.F.Folder.made c.visit.new.folder; failures = g.F.Folder.failures c.visit.new.folder; told = g.N.Sink.taken c.visit.new.notes; told_failures = g.N.Sink.failures c.visit.new.notes; totals = c.enter.new.self.totals } in
    let way = way_on w c.in-Some.name c.deref-2.result.now c.push.new.self.items c.deref-2.ensures.value c.in_ok-push.ensures.items in
    let entered = c.in_ok-visit.field-0 in
    let seen : Sight = record { made = g.F.Folder.made c.visit.new.folder; failures = g.F.Folder.failures c.visit.new.folder; told = g.N.Sink.taken c.visit.new.notes; told_failures = g.N.Sink.failures c.visit.new.notes; totals = c.visit.new.totals } in
    let x : List ℕ × ℕ = (c.in-Some.name.now, c.in-Some.ino) in
    let known = known_here s made w x c.next.new.self c.in-Some.ensures.steps on_way in
    let once = c.in_ok-visit.ensures.visits (part_along part s).names made known in
    let visits = visit_at (part_along part s) c.args.owners made once.0 _ (extraction_way w ++ c.in-Some.name.now ∷ []) c.in-Some.ino old seen (Ok entered) way once.1 in
    let is : c.in_err-enter.field-0.0 ≡ OutOfMemory = c.in_err-enter.ensures in
    step_at_fault s part c.args.owners made w c.enter.new.self old new OutOfMemory c.from_residual-in_err-enter.result
    (subst (λ (f : ExtractFault). IsErrAnd c.from_residual-in_err-enter.result (λ e. e ≡ f)) is c.from_residual-in_err-enter.ensures.1)
    (visited_then_stops (part_along part s) part c.args.owners made w c.in-Some.name.now c.in-Some.ino c.next.new.self once.0 old seen entered c.in-Some.ensures.steps inside visits)

pub returns-in_ok-enter : goal.returns-in_ok-enter
returns-in_ok-enter g c made on_way =
    let s = c.args.mounted.now.state in
    let part = keys_of c.args.way.now in
    let w = c.args.self.now in
    let inside : is_in_part part w.ino c.in-Some.name.now ≡ true = sym c.is_in_part.ensures ∙ c.if-not-is_in_part.false in
    let old : Sight = record { made = g.F.Folder.made c.args.folder.now; failures = g.F.Folder.failures c.args.folder.now; told = g.N.Sink.taken c.args.notes.now; told_failures = g.N.Sink.failures c.args.notes.now; totals = c.args.self.now.totals } in
    let seen : Sight = record { made = g.F.Folder.made c.visit.new.folder; failures = g.F.Folder.failures c.visit.new.folder; told = g.N.Sink.taken c.visit.new.notes; told_failures = g.N.Sink.failures c.visit.new.notes; totals = c.visit.new.totals } in
    let way = way_on w c.in-Some.name c.deref-2.result.now c.push.new.self.items c.deref-2.ensures.value c.in_ok-push.ensures.items in
    let x : List ℕ × ℕ = (c.in-Some.name.now, c.in-Some.ino) in
    let known = known_here s made w x c.next.new.self c.in-Some.ensures.steps on_way in
    let once = c.in_ok-visit.ensures.visits (part_along part s).names made known in
    let visits = visit_at (part_along part s) c.args.owners made once.0 _ (extraction_way w ++ c.in-Some.name.now ∷ []) c.in-Some.ino old seen (Ok c.in_ok-visit.field-0) way once.1 in
    let is = c.in_ok-enter.ensures in
    let n = c.enter.new.self in
    let entered = c.if-branch.true in
    let count : unmade s once.0 + length (entries_in s c.in-Some.ino) ≤ unmade s made = subst (λ (b : Bool). unmade s once.0 + (if b then length (entries_in s c.in-Some.ino) else 0) ≤ unmade s made) entered once.2 in
    let remembers : NotesVisit s made once.0 (firsts_of w.firsts, firsts_of n.firsts) c.in-Some.ino true =
    subst (λ f. NotesVisit s made once.0 (firsts_of w.firsts, firsts_of f) c.in-Some.ino true) (sym is.4)
    (subst (λ (b : Bool). NotesVisit s made once.0 (firsts_of w.firsts, firsts_of c.visit.new.firsts) c.in-Some.ino b) entered once.3) in
    let taken = one_unread s made w x c.next.new.self c.in-Some.ensures.steps on_way c.next-2.new.self c.next-2.result c.next-2.ensures.steps in
    let unread : w.unread ≡ taken.0 ∷ n.unread = taken.1 ∙ ap (λ l. taken.0 ∷ l) (sym is.6) in
    step_left s part c.args.owners made w n old seen true is.5
    (enters s part c.args.owners made once.0 w n c.in-Some.name.now c.in-Some.ino c.next.new.self taken.0 old seen c.in-Some.ensures.steps inside is.1 is.0 is.2
    (ap (λ p. map (λ name. name.now) p.items) is.3 ∙ way_on w c.in-Some.name c.push.new.self.items c.push.new.self.items refl c.in_ok-push.ensures.items) unread
    (enters_on s made w x c.next.new.self c.in-Some.ensures.steps on_way n taken.0 once.0 is.1 is.0 is.2 unread count remembers)
    (subst (λ (b : Bool). Visits (part_along part s) c.args.owners made once.0 (Make (extraction_way w ++ c.in-Some.name.now ∷ []) c.in-Some.ino) old seen (Ok b)) entered visits))

pub returns-else-branch : goal.returns-else-branch
returns-else-branch g c made on_way =
    let s = c.args.mounted.now.state in
    let part = keys_of c.args.way.now in
    let w = c.args.self.now in
    let inside : is_in_part part w.ino c.in-Some.name.now ≡ true = sym c.is_in_part.ensures ∙ c.if-not-is_in_part.false in
    let old : Sight = record { made = g.F.Folder.made c.args.folder.now; failures = g.F.Folder.failures c.args.folder.now; told = g.N.Sink.taken c.args.notes.now; told_failures = g.N.Sink.failures c.args.notes.now; totals = c.args.self.now.totals } in
    let seen : Sight = record { made = g.F.Folder.made c.visit.new.folder; failures = g.F.Folder.failures c.visit.new.folder; told = g.N.Sink.taken c.visit.new.notes; told_failures = g.N.Sink.failures c.visit.new.notes; totals = c.visit.new.totals } in
    let way = way_on w c.in-Some.name c.deref-2.result.now c.push.new.self.items c.deref-2.ensures.value c.in_ok-push.ensures.items in
    let x : List ℕ × ℕ = (c.in-Some.name.now, c.in-Some.ino) in
    let known = known_here s made w x c.next.new.self c.in-Some.ensures.steps on_way in
    let once = c.in_ok-visit.ensures.visits (part_along part s).names made known in
    let visits = visit_at (part_along part s) c.args.owners made once.0 _ (extraction_way w ++ c.in-Some.name.now ∷ []) c.in-Some.ino old seen (Ok c.in_ok-visit.field-0) way once.1 in
    let n : Walk = record { path = c.pop.new.self; ino = w.ino; left = c.next.new.self; above = w.above; firsts = c.visit.new.firsts; unread = c.next-2.new.self; totals = c.visit.new.totals } in
    let unread = one_unread s made w x c.next.new.self c.in-Some.ensures.steps on_way c.next-2.new.self c.next-2.result c.next-2.ensures.steps in
    stays s part c.args.owners made once.0 w n c.in-Some.name.now c.in-Some.ino unread.0 old seen c.in-Some.ensures.steps inside refl refl
    (way_back w c.in-Some.name c.push.new.self.items c.pop.new.self.items c.in_ok-push.ensures.items
    (c.pop.ensures.rest ∙ ap (λ (k : ℕ). take (k - 1) c.push.new.self.items) c.push.new.self.ok.0)) unread.1
    (stays_on s made w x c.next.new.self c.in-Some.ensures.steps on_way n unread.0 refl refl refl unread.1 once.0 c.in_ok-visit.field-0 once.2 once.3)
    (subst (λ (b : Bool). Visits (part_along part s) c.args.owners made once.0 (Make (extraction_way w ++ c.in-Some.name.now ∷ []) c.in-Some.ino) old seen (Ok b)) c.if-branch.false visits)
