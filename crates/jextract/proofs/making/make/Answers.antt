use Rattle.std.proofs.Common.{◌≡◌, Bool, false, map, ap, ◌∙◌, sym, subst, refl, Ok, Err, Some}
use Rattle.std.specs.Prelude.{string_bytes, IsErrAnd}
use Rattle.jmount.specs.Shown.{readable}
use Rattle.jextract.specs.Making.{Follows, firsts_of}
use Rattle.jextract.specs.Outcomes.{Make, Plan, plan_anew}
use Rattle.jextract.specs.declared.making.MakeFault.{MakeFault}
use Rattle.jextract.proofs.MakingLemmas.{works_without_path, works_as_planned, works_at_fault, works_then_fails, works_without_object, lost_again, lost_anew, planned_again, planned_anew, first_noted, first_known, first_unknown, firsts_fail, firsts_kept}
use Rattle.jextract.proofs.making.make.Goals as goal

pub returns-in_err-path-clause-works : goal.returns-in_err-path-clause-works
returns-in_err-path-clause-works g c =
    works_without_path c.args.mounted.now.state c.args.owners (firsts_of c.args.firsts.now) (Make (map (λ name. name.now) c.args.names.now) c.args.ino) (g.F.Folder.made c.args.folder.now)
    (g.F.Folder.failures c.args.folder.now) c.in_err-path.field-0.0 c.from_residual.result c.in_err-path.ensures c.from_residual.ensures.1

pub returns-in_default-clause-works : goal.returns-in_default-clause-works
returns-in_default-clause-works g c =
    works_without_object c.args.mounted.now.state c.args.owners (firsts_of c.args.firsts.now) (map (λ name. name.now) c.args.names.now) c.args.ino (string_bytes c.in_ok-path.path)
    (g.F.Folder.made c.args.folder.now) (g.F.Folder.failures c.args.folder.now) c.in_ok-path.ensures (sym c.object.ensures ∙ c.in_default.is)

pub returns-in_err-make_again-clause-works : goal.returns-in_err-make_again-clause-works
returns-in_err-make_again-clause-works g c =
    let s = c.args.mounted.now.state in
    let path = map (λ name. name.now) c.args.names.now in
    let there = sym c.object.ensures ∙ c.in-Some.is in
    let known = first_known c.args.firsts.now c.args.ino c.get.result c.in-Some-get.first c.get.ensures.value c.in-Some-get.is ∙ ap Some (sym c.as_str-in-Some-get.ensures.value) in
    let fault = c.in_err-make_again.field-0 in
    works_at_fault s c.args.owners (firsts_of c.args.firsts.now) (Make path c.args.ino)
    (record { old = g.F.Folder.made c.args.folder.now; new = g.F.Folder.made c.make_again.new.folder; before = g.F.Folder.failures c.args.folder.now; now = g.F.Folder.failures c.make_again.new.folder })
    fault.0 c.from_residual-in_err-make_again.result c.from_residual-in_err-make_again.ensures.1
    (works_as_planned s c.args.owners (firsts_of c.args.firsts.now) (Make path c.args.ino) c.as_str.result.now
    (record { old = g.F.Folder.made c.args.folder.now; new = g.F.Folder.made c.make_again.new.folder; before = g.F.Folder.failures c.args.folder.now; now = g.F.Folder.failures c.make_again.new.folder })
    (Err fault.0) (c.in_ok-path.ensures ∙ ap Ok (sym c.as_str.ensures.value))
    (subst (λ (p : Plan). Follows {T = Unit {0}} (record { old = g.F.Folder.made c.args.folder.now; new = g.F.Folder.made c.make_again.new.folder; before = g.F.Folder.failures c.args.folder.now; now = g.F.Folder.failures c.make_again.new.folder }) c.as_str.result.now p (Err fault.0))
    (sym (planned_again s c.args.owners (firsts_of c.args.firsts.now) path c.args.ino c.in-Some.object c.as_str-in-Some-get.result.now there known)) c.in_err-make_again.ensures) (tt {0}))

pub returns-in-Some-get-clause-works : goal.returns-in-Some-get-clause-works
returns-in-Some-get-clause-works g c =
    let s = c.args.mounted.now.state in
    let path = map (λ name. name.now) c.args.names.now in
    let there = sym c.object.ensures ∙ c.in-Some.is in
    let known = first_known c.args.firsts.now c.args.ino c.get.result c.in-Some-get.first c.get.ensures.value c.in-Some-get.is ∙ ap Some (sym c.as_str-in-Some-get.ensures.value) in
    works_as_planned s c.args.owners (firsts_of c.args.firsts.now) (Make path c.args.ino) c.as_str.result.now
    (record { old = g.F.Folder.made c.args.folder.now; new = g.F.Folder.made c.make_again.new.folder; before = g.F.Folder.failures c.args.folder.now; now = g.F.Folder.failures c.make_again.new.folder })
    (Ok false) (c.in_ok-path.ensures ∙ ap Ok (sym c.as_str.ensures.value))
    (subst (λ (p : Plan). Follows {T = Unit {0}} (record { old = g.F.Folder.made c.args.folder.now; new = g.F.Folder.made c.make_again.new.folder; before = g.F.Folder.failures c.args.folder.now; now = g.F.Folder.failures c.make_again.new.folder }) c.as_str.result.now p (Ok (tt {0})))
    (sym (planned_again s c.args.owners (firsts_of c.args.firsts.now) path c.args.ino c.in-Some.object c.as_str-in-Some-get.result.now there known)) c.in_ok-make_again.ensures)
    (lost_again s c.args.owners (firsts_of c.args.firsts.now) path c.args.ino c.in-Some.object c.as_str-in-Some-get.result.now there known)

pub returns-in_err-make_anew-clause-works : goal.returns-in_err-make_anew-clause-works
returns-in_err-make_anew-clause-works g c =
    let s = c.args.mounted.now.state in
    let path = map (λ name. name.now) c.args.names.now in
    let firsts = firsts_of c.args.firsts.now in
    let there = sym c.object.ensures ∙ c.in-Some.is in
    let plan = planned_anew s c.args.owners firsts path c.args.ino c.in-Some.object there (first_unknown c.args.firsts.now c.args.ino c.get.result c.get.ensures.value c.in_default-get.is)
    ∙ ap (plan_anew c.in-Some.object.kind (readable s c.args.ino)) (sym c.attributes_of-attributes.ensures) in
    let fault = c.in_err-make_anew.field-0.0 in
    works_at_fault s c.args.owners firsts (Make path c.args.ino)
    (record { old = g.F.Folder.made c.args.folder.now; new = g.F.Folder.made c.make_anew.new.folder; before = g.F.Folder.failures c.args.folder.now; now = g.F.Folder.failures c.make_anew.new.folder })
    fault c.from_residual-in_err-make_anew.result c.from_residual-in_err-make_anew.ensures.1
    (works_as_planned s c.args.owners firsts (Make path c.args.ino) c.as_str-2.result.now
    (record { old = g.F.Folder.made c.args.folder.now; new = g.F.Folder.made c.make_anew.new.folder; before = g.F.Folder.failures c.args.folder.now; now = g.F.Folder.failures c.make_anew.new.folder })
    (Err fault) (c.in_ok-path.ensures ∙ ap Ok (sym c.as_str-2.ensures.value))
    (subst (λ (p : Plan). Follows {T = Unit {0}} (record { old = g.F.Folder.made c.args.folder.now; new = g.F.Folder.made c.make_anew.new.folder; before = g.F.Folder.failures c.args.folder.now; now = g.F.Folder.failures c.make_anew.new.folder }) c.as_str-2.result.now p (Err fault)) (sym plan) c.in_err-make_anew.ensures) (tt {0}))

pub returns-in_err-note_first-clause-works : goal.returns-in_err-note_first-clause-works
returns-in_err-note_first-clause-works g c =
    let s = c.args.mounted.now.state in
    let path = map (λ name. name.now) c.args.names.now in
    let firsts = firsts_of c.args.firsts.now in
    let there = sym c.object.ensures ∙ c.in-Some.is in
    let plan = planned_anew s c.args.owners firsts path c.args.ino c.in-Some.object there (first_unknown c.args.firsts.now c.args.ino c.get.result c.get.ensures.value c.in_default-get.is)
    ∙ ap (plan_anew c.in-Some.object.kind (readable s c.args.ino)) (sym c.attributes_of-attributes.ensures) in
    works_then_fails s c.args.owners firsts (Make path c.args.ino) c.as_str-2.result.now
    (record { old = g.F.Folder.made c.args.folder.now; new = g.F.Folder.made c.make_anew.new.folder; before = g.F.Folder.failures c.args.folder.now; now = g.F.Folder.failures c.make_anew.new.folder })
    c.from_residual-in_err-note_first.result (Unit {0}) (tt {0}) (c.in_ok-path.ensures ∙ ap Ok (sym c.as_str-2.ensures.value))
    (subst (λ (p : Plan). Follows {T = Unit {0}} (record { old = g.F.Folder.made c.args.folder.now; new = g.F.Folder.made c.make_anew.new.folder; before = g.F.Folder.failures c.args.folder.now; now = g.F.Folder.failures c.make_anew.new.folder }) c.as_str-2.result.now p (Ok (tt {0}))) (sym plan) c.in_ok-make_anew.ensures)
    (subst (λ (f : MakeFault). IsErrAnd c.from_residual-in_err-note_first.result (λ e. e ≡ f)) c.in_err-note_first.ensures.fault c.from_residual-in_err-note_first.ensures.1)

pub returns-clause-works : goal.returns-clause-works
returns-clause-works g c =
    let s = c.args.mounted.now.state in
    let path = map (λ name. name.now) c.args.names.now in
    let firsts = firsts_of c.args.firsts.now in
    let there = sym c.object.ensures ∙ c.in-Some.is in
    let unknown = first_unknown c.args.firsts.now c.args.ino c.get.result c.get.ensures.value c.in_default-get.is in
    let plan = planned_anew s c.args.owners firsts path c.args.ino c.in-Some.object there unknown
    ∙ ap (plan_anew c.in-Some.object.kind (readable s c.args.ino)) (sym c.attributes_of-attributes.ensures) in
    works_as_planned s c.args.owners firsts (Make path c.args.ino) c.as_str-2.result.now
    (record { old = g.F.Folder.made c.args.folder.now; new = g.F.Folder.made c.make_anew.new.folder; before = g.F.Folder.failures c.args.folder.now; now = g.F.Folder.failures c.make_anew.new.folder })
    (Ok c.loses_when_made.result) (c.in_ok-path.ensures ∙ ap Ok (sym c.as_str-2.ensures.value))
    (subst (λ (p : Plan). Follows {T = Unit {0}} (record { old = g.F.Folder.made c.args.folder.now; new = g.F.Folder.made c.make_anew.new.folder; before = g.F.Folder.failures c.args.folder.now; now = g.F.Folder.failures c.make_anew.new.folder }) c.as_str-2.result.now p (Ok (tt {0}))) (sym plan) c.in_ok-make_anew.ensures)
    (c.loses_when_made.ensures ∙ lost_anew s c.args.owners firsts path c.args.ino c.in-Some.object there unknown)

pub returns-clause-firsts : goal.returns-clause-firsts
returns-clause-firsts g c =
    first_noted {T = Bool} c.args.mounted.now.state (firsts_of c.args.firsts.now) (firsts_of c.note_first.new.firsts) (map (λ name. name.now) c.args.names.now) (string_bytes c.in_ok-path.path) c.args.ino
    c.loses_when_made.result c.in_ok-path.ensures c.in_ok-note_first.ensures.notes

pub returns-in-Some-get-clause-firsts : goal.returns-in-Some-get-clause-firsts
returns-in-Some-get-clause-firsts g c =
    let known = first_known c.args.firsts.now c.args.ino c.get.result c.in-Some-get.first c.get.ensures.value c.in-Some-get.is in
    firsts_kept {T = Bool} c.args.mounted.now.state (firsts_of c.args.firsts.now) (map (λ name. name.now) c.args.names.now) (string_bytes c.in_ok-path.path) (string_bytes c.in-Some-get.first.now) c.args.ino (Ok false) c.in_ok-path.ensures known

pub returns-in_err-path-clause-firsts : goal.returns-in_err-path-clause-firsts
returns-in_err-path-clause-firsts g c =
    firsts_fail {T = Bool} c.args.mounted.now.state (firsts_of c.args.firsts.now) (firsts_of c.args.firsts.now) (map (λ name. name.now) c.args.names.now) c.args.ino c.from_residual.result _ c.from_residual.ensures.1 refl

pub returns-in_err-make_again-clause-firsts : goal.returns-in_err-make_again-clause-firsts
returns-in_err-make_again-clause-firsts g c =
    firsts_fail {T = Bool} c.args.mounted.now.state (firsts_of c.args.firsts.now) (firsts_of c.args.firsts.now) (map (λ name. name.now) c.args.names.now) c.args.ino c.from_residual-in_err-make_again.result _ c.from_residual-in_err-make_again.ensures.1 refl

pub returns-in_err-make_anew-clause-firsts : goal.returns-in_err-make_anew-clause-firsts
returns-in_err-make_anew-clause-firsts g c =
    firsts_fail {T = Bool} c.args.mounted.now.state (firsts_of c.args.firsts.now) (firsts_of c.args.firsts.now) (map (λ name. name.now) c.args.names.now) c.args.ino c.from_residual-in_err-make_anew.result _ c.from_residual-in_err-make_anew.ensures.1 refl

pub returns-in_err-note_first-clause-firsts : goal.returns-in_err-note_first-clause-firsts
returns-in_err-note_first-clause-firsts g c =
    firsts_fail {T = Bool} c.args.mounted.now.state (firsts_of c.args.firsts.now) (firsts_of c.note_first.new.firsts) (map (λ name. name.now) c.args.names.now) c.args.ino c.from_residual-in_err-note_first.result _ c.from_residual-in_err-note_first.ensures.1 c.in_err-note_first.ensures.notes
