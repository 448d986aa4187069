use Rattle.std.proofs.Common.{◌≡◌, ◌∙◌, ◌++◌, ◌∷◌, [], ℕ, List, Err, ap, append-nil, arith, inr, subst, sym}
use Rattle.std.specs.List.{All}
use Rattle.std.proofs.lemmas.List.Elements.{All-nil}
use Rattle.jfolder.specs.Complete.{child, left_paths}
use Rattle.jfolder.specs.Reasons.{IsWrongChild, IsWrongText}
use Rattle.jfolder.specs.Walking.{IsShortName}
use Rattle.jfolder.proofs.CompleteLemmas.{Paths, child_pushed, texts}
use Rattle.std.proofs.lemmas.Result.{err_from_is_err_and}
use Rattle.jfolder.specs.declared.fault.ReadFault.{ReadFault}
use Rattle.jfolder.specs.SoFar.{SomeWrong}
use Rattle.jfolder.proofs.NoteLemmas.{tells_as, tells_no_more, tells_nothing}
use Rattle.jfolder.proofs.SoFarLemmas.{left_wrong, none_wrong}
use Rattle.jfolder.proofs.WalkOrderLemmas.{none_added}
use Rattle.jfolder.proofs.reading.add_child.Goals as goal

pub returns-in_ok-push-in-None-clause-told : goal.returns-in_ok-push-in-None-clause-told
returns-in_ok-push-in-None-clause-told g c =
    tells_nothing (λ lefts. (texts c.args.paths.now.items ++ child c.args.directory.now c.args.name.now ∷ [] ≡ texts c.push.new.self.items ++ left_paths lefts)
    × All (IsWrongChild c.args.directory.now (c.args.name.now ∷ [])) lefts)
    (g.N.Sink.taken c.args.notes.now) (g.N.Sink.failures c.args.notes.now) c.args.left_out.now (omega arith) (
      child_pushed c.args.paths.now.items c.push.new.self.items c.in_ok-path.path (child c.args.directory.now c.args.name.now) c.in_ok-push-in-None.ensures.items c.in_ok-path.ensures,
      All-nil (IsWrongChild c.args.directory.now (c.args.name.now ∷ [])),
    )

pub returns-in_ok-push-in-None-clause-added : goal.returns-in_ok-push-in-None-clause-added
returns-in_ok-push-in-None-clause-added g c =
    inr (
      subst IsShortName c.as_bytes.ensures.value c.in-None.ensures.none,
      sym (append-nil (texts c.push.new.self.items))
          ∙ sym (child_pushed c.args.paths.now.items c.push.new.self.items c.in_ok-path.path (child c.args.directory.now c.args.name.now) c.in_ok-push-in-None.ensures.items c.in_ok-path.ensures),
    )

pub returns-in-Some-clause-added : goal.returns-in-Some-clause-added
returns-in-Some-clause-added g c = none_added c.leave_out.result c.args.directory.now c.args.name.now (texts c.args.paths.now.items)

pub returns-in_err-path-clause-told : goal.returns-in_err-path-clause-told
returns-in_err-path-clause-told g c =
    let p = err_from_is_err_and c.from_residual.result c.from_residual.ensures.1 in
    tells_no_more (Unit {0}) _ (SomeWrong c.args.directory.now (c.args.name.now ∷ [])) (g.N.Sink.taken c.args.notes.now) (g.N.Sink.failures c.args.notes.now) c.args.left_out.now c.args.left_out.now
    c.from_residual.result (p.1 ∙ ap (λ (f : ReadFault). Err f) p.2) (none_wrong c.args.directory.now (c.args.name.now ∷ []))

pub returns-in_err-push-in-None-clause-told : goal.returns-in_err-push-in-None-clause-told
returns-in_err-push-in-None-clause-told g c =
    let p = err_from_is_err_and c.from_residual-in_err-push-in-None.result c.from_residual-in_err-push-in-None.ensures.1 in
    tells_no_more (Unit {0}) _ (SomeWrong c.args.directory.now (c.args.name.now ∷ [])) (g.N.Sink.taken c.args.notes.now) (g.N.Sink.failures c.args.notes.now) c.args.left_out.now c.args.left_out.now
    c.from_residual-in_err-push-in-None.result (p.1 ∙ ap (λ (f : ReadFault). Err f) p.2) (none_wrong c.args.directory.now (c.args.name.now ∷ []))

pub returns-in-Some-clause-told : goal.returns-in-Some-clause-told
returns-in-Some-clause-told g c =
    let directory = c.args.directory.now in
    let name = c.args.name.now in
    let path : c.as_bytes-in-Some.result.now ≡ child directory name = c.as_bytes-in-Some.ensures.value ∙ c.in_ok-path.ensures in
    let wrong : IsWrongText name c.in-Some.reason = subst (λ (l : List ℕ). IsWrongText l c.in-Some.reason) c.as_bytes.ensures.value c.in-Some.ensures.why in
    tells_as (λ _ lefts. lefts ≡ (c.as_bytes-in-Some.result.now, c.in-Some.reason) ∷ [])
    (λ _ lefts. (texts c.args.paths.now.items ++ child directory name ∷ [] ≡ texts c.args.paths.now.items ++ left_paths lefts) × All (IsWrongChild directory (name ∷ [])) lefts)
    (λ lefts. lefts ≡ (c.as_bytes-in-Some.result.now, c.in-Some.reason) ∷ []) (SomeWrong directory (name ∷ []))
    (g.N.Sink.taken c.args.notes.now) (g.N.Sink.taken c.leave_out.new.notes) (g.N.Sink.failures c.args.notes.now) (g.N.Sink.failures c.leave_out.new.notes)
    c.args.left_out.now c.leave_out.new.count c.leave_out.result
    (λ v lefts is these. (
      ap (λ (l : Paths). texts c.args.paths.now.items ++ l) (sym (ap left_paths these ∙ ap (λ (l : List ℕ). l ∷ []) path)),
      (left_wrong directory name c.as_bytes-in-Some.result.now c.in-Some.reason lefts these path wrong).1,
    ))
    (λ lefts these. left_wrong directory name c.as_bytes-in-Some.result.now c.in-Some.reason lefts these path wrong)
    c.leave_out.ensures
