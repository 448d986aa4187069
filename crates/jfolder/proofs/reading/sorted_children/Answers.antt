use Rattle.std.proofs.Common.{◌≡◌, ◌∙◌, ◌++◌, Err, List, ap, map, subst, sym}
use Rattle.std.specs.Prelude.{IsPermutation, String, Vec}
use Rattle.std.specs.List.{All}
use Rattle.std.specs.String.{string_bytes}
use Rattle.std.specs.declared.alloc.Global.{Global}
use Rattle.std.proofs.lemmas.Result.{err_from_is_err_and}
use Rattle.jfolder.specs.Complete.{child, children, left_paths, unnamed_paths}
use Rattle.jfolder.specs.Known.{named_of}
use Rattle.jfolder.specs.Reasons.{IsUnlisted, IsUnnamed, IsWrongChild}
use Rattle.jfolder.specs.declared.fault.ReadFault.{ReadFault}
use Rattle.jfolder.specs.SoFar.{SomeUnlisted, SomeUnnamed, SomeWrong}
use Rattle.jfolder.proofs.CompleteLemmas.{children_told, same_order, texts}
use Rattle.jfolder.proofs.NoteLemmas.{tells_failed, tells_then}
use Rattle.jfolder.proofs.ReasonLemmas.{unlisted_both}
use Rattle.jfolder.proofs.SoFarLemmas.{unnamed_first, unnamed_then}
use Rattle.jfolder.proofs.reading.sorted_children.Goals as goal

pub returns-clause-told : goal.returns-clause-told
returns-clause-told g c =
    let directory = c.args.directory.now in
    let names = c.args.names.now in
    let others = names.others in
    let same : c.as_slice.result.now ≡ names.texts.items = c.as_slice.ensures.value in
    tells_then {X = Vec (String Global) Global} (λ lefts. (left_paths lefts ≡ unnamed_paths directory others) × All (IsUnnamed directory others) lefts)
    (λ paths lefts. IsPermutation (map (λ (n : String Global). child directory (string_bytes n)) c.as_slice.result.now) (texts paths.items ++ left_paths lefts)
    × All (IsWrongChild directory (texts c.as_slice.result.now)) lefts)
    (λ paths lefts. IsPermutation (children directory (named_of names)) (texts paths.items ++ left_paths lefts) × All (IsUnlisted directory (named_of names)) lefts)
    (SomeWrong directory (texts c.as_slice.result.now)) (SomeUnlisted directory (named_of names))
    (g.N.Sink.taken c.args.notes.now) (g.N.Sink.taken c.leave_out_others.new.notes) (g.N.Sink.taken c.paths_of.new.notes)
    (g.N.Sink.failures c.args.notes.now) (g.N.Sink.failures c.leave_out_others.new.notes) (g.N.Sink.failures c.paths_of.new.notes)
    c.args.left_out.now c.leave_out_others.new.left_out c.paths_of.new.left_out c.paths_of.result
    (λ paths first then unnamed named. (
      children_told directory names.texts.items c.as_slice.result.now others (texts paths.items) first then (same_order names.texts.items c.as_slice.result.now (sym same)) unnamed.0 named.0,
      unlisted_both directory names first then unnamed.1 (subst (λ (l : List (String Global)). All (IsWrongChild directory (texts l)) then) same named.1),
    ))
    (λ first then unnamed named. unnamed_then directory names first then unnamed.0 unnamed.1 (subst (λ (l : List (String Global)). SomeWrong directory (texts l) then) same named))
    c.in_ok-leave_out_others.ensures c.paths_of.ensures.told

pub returns-in_err-leave_out_others-clause-told : goal.returns-in_err-leave_out_others-clause-told
returns-in_err-leave_out_others-clause-told g c =
    let p = err_from_is_err_and c.from_residual.result c.from_residual.ensures.1 in
    let directory = c.args.directory.now in
    let names = c.args.names.now in
    tells_failed (Unit {0}) (Vec (String Global) Global) (λ _ lefts. (left_paths lefts ≡ unnamed_paths directory names.others) × All (IsUnnamed directory names.others) lefts)
    (λ paths lefts. IsPermutation (children directory (named_of names)) (texts paths.items ++ left_paths lefts) × All (IsUnlisted directory (named_of names)) lefts)
    (SomeUnnamed directory names.others) (SomeUnlisted directory (named_of names))
    (g.N.Sink.taken c.args.notes.now) (g.N.Sink.taken c.leave_out_others.new.notes) (g.N.Sink.failures c.args.notes.now) (g.N.Sink.failures c.leave_out_others.new.notes)
    c.args.left_out.now c.leave_out_others.new.left_out c.leave_out_others.new.left_out c.in_err-leave_out_others.field-0.0 c.from_residual.result (p.1 ∙ ap (λ (f : ReadFault). Err f) p.2)
    (λ lefts some. unnamed_first directory names lefts some) c.in_err-leave_out_others.ensures
