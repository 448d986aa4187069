use Rattle.std.proofs.Common.{◌≡◌, ◌∙◌, ◌<◌, ◌∷◌, [], ℕ, List, Err, ap, arith}
use Rattle.std.specs.List.{All}
use Rattle.std.proofs.lemmas.List.Elements.{All-nil}
use Rattle.std.proofs.lemmas.Result.{err_from_is_err_and}
use Rattle.jfolder.specs.Complete.{child, left_paths, unnamed_paths}
use Rattle.jfolder.specs.Reasons.{IsUnnamed}
use Rattle.jfolder.specs.SoFar.{SomeUnnamed}
use Rattle.jfolder.specs.declared.fault.ReadFault.{ReadFault}
use Rattle.jfolder.specs.declared.reason.Reason.TheVariants as reason
use Rattle.jfolder.proofs.NoteLemmas.{tells_as, tells_no_more}
use Rattle.jfolder.proofs.SoFarLemmas.{among_none, left_unnamed, one_unnamed}
use Rattle.jfolder.proofs.reading.leave_out_others.Goals as goal

pub returns-in_err-unnamed : goal.returns-in_err-unnamed
returns-in_err-unnamed g c =
    let p = err_from_is_err_and c.from_residual.result c.from_residual.ensures.1 in
    let directory = c.args.directory.now in
    let others = c.args.others in
    tells_no_more (Unit {0}) _ (SomeUnnamed directory others) (g.N.Sink.taken c.args.notes.now) (g.N.Sink.failures c.args.notes.now) c.args.left_out.now c.args.left_out.now
    c.from_residual.result (p.1 ∙ ap (λ (f : ReadFault). Err f) p.2) (among_none (unnamed_paths directory others), All-nil (IsUnnamed directory others))

pub returns : goal.returns
returns g c =
    let directory = c.args.directory.now in
    let others : ℕ = c.args.others in
    let path : c.as_bytes.result.now ≡ child directory [] = c.as_bytes.ensures.value ∙ c.in_ok-unnamed.ensures in
    let some : 0 < others = omega arith in
    tells_as (λ _ lefts. lefts ≡ (c.as_bytes.result.now, reason.Unnamed others) ∷ [])
    (λ _ lefts. (left_paths lefts ≡ unnamed_paths directory others) × All (IsUnnamed directory others) lefts)
    (λ lefts. lefts ≡ (c.as_bytes.result.now, reason.Unnamed others) ∷ []) (SomeUnnamed directory others)
    (g.N.Sink.taken c.args.notes.now) (g.N.Sink.taken c.leave_out.new.notes) (g.N.Sink.failures c.args.notes.now) (g.N.Sink.failures c.leave_out.new.notes)
    c.args.left_out.now c.leave_out.new.count c.leave_out.result
    (λ v lefts is these. (
      ap left_paths these ∙ ap (λ (l : List ℕ). l ∷ []) path ∙ one_unnamed directory others some,
      (left_unnamed directory c.as_bytes.result.now others lefts these path some).1,
    ))
    (λ lefts these. left_unnamed directory c.as_bytes.result.now others lefts these path some)
    c.leave_out.ensures
