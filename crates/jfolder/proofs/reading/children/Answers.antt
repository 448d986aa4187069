use Rattle.std.proofs.Common.{◌≡◌, ◌∙◌, ◌++◌, [], Err, ap, refl}
use Rattle.std.specs.Prelude.{IsPermutation, String, Vec}
use Rattle.std.specs.List.{All}
use Rattle.std.specs.declared.alloc.Global.{Global}
use Rattle.std.proofs.lemmas.List.Elements.{All-nil}
use Rattle.std.proofs.lemmas.List.Sorted.{IsPermutation-trans}
use Rattle.jfolder.specs.Complete.{children, left_paths}
use Rattle.jfolder.specs.Known.{named_of}
use Rattle.jfolder.specs.Reasons.{IsUnlisted}
use Rattle.jfolder.specs.SoFar.{SomeUnlisted}
use Rattle.std.proofs.lemmas.Result.{err_from_is_err_and}
use Rattle.jfolder.specs.declared.fault.ReadFault.{ReadFault}
use Rattle.jfolder.specs.declared.host.Names.{Names}
use Rattle.jfolder.proofs.CompleteLemmas.{texts}
use Rattle.jfolder.proofs.NoteLemmas.{tells_as, tells_no_more}
use Rattle.jfolder.proofs.SoFarLemmas.{among_none, children_order, some_order, unlisted_order}
use Rattle.jfolder.proofs.reading.children.Goals as goal

pub returns-in_err-sort-clause-told : goal.returns-in_err-sort-clause-told
returns-in_err-sort-clause-told g c =
    let p = err_from_is_err_and c.from_residual.result c.from_residual.ensures.1 in
    let directory = c.args.directory.now in
    let names = c.args.names in
    tells_no_more (Vec (String Global) Global) _ (SomeUnlisted directory (named_of names)) (g.N.Sink.taken c.args.notes.now) (g.N.Sink.failures c.args.notes.now) c.args.left_out.now c.args.left_out.now
    c.from_residual.result (p.1 ∙ ap (λ (f : ReadFault). Err f) p.2) (among_none (children directory (named_of names)), All-nil (IsUnlisted directory (named_of names)))

pub returns-clause-told : goal.returns-clause-told
returns-clause-told g c =
    let directory = c.args.directory.now in
    let names = c.args.names in
    let sorted : Names = record { texts = c.sort.new.self; others = c.args.names.others } in
    let order = c.sort.ensures.permutation in
    tells_as {X = Vec (String Global) Global}
    (λ paths lefts. IsPermutation (children directory (named_of sorted)) (texts paths.items ++ left_paths lefts) × All (IsUnlisted directory (named_of sorted)) lefts)
    (λ paths lefts. IsPermutation (children directory (named_of names)) (texts paths.items ++ left_paths lefts) × All (IsUnlisted directory (named_of names)) lefts)
    (SomeUnlisted directory (named_of sorted)) (SomeUnlisted directory (named_of names))
    (g.N.Sink.taken c.args.notes.now) (g.N.Sink.taken c.sorted_children.new.notes) (g.N.Sink.failures c.args.notes.now) (g.N.Sink.failures c.sorted_children.new.notes)
    c.args.left_out.now c.sorted_children.new.left_out c.sorted_children.result
    (λ paths lefts is given. (
      IsPermutation-trans (children directory (named_of names)) (children directory (named_of sorted)) (texts paths.items ++ left_paths lefts) (children_order directory names sorted order refl) given.0,
      unlisted_order directory names sorted lefts order refl given.1,
    ))
    (λ lefts some. some_order directory names sorted lefts order refl some)
    c.sorted_children.ensures.told
