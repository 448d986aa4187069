use Rattle.std.proofs.Common.{◌≡◌, ◌+◌, ◌++◌, ◌∷◌, arith, [], List, ℕ, map, take, sym, subst}
use Rattle.std.specs.Prelude.{IsPermutation, String, Vec}
use Rattle.std.specs.List.{All}
use Rattle.std.specs.String.{string_bytes}
use Rattle.std.specs.declared.alloc.Global.{Global}
use Rattle.std.proofs.lemmas.List.Elements.{All-append, All-nil, All-same}
use Rattle.std.proofs.lemmas.List.Sorted.{IsPermutation-refl}
use Rattle.std.proofs.lemmas.Result.{err_from_is_err_and}
use Rattle.jfolder.specs.Complete.{LeftOut, child, left_paths}
use Rattle.jfolder.specs.Reasons.{IsWrongChild}
use Rattle.jfolder.specs.Walking.{IsChild}
use Rattle.jfolder.proofs.CompleteLemmas.{paths_more, texts}
use Rattle.jfolder.specs.SoFar.{SomeWrong}
use Rattle.jfolder.proofs.SoFarLemmas.{wrong_more}
use Rattle.jfolder.proofs.NoteLemmas.{tells_nothing, tells_up_to, told_then}
use Rattle.jfolder.proofs.ReasonLemmas.{wrong_of_one}
use Rattle.jfolder.proofs.WalkOrderLemmas.{no_paths, order_more}
use Rattle.jfolder.proofs.reading.paths_of.Goals as goal

abbrev UpTo : List ℕ → List (String Global) → ℕ → List (String Global) → List LeftOut → Type 0
UpTo directory names count paths lefts = IsPermutation (map (λ (n : String Global). child directory (string_bytes n)) (take count names)) (texts paths ++ left_paths lefts)
    × All (IsWrongChild directory (texts names)) lefts

abbrev Added : List ℕ → List ℕ → List (String Global) → List (String Global) → List LeftOut → Type 0
Added directory name old new lefts = (texts old ++ child directory name ∷ [] ≡ texts new ++ left_paths lefts) × All (IsWrongChild directory (name ∷ [])) lefts

pub loop-name-init : goal.loop-name-init
loop-name-init g c = record {
  paths = All-same (λ (path : String Global). IsChild c.args.directory.now (string_bytes path)) c.new-paths.result.items [] c.new-paths.ensures.items
      (All-nil (λ (path : String Global). IsChild c.args.directory.now (string_bytes path)));
  order = no_paths c.args.directory.now c.args.names.now c.new-paths.result.items c.new-paths.ensures.items;
  told = tells_nothing (UpTo c.args.directory.now c.args.names.now 0 c.new-paths.result.items) (g.N.Sink.taken c.args.notes.now) (g.N.Sink.failures c.args.notes.now) c.args.left_out.now (omega arith) (
    subst (λ (l : List (String Global)). IsPermutation {X = List ℕ} [] (texts l ++ [])) (sym c.new-paths.ensures.items) (IsPermutation-refl []),
    All-nil (IsWrongChild c.args.directory.now (texts c.args.names.now)),
  );
}

pub returns-in_err-add_child-clause-told : goal.returns-in_err-add_child-clause-told
returns-in_err-add_child-clause-told g c =
    let p = err_from_is_err_and c.from_residual.result c.from_residual.ensures.1 in
    tells_up_to (Unit {0}) (Vec (String Global) Global) (UpTo c.args.directory.now c.args.names.now c.loop-name.name-index c.loop-name.paths.items)
    (λ _ lefts. Added c.args.directory.now c.as_str.result.now c.loop-name.paths.items c.add_child.new.paths.items lefts)
    (λ paths lefts. IsPermutation (map (λ (n : String Global). child c.args.directory.now (string_bytes n)) c.args.names.now) (texts paths.items ++ left_paths lefts)
    × All (IsWrongChild c.args.directory.now (texts c.args.names.now)) lefts)
    (SomeWrong c.args.directory.now (c.as_str.result.now ∷ [])) (SomeWrong c.args.directory.now (texts c.args.names.now))
    (g.N.Sink.taken c.args.notes.now) (g.N.Sink.taken c.loop-name.notes) (g.N.Sink.taken c.add_child.new.notes)
    (g.N.Sink.failures c.args.notes.now) (g.N.Sink.failures c.loop-name.notes) (g.N.Sink.failures c.add_child.new.notes)
    c.args.left_out.now c.loop-name.left_out c.add_child.new.left_out c.add_child.new.left_out c.in_err-add_child.field-0.0 p.0 c.from_residual.result
    p.1 p.2
    (λ before more those these. wrong_more c.args.directory.now c.args.names.now c.loop-name.name-index c.name-item.result c.loop-name.paths.items before more (omega arith) c.name-item.is those.0 those.1
    (subst (λ (l : List ℕ). SomeWrong c.args.directory.now (l ∷ []) more) c.as_str.ensures.value these))
    c.loop-name.invariant.told c.in_err-add_child.ensures.told

pub loop-name-preserved : goal.loop-name-preserved
loop-name-preserved g c = record {
  paths = c.in_ok-add_child.ensures.paths;
  order = order_more c.args.directory.now c.args.names.now c.loop-name.name-index c.name-item.result c.as_str.result.now (texts c.loop-name.paths.items) (texts c.add_child.new.paths.items)
      c.requires (omega arith) c.name-item.is c.as_str.ensures.value c.loop-name.invariant.order c.in_ok-add_child.ensures.added;
  told = told_then (UpTo c.args.directory.now c.args.names.now c.loop-name.name-index c.loop-name.paths.items)
      (Added c.args.directory.now c.as_str.result.now c.loop-name.paths.items c.add_child.new.paths.items)
      (UpTo c.args.directory.now c.args.names.now (c.loop-name.name-index + 1) c.add_child.new.paths.items)
      (g.N.Sink.taken c.args.notes.now) (g.N.Sink.taken c.loop-name.notes) (g.N.Sink.taken c.add_child.new.notes)
      (g.N.Sink.failures c.args.notes.now) (g.N.Sink.failures c.loop-name.notes) (g.N.Sink.failures c.add_child.new.notes)
      c.args.left_out.now c.loop-name.left_out c.add_child.new.left_out
      (λ before more those these.
      let added = subst (λ (l : List ℕ). Added c.args.directory.now l c.loop-name.paths.items c.add_child.new.paths.items more) c.as_str.ensures.value these in (
        paths_more (λ (n : String Global). child c.args.directory.now (string_bytes n)) c.args.names.now c.loop-name.name-index c.name-item.result
            c.loop-name.paths.items c.add_child.new.paths.items before more (omega arith) c.name-item.is those.0 added.0,
        All-append (IsWrongChild c.args.directory.now (texts c.args.names.now)) before more those.1
            (wrong_of_one c.args.directory.now c.args.names.now c.loop-name.name-index c.name-item.result more (omega arith) c.name-item.is added.1),
      ))
      c.loop-name.invariant.told c.in_ok-add_child.ensures.told;
}
