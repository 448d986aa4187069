use Rattle.std.proofs.Common.{◌≡◌, ◌++◌, [], Option, Some, arith, refl, subst, sym}
use Rattle.std.proofs.KnownBytes.{Appends-nil}
use Rattle.jfolder.proofs.ReasonLemmas.{none_unlisted}
use Rattle.std.specs.List.{All}
use Rattle.std.specs.Prelude.{IsPermutation, String, Vec}
use Rattle.std.specs.declared.alloc.Global.{Global}
use Rattle.jfolder.specs.Complete.{children_of, left_paths}
use Rattle.jfolder.specs.Notes.{TellsMore}
use Rattle.jfolder.specs.Reasons.{IsUnlistedIn}
use Rattle.jfolder.specs.SoFar.{SomeUnlistedIn}
use Rattle.jfolder.specs.declared.host.Names.{Names}
use Rattle.jfolder.proofs.CompleteLemmas.{texts}
use Rattle.jfolder.proofs.reading.Walk.paths_in.Goals as goal

pub returns-in-None-clause-told : goal.returns-in-None-clause-told
returns-in-None-clause-told g c = (
  [],
  Appends-nil (g.N.Sink.taken c.args.notes.now),
  refl,
  omega arith,
  none_unlisted c.args.path.now c.args.names c.new.result.items c.in-None.is c.new.ensures.items,
)

pub returns-in-Some-clause-told : goal.returns-in-Some-clause-told
returns-in-Some-clause-told g c =
    let is : c.args.names ≡ Some c.in-Some.names = cc in
    subst (λ (n : Option Names). TellsMore {X = Vec (String Global) Global} (λ paths lefts. IsPermutation (children_of c.args.path.now n) (texts paths.items ++ left_paths lefts) × All (IsUnlistedIn c.args.path.now n) lefts)
    (SomeUnlistedIn c.args.path.now n) (record { old = g.N.Sink.taken c.args.notes.now; new = g.N.Sink.taken c.children.new.notes; before = g.N.Sink.failures c.args.notes.now; now = g.N.Sink.failures c.children.new.notes })
    c.args.self.now.left_out c.children.new.left_out c.children.result) (sym is) c.children.ensures.told
