use Rattle.std.proofs.Common.{ℕ, ◌<◌, List, length, subst, arith}
use Rattle.std.proofs.lemmas.Grind.{common_steps}
use Rattle.flashbase.specs.Device.{Puts}
use Rattle.jline.proofs.PathLemmas.{path_of_names}
use Rattle.jline.proofs.paths.put_path.Goals as goal

pub returns : goal.returns
returns g c =
    let some : 0 < length c.args.path.now = grind (arith, common_steps, c.is_empty.ensures, c.if-is_empty.false) in
    subst (λ (l : List ℕ). Puts (g.T.Sink.taken c.args.sink.now) (g.T.Sink.taken c.put_names.new.sink) (g.T.Sink.failures c.args.sink.now)
    (g.T.Sink.failures c.put_names.new.sink) l c.put_names.result) (path_of_names c.args.path.now some) c.put_names.ensures
