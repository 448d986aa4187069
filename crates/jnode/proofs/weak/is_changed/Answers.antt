use Rattle.std.proofs.lemmas.List.{take_rest}
use Rattle.std.proofs.Common.{drop}
use Rattle.flashbase.specs.Bytes.{IsErasedRun}
use Rattle.jnode.proofs.CutLemmas.{changed}
use Rattle.jnode.proofs.weak.is_changed.Goals as goal

pub returns : goal.returns
returns c =
    let run : IsErasedRun (drop c.args.cut c.args.bytes.now) c.erased_run.result = rw take_rest at c.erased_run.ensures in
    changed c.args.bytes.now c.args.cut c.erased_run.result c.requires run
