use Rattle.std.proofs.Common.{rules, ◌<◌, length}
use Rattle.jreads.specs.Named.{loads_one}
use Rattle.jreads.proofs.NamedLemmas.{goes_file, goes_none, goes_wrong}
use Rattle.jreads.proofs.named.load_each.Goals as goal
use Rattle.jreads.proofs.named.load_each.Goals.{in-Some+in-Ok, in_default}

pub returns-in-Err : goal.returns-in-Err
returns-in-Err g c =
    goes_wrong loads_one _ _ _ c.args.lines.now c.loop-line.line-index c.line-item.result
    c.in-Some.name.now c.args.before c.loop-line.files c.in-Err.fault c.in-Some.ensures
    (search rules) (search rules) c.in-Err.ensures c.loop-line.invariant

pub loop-line-preserved : goal.loop-line-preserved
loop-line-preserved g c =
    let lines = c.args.lines.now in
    let i = c.loop-line.line-index in
    let below : i < length lines = search rules in
    elim c.match-file.branch [
      | in-Some+in-Ok w ↦ rw (w.host-is, w.files-is) (goes_file loads_one _ _ _ lines i c.line-item.result w.in-Some.name.now c.args.before c.loop-line.files _ w.in-Some.ensures below (search rules) w.in-Ok.ensures c.loop-line.invariant)
      | in_default w ↦ rw (w.host-is, w.files-is) (goes_none loads_one _ _ lines i c.line-item.result c.args.before c.loop-line.files w.in_default.ensures below (search rules) c.loop-line.invariant)
    ]
