use Rattle.std.proofs.Common.{rules, ◌<◌, [], length}
use Rattle.jbuild.specs.HostFiles.{read_of}
use Rattle.jreads.specs.Named.{measures_one}
use Rattle.jreads.proofs.NamedLemmas.{goes_wrong, measuring_file, measuring_none}
use Rattle.jreads.proofs.named.measure_named.Goals as goal
use Rattle.jreads.proofs.named.measure_named.Goals.{in-Some+in-Ok, in_default}

pub returns-in-Err : goal.returns-in-Err
returns-in-Err g c =
    let was = c.loop-line.invariant in
    goes_wrong measures_one _ _ _ c.args.lines.now c.loop-line.line-index c.line-item.result
    c.in-Some.name.now [] was.files c.in-Err.fault c.in-Some.ensures
    (search rules) (search rules) (c.in-Err.ensures was.files was.count) was.goes

pub loop-line-preserved : goal.loop-line-preserved
loop-line-preserved g c =
    let lines = c.args.lines.now in
    let i = c.loop-line.line-index in
    let seen = read_of c.loop-line.count.files in
    let below : i < length lines = search rules in
    elim c.match-file.branch [
      | in-Some+in-Ok w ↦ rw (w.host-is, w.count-is) (measuring_file _ _ _ lines i c.line-item.result w.in-Some.name.now seen (read_of w.measure.new.count.files) c.loop-line.count.left _ w.in-Some.ensures below (search rules) w.in-Ok.ensures c.loop-line.invariant)
      | in_default w ↦ rw (w.host-is, w.count-is) (measuring_none _ _ lines i c.line-item.result seen c.loop-line.count.left w.in_default.ensures below (search rules) c.loop-line.invariant)
    ]
