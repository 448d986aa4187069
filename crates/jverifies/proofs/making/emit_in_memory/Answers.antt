use Rattle.jlog.specs.View.{flash_of_start, mount_of, written_flash}
use Rattle.jmakes.specs.Seen.{run_seen}
use Rattle.jverifies.proofs.MakingLemmas.{emitted_in_memory, not_run_in_memory}
use Rattle.jverifies.proofs.making.emit_in_memory.Goals as goal

pub returns-in-Ok : goal.returns-in-Ok
returns-in-Ok g c =
    let first = c.new-held.result in
    let last = c.in-Ok.held in
    emitted_in_memory (written_flash g.E.Order.order (flash_of_start c.args.start.now)) (mount_of c.args.start.now).image c.args.ops.now (run_seen c.in-Ok.emitted)
    first.bytes.items last.bytes.items first.failures last.failures c.new-held.ensures
    c.in-Ok.ensures.emitted c.in-Ok.ensures.blocks c.in-Ok.ensures.memory

pub returns-in-Err : goal.returns-in-Err
returns-in-Err g c =
    let first = c.new-held.result in
    let last = c.in-Err.held in
    not_run_in_memory (written_flash g.E.Order.order (flash_of_start c.args.start.now)) (mount_of c.args.start.now).image c.args.ops.now c.in-Err.fault
    first.bytes.items last.bytes.items first.failures last.failures c.new-held.ensures c.in-Err.ensures.refused
