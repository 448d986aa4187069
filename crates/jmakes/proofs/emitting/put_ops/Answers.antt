use Rattle.flashbase.specs.Sinks.{SinkChange}
use Rattle.jlog.specs.View.{flash_of_start, mount_of, written_flash}
use Rattle.jmakes.specs.Seen.{run_seen}
use Rattle.jmakes.proofs.EmissionLemmas.{not_ran_emits, ran_emits}
use Rattle.jmakes.proofs.emitting.put_ops.Goals as goal

pub returns-in-Ok : goal.returns-in-Ok
returns-in-Ok g c =
    let sink : SinkChange = record {
      old = g.S.Sink.taken c.args.sink;
      new = g.S.Sink.taken c.in-Ok.sink;
      before = g.S.Sink.failures c.args.sink;
      now = g.S.Sink.failures c.in-Ok.sink;
    } in
    ran_emits (written_flash g.E.Order.order (flash_of_start c.args.start.now))
    (mount_of c.args.start.now).image c.args.ops.now (run_seen c.in-Ok.emitted) sink c.requires
    c.in-Ok.ensures.emitted c.in-Ok.ensures.blocks c.in-Ok.ensures.memory

pub returns-in-Err : goal.returns-in-Err
returns-in-Err g c =
    let sink : SinkChange = record {
      old = g.S.Sink.taken c.args.sink;
      new = g.S.Sink.taken c.in-Err.sink;
      before = g.S.Sink.failures c.args.sink;
      now = g.S.Sink.failures c.in-Err.sink;
    } in
    not_ran_emits (written_flash g.E.Order.order (flash_of_start c.args.start.now))
    (mount_of c.args.start.now).image c.args.ops.now c.in-Err.fault sink c.requires
    c.in-Err.ensures.refused
