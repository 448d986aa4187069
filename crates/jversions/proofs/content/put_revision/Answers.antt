use Rattle.flashbase.specs.Sinks.{change_of}
use Rattle.jversions.proofs.MountLemmas.{puts_shown}
use Rattle.jversions.proofs.content.put_revision.Goals as goal

pub returns : goal.returns
returns g c =
    puts_shown c.args.revision g.E.Order.order c.args.geometry.block c.args.image.now c.in_ok-mounted.mounted (change_of g.T.Sink c.args.sink.now c.put_object.new.sink) c.put_object.result
    c.in_ok-mounted.ensures c.put_object.ensures
