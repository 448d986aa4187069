use Rattle.jcollect.specs.Tiles.{copied_image}
use Rattle.flashbase.specs.Sinks.{change_of}
use Rattle.jremakes.proofs.PuttingLemmas.{all_put, part_put}
use Rattle.jremakes.proofs.compact.put_image.Goals as goal

pub returns-in-Ok : goal.returns-in-Ok
returns-in-Ok g c = all_put
    (copied_image g.E.Order.order c.args.geometry.block c.args.image.now c.args.addresses.now)
    (tt {0}) _ c.requires.sound c.in-Ok.ensures.0 c.in-Ok.ensures.1

pub returns-in-Err : goal.returns-in-Err
returns-in-Err g c = part_put
    (copied_image g.E.Order.order c.args.geometry.block c.args.image.now c.args.addresses.now)
    (tt {0}) (change_of g.S.Sink c.args.sink.now c.put.new.sink) c.requires.sound
    c.in-Err.ensures.0 c.in-Err.ensures.1
