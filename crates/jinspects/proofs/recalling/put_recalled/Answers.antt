use Rattle.std.proofs.Common.{Ok, Err, sym}
use Rattle.jedge.specs.Told.{Told}
use Rattle.jedge.specs.declared.fault.Fault.{Fault}
use Rattle.jinspects.proofs.RecallLemmas.{recalls_failed, recalls_whole}
use Rattle.jinspects.proofs.recalling.put_recalled.Goals as goal

pub recalled-requires : goal.recalled-requires
recalled-requires g c = c.in-Ok.ensures.0.sound.scannable

pub returns-in-Ok : goal.returns-in-Ok
returns-in-Ok g c = recalls_whole c.args.revision g.E.Order.order c.args.geometry.block c.args.image.now _ (sym c.recalled.ensures) c.in-Ok.ensures

pub returns-in-Err : goal.returns-in-Err
returns-in-Err g c = recalls_failed c.args.revision g.E.Order.order c.args.geometry.block c.args.image.now _ c.in-Err.fault (sym c.recall_fault.ensures) c.in-Err.ensures
