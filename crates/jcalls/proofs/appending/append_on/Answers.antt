use Rattle.jlog.specs.View.{address_of, flash_of_start, mount_of}
use Rattle.jcalls.specs.Appending.{IsWrittenOn}
use Rattle.jcalls.proofs.BaseLemmas.{made_on, memory_refused_on, start_refuses}
use Rattle.jcalls.proofs.appending.append_on.Goals as goal

pub returns-in-Ok-of-clause-ok : goal.returns-in-Ok-of-clause-ok
returns-in-Ok-of-clause-ok g c =
    made_on g.E.Order.order c.args.flash (flash_of_start c.in-Ok-of.start) c.args.image.now c.in-Ok.mounted (mount_of c.in-Ok-of.start) (address_of c.in-Ok-of.start) c.append_from.result
    (λ flash image made. IsWrittenOn g.E.Order.order flash image c.args.planned.now.ops.items c.args.planned.now.numbers.items made.bytes.items made.row) c.in-Ok.ensures c.in-Ok-of.ensures.mount
    c.in-Ok-of.ensures.flash c.in-Ok-of.ensures.address c.append_from.ensures.ok

pub returns-in-Ok-of-clause-err : goal.returns-in-Ok-of-clause-err
returns-in-Ok-of-clause-err g c =
    memory_refused_on g.E.Order.order c.args.flash c.args.image.now c.in-Ok.mounted c.append_from.result c.in-Ok.ensures c.append_from.ensures.err

pub returns-clause-err : goal.returns-clause-err
returns-clause-err g c = record {
  is = c.session_told.ensures.is;
  other = c.session_told.ensures.other;
  due =
      start_refuses g.E.Order.order c.args.flash c.args.image.now c.in-Ok.mounted c.in-Err-of.why c.session_told.result c.in-Ok.ensures c.in-Err-of.ensures.fault c.session_told.ensures.told;
}
