use Rattle.std.proofs.Common.{[], refl}
use Rattle.jedge.specs.Acts.{Ends, GoesOn}
use Rattle.jlog.specs.View.{address_of}
use Rattle.jmakes.specs.Seen.{emission_seen}
use Rattle.jverifies.proofs.MakingLemmas.{made_at}
use Rattle.jverifies.proofs.making.make_on.Goals as goal

pub returns-in-Ok : goal.returns-in-Ok
returns-in-Ok g c =
    let out = c.emit_in_memory-bytes in
    GoesOn (address_of c.in-Ok.start) [] [] (refl, c.in-Ok.ensures.goes_on) (
      refl,
      made_at g.E.Order.order out.result.0.items (emission_seen out.result.1) _
          c.in-Ok.ensures.flash c.in-Ok.ensures.mount c.deref.ensures.value c.deref-in-Ok.ensures.value c.plan_of.ensures
          out.ensures c.made_in_memory.ensures,
    ) refl

pub returns-in-Err : goal.returns-in-Err
returns-in-Err g c = Ends c.in-Err.fault (refl, c.in-Err.ensures.goes_on) refl
