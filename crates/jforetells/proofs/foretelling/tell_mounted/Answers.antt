use Rattle.std.proofs.Common.{subst}
use Rattle.std.specs.Prelude.{IsOk}
use Rattle.jlog.specs.Resuming.{resumes}
use Rattle.jlog.specs.declared.start.Flash.{Flash}
use Rattle.jedge.proofs.Steps.{answered_at, then_err, then_ok}
use Rattle.jreads.specs.CutTexts.{StartsOn}
use Rattle.jforetells.proofs.foretelling.tell_mounted.Goals as goal

pub print_told-requires-clause-through : goal.print_told-requires-clause-through
print_told-requires-clause-through g c = c.requires.through

pub print_told-requires-clause-goes_on : goal.print_told-requires-clause-goes_on
print_told-requires-clause-goes_on g c = subst (λ (f : Flash). IsOk (resumes g.E.Order.order f c.args.mounted.now)) c.flash_of.ensures c.in-Ok.ensures

pub returns-in-Ok : goal.returns-in-Ok
returns-in-Ok g c = then_ok (answered_at (λ (f : Flash). StartsOn g.E.Order.order f c.args.mounted.now) c.flash_of.ensures c.in-Ok.ensures) c.print_told.ensures

pub returns-in-Err : goal.returns-in-Err
returns-in-Err g c = then_err (answered_at (λ (f : Flash). StartsOn g.E.Order.order f c.args.mounted.now) c.flash_of.ensures c.in-Err.ensures)
