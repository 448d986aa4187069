use Rattle.std.proofs.Common.{◌∙◌, ap, subst, true}
use Rattle.std.specs.Prelude.{map}
use Rattle.jlisting.specs.declared.line.Line.{Line}
use Rattle.jcuts.specs.Cuts.{Asked}
use Rattle.jlog.specs.declared.start.Flash.{Flash}
use Rattle.jview.specs.Through.{IsMountThroughOf}
use Rattle.jedge.specs.Images.{MountsWith}
use Rattle.jedge.proofs.Steps.{answered, answered_at, does_at, then_err, then_ok}
use Rattle.jreads.proofs.CutsLemmas.{lacks_memory, with_memory}
use Rattle.jforetells.specs.Foretelling.{foretells_mounted, telling_foretold}
use Rattle.jforetells.proofs.ForetoldLemmas.{same_asked}
use Rattle.jforetells.proofs.foretelling.tell_lines.Goals as goal

pub returns-in-Err : goal.returns-in-Err
returns-in-Err g c = then_err (answered (lacks_memory c.in-Err.fault c.in-Err.ensures.memory))

pub returns-in-Err-operations : goal.returns-in-Err-operations
returns-in-Err-operations g c = then_err (answered tt)

pub tell_mounted-requires-clause-through : goal.tell_mounted-requires-clause-through
tell_mounted-requires-clause-through g c =
    subst (λ (f : Flash). IsMountThroughOf g.E.Order.order f.geometry.block c.in-Ok-mounted_as.mounted) c.flash_of.ensures c.in-Ok-mounted_as.ensures.1

pub returns-in-Ok-mounted_as : goal.returns-in-Ok-mounted_as
returns-in-Ok-mounted_as g c =
    with_memory (then_ok (answered_at (λ (f : Flash). MountsWith true g.E.Order.order f.geometry.block c.args.base.now) c.flash_of.ensures c.in-Ok-mounted_as.ensures)
    (does_at (λ (asked : Asked). foretells_mounted g.E.Order.order c.args.on asked c.in-Ok-mounted_as.mounted)
    (same_asked (telling_foretold c.args.on) _ _ _ _ (c.as_slice-in-Ok-mounted_as.ensures.value ∙ c.in-Ok-operations.ensures)
    (c.as_slice-in-Ok-mounted_as-2.ensures.value ∙ c.in-Ok.ensures.numbers
    ∙ ap (map (λ (line : Line). line.number)) c.as_slice.ensures.value)) c.tell_mounted.ensures))

pub returns : goal.returns
returns g c = with_memory (then_err (answered_at (λ (f : Flash). MountsWith true g.E.Order.order f.geometry.block c.args.base.now) c.flash_of.ensures c.in-Err-mounted_as.ensures))
