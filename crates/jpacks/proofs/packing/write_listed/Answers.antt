use Rattle.std.proofs.Common.{ℕ, List, None, ap, refl}
use Rattle.jbuild.specs.HostFiles.{read_of}
use Rattle.jbuild.specs.declared.host_files.HostFiles.{HostFiles}
use Rattle.jedge.proofs.Steps.{answered, does_at, then_err, then_ok}
use Rattle.jmakes.specs.Commands.{writes_text}
use Rattle.jmakes.specs.Seen.{image_to_write}
use Rattle.jpacks.proofs.packing.write_listed.Goals as goal

pub returns-in-Ok : goal.returns-in-Ok
returns-in-Ok g c =
    let before = c.into_parts-before in
    let wanted = image_to_write g.E.Order.order c.args.image in
    then_ok (answered (before.result, refl, λ (name : List ℕ). ap (λ (files : HostFiles). read_of files name) before.ensures.all))
    (then_ok (does_at (λ (t : List ℕ). writes_text wanted None before.result t) c.as_slice.ensures.value c.in-Ok.ensures)
    (answered refl))

pub returns : goal.returns
returns g c =
    let before = c.into_parts-before in
    let wanted = image_to_write g.E.Order.order c.args.image in
    then_ok (answered (before.result, refl, λ (name : List ℕ). ap (λ (files : HostFiles). read_of files name) before.ensures.all))
    (then_err (does_at (λ (t : List ℕ). writes_text wanted None before.result t) c.as_slice.ensures.value c.in-Err.ensures))
