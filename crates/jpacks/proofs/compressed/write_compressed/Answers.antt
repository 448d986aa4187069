use Rattle.std.proofs.Common.{ℕ, List, Ok, [], ap, refl}
use Rattle.jbuild.specs.HostFiles.{read_of}
use Rattle.jbuild.specs.declared.host_files.HostFiles.{HostFiles}
use Rattle.jedge.proofs.Steps.{answered, does_at, then_err, then_ok}
use Rattle.jedge.specs.Told.{Told}
use Rattle.jupdates.specs.Asked.{device_to_write}
use Rattle.jupdates.specs.Commands.{updates_text}
use Rattle.jpacks.proofs.compressed.write_compressed.Goals as goal

pub returns-in-Ok : goal.returns-in-Ok
returns-in-Ok g c =
    let before = c.into_parts-before in
    let wanted = device_to_write c.args.device in
    then_ok (answered (before.result, refl, λ (name : List ℕ). ap (λ (files : HostFiles). read_of files name) before.ensures.all))
    (then_ok (does_at (λ (t : List ℕ). updates_text g.E.Order.order wanted [] before.result t) c.as_slice.ensures.value c.in-Ok.ensures)
    (answered (ap (λ (told : Told). Ok told) c.found_with.ensures)))

pub returns : goal.returns
returns g c =
    let before = c.into_parts-before in
    let wanted = device_to_write c.args.device in
    then_ok (answered (before.result, refl, λ (name : List ℕ). ap (λ (files : HostFiles). read_of files name) before.ensures.all))
    (then_err (does_at (λ (t : List ℕ). updates_text g.E.Order.order wanted [] before.result t) c.as_slice.ensures.value c.in-Err.ensures))
