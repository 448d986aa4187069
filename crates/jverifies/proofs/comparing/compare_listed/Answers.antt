use Rattle.std.proofs.Common.{List, Ok, ap, refl, ℕ}
use Rattle.jbuild.specs.HostFiles.{read_of}
use Rattle.jbuild.specs.declared.host_files.HostFiles.{HostFiles}
use Rattle.jedge.specs.Told.{Told}
use Rattle.jedge.proofs.Steps.{answered, does_at, then_err, then_ok}
use Rattle.jverifies.specs.Seen.{compared_with}
use Rattle.jverifies.specs.Verifying.{compares_text}
use Rattle.jverifies.proofs.comparing.compare_listed.Goals as goal

pub returns-in-Ok : goal.returns-in-Ok
returns-in-Ok g c =
    let before = c.into_parts-before in
    then_ok (answered (before.result, refl, λ (name : List ℕ). ap (λ (files : HostFiles). read_of files name) before.ensures.all))
    (then_ok (does_at (λ (t : List ℕ). compares_text g.E.Order.order (compared_with c.args.against) before.result t) c.as_slice.ensures.value c.in-Ok.ensures)
    (answered (ap (λ (told : Told). Ok told) c.found_with.ensures)))

pub returns : goal.returns
returns g c =
    let before = c.into_parts-before in
    then_ok (answered (before.result, refl, λ (name : List ℕ). ap (λ (files : HostFiles). read_of files name) before.ensures.all))
    (then_err (does_at (λ (t : List ℕ). compares_text g.E.Order.order (compared_with c.args.against) before.result t) c.as_slice.ensures.value c.in-Err.ensures))
