use Rattle.std.proofs.Common.{List, ℕ, ◌∙◌, ap}
use Rattle.jinfo.specs.Infos.{info_of}
use Rattle.jedge.proofs.Steps.{does_at, then_err, then_ok}
use Rattle.jauto.specs.Looking.{takes_options}
use Rattle.jauto.specs.Taking.{taking_of}
use Rattle.jauto.specs.declared.taking.Taking.{Taking}
use Rattle.jauto.proofs.looking.look.Goals as goal

pub returns-in-Err : goal.returns-in-Err
returns-in-Err g c = then_err c.in-Err.ensures

pub returns : goal.returns
returns g c =
    let writes = c.args.writes in
    let read = c.in-Ok.image.items in
    let told = c.taking_of-taking.ensures
    ∙ ap (taking_of writes) (c.info_of.ensures ∙ ap info_of c.as_slice.ensures.value) in
    then_ok c.in-Ok.ensures
    (does_at (λ (bytes : List ℕ). takes_options bytes (taking_of writes (info_of read))) c.as_slice-2.ensures.value
    (does_at (λ (what : Taking). takes_options c.as_slice-2.result.now what) told c.take.ensures))
