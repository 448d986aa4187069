use Rattle.std.proofs.Common.{ℕ, List, subst}
use Rattle.flashbase.specs.Sinks.{change_of}
use Rattle.jedge.proofs.Steps.{answered, then_err, then_ok}
use Rattle.jmakes.proofs.MakingSteps.{made_put, some_later}
use Rattle.jremakes.specs.Putting.{ComesTo}
use Rattle.jremakes.proofs.compact.make_image.Goals as goal

pub returns-in-Err : goal.returns-in-Err
returns-in-Err g c = then_err (then_err c.in-Err.ensures.act)

pub returns : goal.returns
returns g c =
    let put = c.put_image-put.ensures in
    let closed = c.close_file-closed.result in
    then_ok (then_ok c.in-Ok.ensures.act (made_put (change_of g.H.Made.Sink c.in-Ok.made.1 c.put_image-put.new.sink) put.text
    (some_later _ c.in-Ok.ensures.act c.in-Ok.ensures.empty) put.put put.puts
    (rw c.is_ok.ensures.value at c.close_file-closed.ensures))) (answered (subst (λ (n : List ℕ). ComesTo n c.put_image-put.result closed c.remade.result)
    c.requires.named c.remade.ensures))
