use Rattle.std.proofs.Common.{◌≡◌, Bool, [], Some}
use Rattle.flashbase.specs.Sinks.{change_of}
use Rattle.jedge.proofs.Steps.{does_at, then_err, then_ok}
use Rattle.jmakes.specs.Making.{closes_file}
use Rattle.jmakes.proofs.MakingSteps.{made_put, some_later}
use Rattle.jupdates.proofs.making.make_device.Goals as goal

pub returns-in-Err : goal.returns-in-Err
returns-in-Err g c = then_err c.in-Err.ensures.act

pub returns : goal.returns
returns g c =
    let made = c.in-Ok.created in
    let put = c.put_image-put.ensures in
    let sink = change_of g.H.Made.Sink made.1 c.put_image-put.new.sink in
    let fresh = some_later (g.H.Made.Sink.taken made.1 ≡ Some []) c.in-Ok.ensures.act c.in-Ok.ensures.empty in
    then_ok c.in-Ok.ensures.act (made_put sink put.0 fresh put.1 put.2 (λ t told.
    does_at (λ (well : Bool). closes_file (g.H.Opened.Opened.place made.0) c.args.file.filling well sink.now t)
    c.ends_well.ensures (c.close_file-closed.ensures t told)))
