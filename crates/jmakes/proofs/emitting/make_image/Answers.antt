use Rattle.std.proofs.Common.{◌≡◌, Bool, List, [], Option, Some, ℕ}
use Rattle.flashbase.specs.Sinks.{SinkChange}
use Rattle.jedge.proofs.Steps.{does_at, then_err, then_ok}
use Rattle.jmakes.specs.Making.{closes_file}
use Rattle.jmakes.proofs.MakingSteps.{made_put, some_later}
use Rattle.jmakes.proofs.emitting.make_image.Goals as goal

pub returns-in-Err : goal.returns-in-Err
returns-in-Err g c = then_err c.in-Err.ensures.act

pub returns : goal.returns
returns g c =
    let made = c.in-Ok.created in
    let out = c.put_ops-made.result.0 in
    let put = c.put_ops-made.ensures in
    let sink : SinkChange = record {
      old = g.H.Made.Sink.taken made.1;
      new = g.H.Made.Sink.taken out;
      before = g.H.Made.Sink.failures made.1;
      now = g.H.Made.Sink.failures out;
    } in
    let fresh = some_later (g.H.Made.Sink.taken made.1 ≡ Some []) c.in-Ok.ensures.act c.in-Ok.ensures.empty in
    then_ok c.in-Ok.ensures.act (made_put sink put.0 fresh put.1 put.2 (λ (t : List ℕ) told.
    does_at (λ (well : Bool). closes_file (g.H.Opened.Opened.place made.0) c.args.file.filling well sink.now t)
    c.all_ran-well.ensures (c.close_file-closed.ensures t told)))
