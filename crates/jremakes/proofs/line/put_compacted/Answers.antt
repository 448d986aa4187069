use Rattle.std.proofs.Common.{refl, take}
use Rattle.jremakes.specs.Compacting.{compacted_line}
use Rattle.jremakes.proofs.line.put_compacted.Goals as goal

pub returns-in-Ok : goal.returns-in-Ok
returns-in-Ok g c = λ answer. record {
  text = compacted_line c.args.told.kept c.args.told.nodes c.args.told.bytes;
  says = (refl, refl);
  put = c.in-Ok.ensures.0;
  counts = c.in-Ok.ensures.1;
}

pub returns-in-Err : goal.returns-in-Err
returns-in-Err g c = λ answer. record {
  text = take c.in-Err.ensures.0.0
      (compacted_line c.args.told.kept c.args.told.nodes c.args.told.bytes);
  says = (c.in-Err.ensures.0.0, refl);
  put = c.in-Err.ensures.0.1;
  counts = c.in-Err.ensures.1;
}
