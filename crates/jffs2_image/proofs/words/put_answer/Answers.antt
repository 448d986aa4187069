use Rattle.std.proofs.Common.{refl, take}
use Rattle.jffs2_image.proofs.words.put_answer.Goals as goal

pub returns-in-Ok : goal.returns-in-Ok
returns-in-Ok g c = record {
  text = c.args.text.now;
  says = (refl, refl);
  put = c.in-Ok.ensures.0;
  counts = c.in-Ok.ensures.1;
}

pub returns-in-Err : goal.returns-in-Err
returns-in-Err g c = record {
  text = take c.in-Err.ensures.0.0 c.args.text.now;
  says = (c.in-Err.ensures.0.0, refl);
  put = c.in-Err.ensures.0.1;
  counts = c.in-Err.ensures.1;
}
