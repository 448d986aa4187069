use Rattle.std.proofs.Common.{ap, inl, inr, refl}
use Rattle.jedge.specs.declared.fault.Fault.{Fault}
use Rattle.std.specs.Prelude.{Err}
use Rattle.jfolders.proofs.keeping.listed_of.Goals as goal

pub returns-in-Ok : goal.returns-in-Ok
returns-in-Ok c = inl (
  record {
    text = c.in-Ok.text;
    left_out = c.args.tree.now.left_out;
    files = c.args.closed.files;
  },
  refl,
  c.in-Ok.ensures.text,
  refl,
  refl,
)

pub returns-in-Err : goal.returns-in-Err
returns-in-Err c = inr (ap (λ (f : Fault). Err f) c.in-Err.ensures.memory)
