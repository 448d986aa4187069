-- What is printed of two trees, as a call puts it into a sink.
use Rattle.std.proofs.Common.{ℕ, Bool, Ok, Err, ap, refl}
use Rattle.std.specs.List.{flat_map}
use Rattle.std.specs.Prelude.{Result, take}
use Rattle.flashbase.specs.Sinks.{SinkChange}
use Rattle.jmount.specs.Mount.{Mount}
use Rattle.jdiff.specs.Differing.{PutsDifferences}
use Rattle.jreport.specs.declared.faults.ProgramFault.{ProgramFault}
use Rattle.jreport.specs.declared.faults.ProgramFault.TheVariants as program
use Rattle.jdiff.specs.declared.comparing.Comparing.{Comparing}
use Rattle.jedge.specs.Acts.{PutsBy}
use Rattle.jedge.specs.Comparing.{Compares, lines_compared}
use Rattle.jedge.specs.Told.{Told}

pub differs_put : (how : Comparing) (left right : Mount) (answer : ℕ → Told) (s : SinkChange) (put : Result ℕ ProgramFault)
    → PutsDifferences how left.state right.state s.old s.new s.before s.now put → PutsBy (Compares how left right answer) s (lines_compared answer put)
differs_put how left right answer s (Ok count) is = record {
  text = flat_map (λ line. line) is.0;
  says = (is.0, is.1, refl, ap answer is.2);
  put = is.3;
  counts = is.4;
}
differs_put how left right answer s (Err program.Output) is = record {
  text = take is.0.2.0 (flat_map (λ line. line) is.0.0);
  says = (is.0.0, is.0.1, (is.0.2.0, refl));
  put = is.0.2.1;
  counts = is.1;
}
differs_put how left right answer s (Err program.OutOfMemory) is = record {
  text = take is.0.2.0 (flat_map (λ line. line) is.0.0);
  says = (is.0.0, is.0.1, (is.0.2.0, refl));
  put = is.0.2.1;
  counts = is.1;
}
differs_put how left right answer s (Err why) is = absurd is
