-- What is told of operations on an image, as a call puts it into a sink.
use Rattle.std.proofs.Common.{◌≡◌, ◌∙◌, ◌++◌, ℕ, List, [], None, Some, Ok, Err, ap, inl, inr, length, refl, sym, subst}
use Rattle.std.specs.Prelude.{Result, take}
use Rattle.flashbase.specs.Sinks.{SinkChange}
use Rattle.jnode.specs.declared.order.Endian.{Endian}
use Rattle.jlog.specs.declared.fault.SessionFault.{SessionFault}
use Rattle.jlog.specs.declared.start.Flash.{Flash}
use Rattle.jcuts.specs.Cuts.{Asked, PutsCuts, base_point, first_text, last_text}
use Rattle.jcuts.specs.declared.cuts.CutsFault.{CutsFault}
use Rattle.jcuts.specs.declared.cuts.CutsFault.TheVariants as cuts
use Rattle.jreport.specs.declared.faults.ProgramFault.TheVariants as program
use Rattle.jcuts.specs.declared.lines.Telling.TheVariants.{Nodes}
use Rattle.jsteps.specs.declared.op.Op.{Op}
use Rattle.jedge.specs.Acts.{Act, DoesFrom, PutsBy, Then, answers}
use Rattle.jedge.specs.Told.{Told}
use Rattle.jedge.specs.declared.fault.Fault.{Fault}
use Rattle.jedge.specs.declared.fault.Fault.TheVariants as fault
use Rattle.jedge.proofs.CostLemmas.{none_put}
use Rattle.jedge.proofs.Steps.{History, answered, then_ok}
use Rattle.jreads.specs.CutTexts.{HasMemory, TellsCuts, blocks_known, cut_cause, cuts_found, weak_found}

pub cuts_put : (e : Endian) (flash : Flash) (image : List ℕ) (asked : Asked) (s : SinkChange) (put : Result ℕ CutsFault)
    → PutsCuts e flash image asked s put → PutsBy (TellsCuts e flash image asked) s (cuts_found flash image put)
cuts_put e flash image asked s (Ok weak) is = record {
  text = first_text e flash asked (base_point e flash image) (length asked.ops) ++ last_text e flash asked (base_point e flash image);
  says = record { to = is.to; leads = is.leads; whole = refl; weak = ap weak_found is.counted };
  put = is.put;
  counts = is.failed;
}
cuts_put e flash image asked s (Err (cuts.Session f None blocks)) is = record {
  text = [];
  says = inl (refl, ap (λ (g : SessionFault). program.Session g None (cut_cause flash image g (blocks_known blocks))) is.0);
  put = none_put s.old s.new is.1;
  counts = is.2;
}
cuts_put e flash image asked s (Err (cuts.Session f (Some line) blocks)) is = record {
  text = first_text e flash asked (base_point e flash image) is.0;
  says = inr (record {
    accepted = is.0;
    line = line;
    declined = f;
    blocks = blocks;
    next = is.1;
    needs = is.4;
    begun = refl;
    is = refl;
  });
  put = is.2;
  counts = is.3;
}
cuts_put e flash image asked s (Err cuts.Output) (inl is) = record {
  text = take is.2.0 (first_text e flash asked (base_point e flash image) is.0);
  says = inl (is.0, is.1, (is.2.0, refl));
  put = is.2.1;
  counts = is.3;
}
cuts_put e flash image asked s (Err cuts.Output) (inr is) = record {
  text = take is.1.0 (first_text e flash asked (base_point e flash image) (length asked.ops) ++ last_text e flash asked (base_point e flash image));
  says = inr (is.0, (is.1.0, refl));
  put = is.1.1;
  counts = is.2;
}

pub lacks_memory : (f : Fault) → f ≡ fault.OutOfMemory → HasMemory {A = Unit {0}} (Err f)
lacks_memory f is = subst (λ (g : Fault). HasMemory {A = Unit {0}} (Err g)) (sym is) tt

-- the same, as a command answers it
pub cuts_put_as : (e : Endian) (flash : Flash) (image : List ℕ) (asked : Asked) (s : SinkChange) (put : Result ℕ CutsFault) (r : Result Told Fault)
    → r ≡ cuts_found flash image put → PutsCuts e flash image asked s put → PutsBy (TellsCuts e flash image asked) s r
cuts_put_as e flash image asked s put r is puts =
    subst (λ (z : Result Told Fault). PutsBy (TellsCuts e flash image asked) s z) (sym is) (cuts_put e flash image asked s put puts)

-- there is memory
pub with_memory : {B : Type 0} {old new : History} {next : Unit {0} → Act B} {r : Result B Fault} → DoesFrom old new (next tt) r → DoesFrom old new (Then (answers (HasMemory {A = Unit {0}})) next) r
with_memory {B} {old} {new} {next} {r} more = then_ok {x = tt} (answered {Is = HasMemory {A = Unit {0}}} {r = Ok tt} tt) more

-- the same operations and numbers
pub same_asked : (ops others : List Op) (lines numbers : List ℕ) → ops ≡ others → lines ≡ numbers
    → ◌≡◌ {A = Asked} (record { telling = Nodes; ops = ops; lines = lines }) (record { telling = Nodes; ops = others; lines = numbers })
same_asked ops others lines numbers one two =
    ap (λ (o : List Op). record { telling = Nodes; ops = o; lines = lines }) one
    ∙ ap (λ (l : List ℕ). record { telling = Nodes; ops = others; lines = l }) two
