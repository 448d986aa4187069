-- What is told of operations on an image mounted through its compression, as a call puts it into a
-- sink.
use Rattle.std.proofs.Common.{◌≡◌, ◌∙◌, ℕ, List, [], None, Some, Ok, Err, ap, inl, inr, refl, sym, subst}
use Rattle.std.specs.Prelude.{Result, take}
use Rattle.flashbase.specs.Sinks.{SinkChange}
use Rattle.jnode.specs.declared.order.Endian.{Endian}
use Rattle.jsteps.specs.declared.op.Op.{Op}
use Rattle.jlog.specs.declared.fault.SessionFault.{SessionFault}
use Rattle.jcuts.specs.Cuts.{Asked}
use Rattle.jcuts.specs.declared.cuts.CutsFault.{CutsFault}
use Rattle.jcuts.specs.declared.cuts.CutsFault.TheVariants as cuts
use Rattle.jcuts.specs.declared.lines.Telling.{Telling}
use Rattle.jstops.specs.FormLines.{forms_text, all_forms_text}
use Rattle.jstops.specs.Planned.{forming_with, through_point}
use Rattle.jstops.specs.Stops.{PutsStops}
use Rattle.jstops.specs.declared.planned.StopsPlan.{StopsPlan}
use Rattle.jdevice.specs.declared.running.DevicePlan.{DevicePlan}
use Rattle.jhalts.specs.Halts.{PutsHalts}
use Rattle.jhalts.specs.InRow.{device_point, forming_on}
use Rattle.jhalts.specs.RowLines.{all_row_text, row_text}
use Rattle.jreport.specs.declared.faults.ProgramFault.TheVariants as program
use Rattle.jedge.specs.Acts.{PutsBy}
use Rattle.jedge.specs.Told.{Told}
use Rattle.jedge.specs.declared.fault.Fault.{Fault}
use Rattle.jedge.proofs.CostLemmas.{none_put}
use Rattle.jreads.specs.CutTexts.{cut_cause, weak_found}
use Rattle.jforetells.specs.ForetoldTexts.{TellsForms, stops_found}
use Rattle.jforetells.specs.Foretelling.{TellsPlanned, telling_foretold}
use Rattle.jforetells.specs.UpdateTexts.{TellsRowForms}
use Rattle.jforetells.specs.declared.plan.ForetoldPlan.{ForetoldPlan}

pub stops_put : (e : Endian) (on : StopsPlan) (image : List ℕ) (asked : Asked) (s : SinkChange) (put : Result ℕ CutsFault)
    → PutsStops (forming_with e on.forms on.flash) asked (through_point e on.flash image) s put → PutsBy (TellsForms e on image asked) s (stops_found on.flash image put)
stops_put e on image asked s (Ok weak) (forms, is) = record {
  text = all_forms_text (forming_with e on.forms on.flash) asked (through_point e on.flash image) forms;
  says = record { forms = forms; to = is.to; leads = is.leads; whole = refl; weak = ap weak_found is.counted };
  put = is.put;
  counts = is.failed;
}
stops_put e on image asked s (Err (cuts.Session f None blocks)) is = record {
  text = [];
  says = inl (refl, ap (λ (g : SessionFault). program.Session g None (cut_cause on.flash image g None)) is.0);
  put = none_put s.old s.new is.1;
  counts = is.2;
}
stops_put e on image asked s (Err (cuts.Session f (Some line) blocks)) (upto, none) = record {
  text = forms_text (forming_with e on.forms on.flash) asked (through_point e on.flash image) upto.0 upto.1;
  says = inr (record {
    accepted = upto.0;
    line = line;
    forms = upto.1;
    declined = f;
    next = upto.2;
    begun = refl;
    is = refl;
  });
  put = upto.3;
  counts = upto.4;
}
stops_put e on image asked s (Err cuts.Output) (inl is) = record {
  text = take is.3.0 (forms_text (forming_with e on.forms on.flash) asked (through_point e on.flash image) is.0 is.1);
  says = inl (is.0, is.1, is.2, (is.3.0, refl));
  put = is.3.1;
  counts = is.4;
}
stops_put e on image asked s (Err cuts.Output) (inr is) = record {
  text = take is.2.0 (all_forms_text (forming_with e on.forms on.flash) asked (through_point e on.flash image) is.0);
  says = inr (is.0, is.1, (is.2.0, refl));
  put = is.2.1;
  counts = is.3;
}

-- the same, as the command answers it
pub stops_put_as : (e : Endian) (on : StopsPlan) (image : List ℕ) (asked : Asked) (s : SinkChange) (put : Result ℕ CutsFault) (r : Result Told Fault)
    → r ≡ stops_found on.flash image put → PutsStops (forming_with e on.forms on.flash) asked (through_point e on.flash image) s put → PutsBy (TellsForms e on image asked) s r
stops_put_as e on image asked s put r is puts = subst (λ (z : Result Told Fault). PutsBy (TellsForms e on image asked) s z) (sym is) (stops_put e on image asked s put puts)

-- ---- `update`

pub halts_put : (e : Endian) (on : DevicePlan) (image : List ℕ) (asked : Asked) (s : SinkChange) (put : Result ℕ CutsFault)
    → PutsHalts (forming_on e on) asked (device_point e on image) s put → PutsBy (TellsRowForms e on image asked) s (stops_found on.flash image put)
halts_put e on image asked s (Ok weak) (forms, is) = record {
  text = all_row_text (forming_on e on) asked (device_point e on image) forms;
  says = record { forms = forms; to = is.to; leads = is.leads; whole = refl; weak = ap weak_found is.counted };
  put = is.put;
  counts = is.failed;
}
halts_put e on image asked s (Err (cuts.Session f None blocks)) is = record {
  text = [];
  says = inl (refl, ap (λ (g : SessionFault). program.Session g None (cut_cause on.flash image g None)) is.0);
  put = none_put s.old s.new is.1;
  counts = is.2;
}
halts_put e on image asked s (Err (cuts.Session f (Some line) blocks)) (upto, none) = record {
  text = row_text (forming_on e on) asked (device_point e on image) upto.0 upto.1;
  says = inr (record {
    accepted = upto.0;
    line = line;
    forms = upto.1;
    declined = f;
    next = upto.2;
    begun = refl;
    is = refl;
  });
  put = upto.3;
  counts = upto.4;
}
halts_put e on image asked s (Err cuts.Output) (inl is) = record {
  text = take is.3.0 (row_text (forming_on e on) asked (device_point e on image) is.0 is.1);
  says = inl (is.0, is.1, is.2, (is.3.0, refl));
  put = is.3.1;
  counts = is.4;
}
halts_put e on image asked s (Err cuts.Output) (inr is) = record {
  text = take is.2.0 (all_row_text (forming_on e on) asked (device_point e on image) is.0);
  says = inr (is.0, is.1, (is.2.0, refl));
  put = is.2.1;
  counts = is.3;
}

-- the same, as the command answers it
pub halts_put_as : (e : Endian) (on : DevicePlan) (image : List ℕ) (asked : Asked) (s : SinkChange) (put : Result ℕ CutsFault) (r : Result Told Fault)
    → r ≡ stops_found on.flash image put → PutsHalts (forming_on e on) asked (device_point e on image) s put → PutsBy (TellsRowForms e on image asked) s r
halts_put_as e on image asked s put r is puts = subst (λ (z : Result Told Fault). PutsBy (TellsRowForms e on image asked) s z) (sym is) (halts_put e on image asked s put puts)

-- the same operations and numbers
pub same_asked : (telling : Telling) (ops others : List Op) (lines numbers : List ℕ) → ops ≡ others → lines ≡ numbers
    → ◌≡◌ {A = Asked} (record { telling = telling; ops = ops; lines = lines }) (record { telling = telling; ops = others; lines = numbers })
same_asked telling ops others lines numbers one two =
    ap (λ (o : List Op). record { telling = telling; ops = o; lines = lines }) one
    ∙ ap (λ (l : List ℕ). record { telling = telling; ops = others; lines = l }) two

-- the one or the other of them, as it is asked for
pub planned_as : (e : Endian) (on is : ForetoldPlan) (image : List ℕ) (ops : List Op) (lines : List ℕ) (s : SinkChange) (r : Result Told Fault) → on ≡ is
    → PutsBy (TellsPlanned e is image (record { telling = telling_foretold is; ops = ops; lines = lines })) s r
    → PutsBy (TellsPlanned e on image (record { telling = telling_foretold on; ops = ops; lines = lines })) s r
planned_as e on is image ops lines s r same puts =
    subst (λ (p : ForetoldPlan). PutsBy (TellsPlanned e p image (record { telling = telling_foretold p; ops = ops; lines = lines })) s r) (sym same) puts
