-- What stops a trace, and the text of it.
use Rattle.std.proofs.Common.{◌≡◌, ℕ, List, ◌++◌, Option, Ok, Err, inr, subst}
use Rattle.flashbase.specs.Sinks.{SinkChange}
use Rattle.flashbase.proofs.DeviceLemmas.{part_before}
use Rattle.jnode.specs.declared.order.Endian.{Endian}
use Rattle.jmount.specs.Mount.{Mount}
use Rattle.jthrough.specs.Addressed.{addressed_nodes}
use Rattle.jthrough.specs.MountsThrough.{AnswersThrough}
use Rattle.jhistory.specs.HistoryText.{PutsHistory}
use Rattle.jhistory.specs.declared.fault.HistoryFault.{HistoryFault}
use Rattle.jhistory.specs.declared.fault.HistoryFault.TheVariants as history
use Rattle.jedge.specs.declared.fault.Fault.{Fault}
use Rattle.jedge.specs.declared.fault.Fault.TheVariants as fault
use Rattle.jinspects.specs.Former.{IsNoFormerIf, TellsPath}
use Rattle.jinspects.specs.Tracing.{Traces}

pub stopped : (e : Endian) (size : ℕ) (image : List ℕ) (others : Option ℕ) (path : Option (List ℕ)) (m : Mount) (f : Fault)
    → AnswersThrough e size image (Ok m) → TellsPath (IsNoFormerIf (addressed_nodes e size m.image) m.state path) f
    → Traces path e size image others (Err f)
stopped e size image others path m (fault.File file) through tells = absurd tells
stopped e size image others path m (fault.NotRead file) through tells = absurd tells
stopped e size image others path m (fault.NoNodes of count) through tells = absurd tells
stopped e size image others path m (fault.NoSpace folder) through tells = absurd tells
stopped e size image others path m (fault.Findings of findings) through tells = absurd tells
stopped e size image others path m (fault.Refused why) through tells = inr (
  m,
  through,
  (tells.0, tells.1, subst (λ (bytes : List ℕ). IsNoFormerIf (addressed_nodes e size bytes) m.state path tells.0) through.0 tells.2),
)
stopped e size image others path m fault.Output through tells = absurd tells
stopped e size image others path m fault.OutOfMemory through tells = (m, through)

-- the first of two texts failed
pub first_text_failed : (T : Type 0) (size : ℕ) (image a b : List ℕ) (sink : SinkChange) (why : HistoryFault) → PutsHistory {T = T} size image a sink (Err why)
    → PutsHistory {T = T} size image (a ++ b) sink (Err why)
first_text_failed T size image a b sink history.Output puts = (puts.0, part_before sink.old sink.new a b puts.1, puts.2)
first_text_failed T size image a b sink history.BlockSize puts = puts
first_text_failed T size image a b sink history.TooLarge puts = puts
