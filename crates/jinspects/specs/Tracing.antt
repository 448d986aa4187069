-- What `history` finds out of an image before it prints: what became of each node, whose nodes are
-- told, and what is left of their objects.
use Rattle.std.specs.Prelude.{◌≡◌, ◌⊎◌, ℕ, List, [], ◌++◌, Option, Some, None, Result, Ok, Err}
use Rattle.jnode.specs.declared.order.Endian.{Endian}
use Rattle.jmount.specs.Mount.{Mount}
use Rattle.jmount.specs.Tree.{State}
use Rattle.jmount.specs.declared.fault.FindFault.{FindFault}
use Rattle.jthrough.specs.Addressed.{addressed_nodes}
use Rattle.jthrough.specs.MountsThrough.{AnswersThrough}
use Rattle.jcompact.specs.Matters.{Placed}
use Rattle.jhistory.specs.HistoryText.{Selection, Subjects, history_text}
use Rattle.jhistory.specs.NodeWords.{AreWordsOf, Words}
use Rattle.jhistory.specs.declared.period.Period.{Period}
use Rattle.jpast.specs.PastText.{pasts_text}
use Rattle.jpast.specs.Pasts.{ArePastsOf}
use Rattle.jpast.specs.declared.past.Past.{Past}
use Rattle.jreport.specs.declared.faults.ProgramFault.{ProgramFault}
use Rattle.jreport.specs.declared.faults.ProgramFault.TheVariants as program
use Rattle.jedge.specs.Commands.{read_told}
use Rattle.jedge.specs.Images.{IsViewRefused}
use Rattle.jedge.specs.Told.{Told, found_told}
use Rattle.jedge.specs.declared.fault.Fault.{Fault}
use Rattle.jedge.specs.declared.fault.Fault.TheVariants as fault
use Rattle.jinspects.specs.Former.{AreFormerIf, IsNoFormerIf}
use Rattle.jinspects.specs.declared.tracing.Trace.{Trace}

-- the words of nodes by their addresses, the numbers of the objects whose nodes are told, if not
-- all are, what is left of these objects, and what is told beside
pub record Traced : Type 0 where
  pub words : Words
  pub numbers : Subjects
  pub pasts : List Past
  pub told : Told

abbrev pub traced : Trace → Traced
traced trace = record {
  words = trace.words;
  numbers = trace.numbers;
  pasts = trace.pasts.items;
  told = found_told trace.found;
}

-- nothing is told of what is left, where all nodes are told
abbrev pub ArePastsIf : List Placed → State → Subjects → List Past → Type 0
ArePastsIf ns t None pasts = pasts ≡ []
ArePastsIf ns t (Some numbers) pasts = ArePastsOf ns t numbers pasts

-- an image mounts through its compression, its nodes have these words, and this is told of it
pub record IsTraceOf (path : Option (List ℕ)) (e : Endian) (size : ℕ) (image : List ℕ)
    (others : Option ℕ) (t : Traced) : Type 0 where
  pub mount : Mount
  pub mounts : AnswersThrough e size image (Ok mount)
  pub words : AreWordsOf (addressed_nodes e size image) t.words
  pub numbers : AreFormerIf (addressed_nodes e size image) mount.state path t.numbers
  pub pasts : ArePastsIf (addressed_nodes e size image) mount.state t.numbers t.pasts
  pub told : t.told ≡ read_told e size others mount

-- the path never named anything, for this reason
abbrev pub IsNeverNamed : Endian → ℕ → List ℕ → Option (List ℕ) → ProgramFault → Type 0
IsNeverNamed e size image path why = (m : Mount) × AnswersThrough e size image (Ok m)
    × ((f : FindFault) × (why ≡ program.Path f)
    × IsNoFormerIf (addressed_nodes e size image) m.state path f)

-- Such a trace; or this says why the image does not mount so, or that the path never named
-- anything. Memory may run out behind the mount.
abbrev pub Traces : Option (List ℕ) → Endian → ℕ → List ℕ → Option ℕ → Result Traced Fault → Type 0
Traces path e size image others (Ok t) = IsTraceOf path e size image others t
Traces path e size image others (Err (fault.File file)) = ⊥
Traces path e size image others (Err (fault.NotRead file)) = ⊥
Traces path e size image others (Err (fault.NoNodes told count)) = ⊥
Traces path e size image others (Err (fault.NoSpace folder)) = ⊥
Traces path e size image others (Err (fault.Findings told findings)) = ⊥
Traces path e size image others (Err (fault.Refused why)) =
    IsViewRefused e size image why ⊎ IsNeverNamed e size image path why
Traces path e size image others (Err fault.Output) = ⊥
Traces path e size image others (Err fault.OutOfMemory) =
    (m : Mount) × AnswersThrough e size image (Ok m)

-- ---- as a text

-- the nodes of these objects and of these times
abbrev pub nodes_asked : Subjects → Period → Selection
nodes_asked numbers period = record { subjects = numbers; period = period }

-- the lines of the nodes whose times are asked for, and those of what is left of the objects
abbrev pub history_told : Endian → ℕ → List ℕ → Period → Traced → List ℕ
history_told e size image period t =
    history_text e size image t.words (nodes_asked t.numbers period) ++ pasts_text t.pasts
