-- What `cuts` prints of operations on a mounted image, and why it stops.
use Rattle.std.specs.Prelude.{◌≡◌, ◌⊎◌, ◌++◌, ℕ, List, [], length, map, Option, Some, None, Result, Ok, Err, IsOk}
use Rattle.std.specs.declared.alloc.AllocError.{AllocError}
use Rattle.jnode.specs.declared.order.Endian.{Endian}
use Rattle.jmount.specs.Mount.{Mount}
use Rattle.jlisting.specs.Broken.{IsBadLine}
use Rattle.jlisting.specs.Listing.{lines_of}
use Rattle.jlisting.specs.declared.fault.BadLine.{BadLine}
use Rattle.jlisting.specs.declared.line.Line.{Line}
use Rattle.jlog.specs.Resuming.{resumes}
use Rattle.jlog.specs.declared.fault.SessionFault.{SessionFault}
use Rattle.jlog.specs.declared.fault.SessionFault.TheVariants as session
use Rattle.jlog.specs.declared.start.Flash.{Flash}
use Rattle.jbuild.specs.HostFiles.{part_contents}
use Rattle.jbuild.specs.Operations.{ops_in}
use Rattle.jbuild.specs.declared.host_files.HostFiles.{HostFiles}
use Rattle.jcuts.specs.Cuts.{AdvancesTo, Asked, DeclinesNext, Point, TellsLeast, base_point, first_standings, first_text, last_text}
use Rattle.jcuts.specs.Lines.{weak_count}
use Rattle.jcuts.specs.declared.cuts.CutsFault.{CutsFault}
use Rattle.jcuts.specs.declared.cuts.CutsFault.TheVariants as cuts
use Rattle.jcuts.specs.declared.lines.Telling.TheVariants.{Nodes}
use Rattle.jreport.specs.Causes.{cause_of}
use Rattle.jreport.specs.declared.cause.Cause.{Cause}
use Rattle.jreport.specs.declared.faults.ProgramFault.{ProgramFault}
use Rattle.jreport.specs.declared.faults.ProgramFault.TheVariants as program
use Rattle.jreport.specs.declared.reason.Reason.TheVariants as reason
use Rattle.jedge.specs.Acts.{Saying}
use Rattle.jedge.specs.Showing.{IsFrontOf}
use Rattle.jedge.specs.Told.{Told}
use Rattle.jedge.specs.declared.fault.Fault.{Fault}
use Rattle.jedge.specs.declared.fault.Fault.TheVariants as fault

-- ---- the lines of a listing

-- the lines of a text; or the first one that means nothing, and the rule that it breaks; or memory
-- runs out
abbrev pub ReadsLines : List ℕ → Result (List Line) Fault → Type 0
ReadsLines text (Ok lines) = lines_of text ≡ Ok lines
ReadsLines text (Err (fault.File file)) = ⊥
ReadsLines text (Err (fault.NotRead file)) = ⊥
ReadsLines text (Err (fault.NoNodes of others)) = ⊥
ReadsLines text (Err (fault.NoSpace folder)) = ⊥
ReadsLines text (Err (fault.Findings of findings)) = ⊥
ReadsLines text (Err (fault.Refused why)) =
    (bad : BadLine) × (why ≡ program.Listing bad) × IsBadLine text bad
ReadsLines text (Err fault.Output) = ⊥
ReadsLines text (Err fault.OutOfMemory) = Unit {0}

-- there is memory for something, or there is none
abbrev pub HasMemory : {A : Type 0} → Result A Fault → Type 0
HasMemory (Ok _) = Unit {0}
HasMemory (Err (fault.File file)) = ⊥
HasMemory (Err (fault.NotRead file)) = ⊥
HasMemory (Err (fault.NoNodes of others)) = ⊥
HasMemory (Err (fault.NoSpace folder)) = ⊥
HasMemory (Err (fault.Findings of findings)) = ⊥
HasMemory (Err (fault.Refused why)) = ⊥
HasMemory (Err fault.Output) = ⊥
HasMemory (Err fault.OutOfMemory) = Unit {0}

-- ---- where writing goes on

-- why operations on an image stop: the first limit that the flash does not keep; or, of one that
-- lacks room, how many blocks it needs, where that is known
abbrev pub cut_cause : Flash → List ℕ → SessionFault → Option ℕ → Cause
cut_cause flash image fault blocks = cause_of (record {
  geometry = flash.geometry;
  blocks = flash.blocks;
  page = flash.page;
  length = length image;
}) fault reason.Other blocks

-- writing goes on in a mounted image, or this is why it does not
abbrev pub StartsOn : {A : Type 0} → Endian → Flash → Mount → Result A Fault → Type 0
StartsOn e flash m (Ok _) = IsOk (resumes e flash m)
StartsOn e flash m (Err (fault.File file)) = ⊥
StartsOn e flash m (Err (fault.NotRead file)) = ⊥
StartsOn e flash m (Err (fault.NoNodes of others)) = ⊥
StartsOn e flash m (Err (fault.NoSpace folder)) = ⊥
StartsOn e flash m (Err (fault.Findings of findings)) = ⊥
StartsOn e flash m (Err (fault.Refused why)) = (f : SessionFault) × (resumes e flash m ≡ Err f)
    × (why ≡ program.Session f None (cut_cause flash m.image f None))
StartsOn e flash m (Err fault.Output) = ⊥
StartsOn e flash m (Err fault.OutOfMemory) = ⊥

-- ---- what is printed

-- the operations of lines, with the bytes of the files that they name, and the numbers of the lines
abbrev pub cuts_asked : Endian → HostFiles → List Line → Asked
cuts_asked e files lines = record {
  telling = Nodes;
  ops = ops_in e (part_contents files) lines;
  lines = map (λ line. line.number) lines;
}

-- so many weak nodes are found
abbrev pub weak_found : ℕ → Told
weak_found weak = record { counted = weak; noted = None }

-- what is told of blocks, where memory did not run out for it
abbrev pub blocks_known : {X : Type 0} → Result (Option ℕ) X → Option ℕ
blocks_known (Ok blocks) = blocks
blocks_known (Err _) = None

-- what a command comes to, by what was put
abbrev pub cuts_found : Flash → List ℕ → Result ℕ CutsFault → Result Told Fault
cuts_found flash image (Ok weak) = Ok (weak_found weak)
cuts_found flash image (Err (cuts.Session f line blocks)) =
    Err (fault.Refused (program.Session f line (cut_cause flash image f (blocks_known blocks))))
cuts_found flash image (Err cuts.Output) = Err fault.Output

-- All operations are accepted; their nodes are told in order, and then all of them in a line.
pub record AreToldWhole (e : Endian) (flash : Flash) (asked : Asked) (from : Point) (text : List ℕ)
    (told : Told) : Type 0 where
  pub to : Point
  pub leads : AdvancesTo e flash from asked.ops (length asked.ops) to
  pub whole : text
      ≡ first_text e flash asked from (length asked.ops) ++ last_text e flash asked from
  pub weak : told
      ≡ weak_found (weak_count (first_standings e flash from asked.ops (length asked.ops)))

-- One is declined, and the nodes of those before it are told. The fault has the number of its line,
-- and how many blocks it needs where room is wanting, unless memory runs out for that.
pub record StopsAtLine (e : Endian) (flash : Flash) (image : List ℕ) (asked : Asked) (text : List ℕ)
    (why : ProgramFault) : Type 0 where
  pub accepted : ℕ
  pub line : ℕ
  pub declined : SessionFault
  pub blocks : Result (Option ℕ) AllocError
  pub next : DeclinesNext e flash asked (base_point e flash image) accepted line declined
  pub needs : TellsLeast e flash next.at next.next declined blocks
  pub begun : text ≡ first_text e flash asked (base_point e flash image) accepted
  pub is : why
      ≡ program.Session declined (Some line) (cut_cause flash image declined (blocks_known blocks))

-- There is no memory for a plan, and nothing is told.
abbrev pub LacksPlan : Flash → List ℕ → List ℕ → ProgramFault → Type 0
LacksPlan flash image text why = (text ≡ []) × (why ≡ program.Session session.OutOfMemory None
    (cut_cause flash image session.OutOfMemory None))

-- a beginning of what is told of operations that are accepted
abbrev pub IsPartOfCuts : Endian → Flash → Asked → Point → List ℕ → Type 0
IsPartOfCuts e flash asked from text =
    ((n : ℕ) × ((to : Point) × AdvancesTo e flash from asked.ops n to)
    × IsFrontOf (first_text e flash asked from n) text)
    ⊎ (((to : Point) × AdvancesTo e flash from asked.ops (length asked.ops) to)
    × IsFrontOf (first_text e flash asked from (length asked.ops) ++ last_text e flash asked from)
    text)

-- What is told of operations on an image: of all of them, or of those before one that is declined;
-- or a beginning of it, where the output fails; or nothing, where memory runs out.
abbrev pub TellsCuts : Endian → Flash → List ℕ → Asked → Saying Told
TellsCuts e flash image asked text (Ok told) =
    AreToldWhole e flash asked (base_point e flash image) text told
TellsCuts e flash image asked text (Err (fault.File file)) = ⊥
TellsCuts e flash image asked text (Err (fault.NotRead file)) = ⊥
TellsCuts e flash image asked text (Err (fault.NoNodes of others)) = ⊥
TellsCuts e flash image asked text (Err (fault.NoSpace folder)) = ⊥
TellsCuts e flash image asked text (Err (fault.Findings of findings)) = ⊥
TellsCuts e flash image asked text (Err (fault.Refused why)) =
    LacksPlan flash image text why ⊎ StopsAtLine e flash image asked text why
TellsCuts e flash image asked text (Err fault.Output) =
    IsPartOfCuts e flash asked (base_point e flash image) text
TellsCuts e flash image asked text (Err fault.OutOfMemory) = ⊥
