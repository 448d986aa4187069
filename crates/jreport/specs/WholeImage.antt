-- What is put of an image in memory: by `check`, `cat` and `ls`.
use Rattle.std.specs.Prelude.{◌≡◌, ◌⊎◌, ℕ, ◌||◌, Bool, nat_lt, List, ◌++◌, Option, Result, Ok, Err, ⊤}
use Rattle.std.specs.Io.KnownBytes.{Appends}
use Rattle.flashbase.specs.Device.{PutsPart, next_count}
use Rattle.flashbase.specs.Sinks.{SinkChange}
use Rattle.jnode.specs.declared.order.Endian.{Endian}
use Rattle.jmount.specs.Mount.{Mount}
use Rattle.jmount.specs.Mounts.{Answers}
use Rattle.jmount.specs.declared.fault.MountFault.TheVariants as mount
use Rattle.jscan.specs.Counts.{is_found}
use Rattle.jscan.specs.declared.geometry.ScanFault.TheVariants as scan
use Rattle.jreport.specs.Content.{content_of, PutsContent}
use Rattle.jreport.specs.Notes.{noted}
use Rattle.jreport.specs.Puts.{IsScanFaultOf}
use Rattle.jreport.specs.Refusal.{IsRefusalTold}
use Rattle.jreport.specs.Report.{count_in_image, scan_text}
use Rattle.jreport.specs.TreeText.{PutsTreeAt}
use Rattle.jreport.specs.Verdict.{IsVerdict}
use Rattle.jreport.specs.declared.faults.ProgramFault.{ProgramFault}
use Rattle.jreport.specs.declared.faults.ProgramFault.TheVariants as program

-- ---- `check`

-- what it prints of an image, and whether it found anything: the report, and then the verdict, with
-- the shape where it is asked for
pub record IsCheck (e : Endian) (size : ℕ) (image : List ℕ) (asked : Bool) (text : List ℕ)
    (found : Bool) : Type 0 where
  pub verdict : List ℕ
  pub bad : Bool
  pub mount : IsVerdict e size image asked verdict bad
  pub said : text ≡ scan_text e size image ++ verdict
  pub judged : found ≡ nat_lt 0 (count_in_image is_found e size image) || bad

-- a beginning of it went out: of the report, or of the report and the verdict
abbrev pub PutsPartOfCheck : Endian → ℕ → List ℕ → Bool → Option (List ℕ) → Option (List ℕ) → Type 0
PutsPartOfCheck e size image asked old new =
    PutsPart old new (scan_text e size image)
    ⊎ ((text : List ℕ) × (found : Bool) × IsCheck e size image asked text found
    × PutsPart old new text)

-- A call puts what `check` prints. Only where the sink is blamed did it fail, once. Nothing is put
-- of an image that can't be scanned. Memory is wanting only behind the report: in the mount, or for
-- the entries that dangle in it, or for its shape.
abbrev pub PutsCheck : Endian → ℕ → List ℕ → Bool → SinkChange → Result Bool ProgramFault → Type 0
PutsCheck e size image asked sink (Ok found) =
    (text : List ℕ) × IsCheck e size image asked text found × Appends sink.old sink.new text
    × (sink.now ≡ sink.before)
PutsCheck e size image asked sink (Err program.Output) =
    PutsPartOfCheck e size image asked sink.old sink.new × (sink.now ≡ next_count sink.before)
PutsCheck e size image asked sink (Err (program.Scan scan.OutOfMemory)) = ⊥
PutsCheck e size image asked sink (Err (program.Scan fault)) =
    IsScanFaultOf size image fault × (sink.new ≡ sink.old) × (sink.now ≡ sink.before)
PutsCheck e size image asked sink (Err (program.Mount mount.OutOfMemory)) =
    Answers e size image (Err mount.OutOfMemory)
    × Appends sink.old sink.new (scan_text e size image) × (sink.now ≡ sink.before)
PutsCheck e size image asked sink (Err program.OutOfMemory) =
    (m : Mount) × Answers e size image (Ok m) × Appends sink.old sink.new (scan_text e size image)
    × (sink.now ≡ sink.before)
PutsCheck e size image asked sink (Err (program.Mount mount.BlockSize)) = ⊥
PutsCheck e size image asked sink (Err (program.Mount mount.TooLarge)) = ⊥
PutsCheck e size image asked sink (Err (program.Mount (mount.Incompatible addr nodetype))) = ⊥
PutsCheck e size image asked sink (Err (program.Mount (mount.Compressed addr compr))) = ⊥
PutsCheck e size image asked sink (Err (program.Mount (mount.Clash addr))) = ⊥
PutsCheck e size image asked sink (Err (program.Mount mount.RootKind)) = ⊥
PutsCheck e size image asked sink (Err (program.Load fault)) = ⊥
PutsCheck e size image asked sink (Err (program.Clash addr other)) = ⊥
PutsCheck e size image asked sink (Err (program.File file)) = ⊥
PutsCheck e size image asked sink (Err (program.NotRead file)) = ⊥
PutsCheck e size image asked sink (Err (program.Listing bad)) = ⊥
PutsCheck e size image asked sink (Err (program.Session fault line cause)) = ⊥
PutsCheck e size image asked sink (Err (program.Path fault)) = ⊥
PutsCheck e size image asked sink (Err program.NotRegular) = ⊥
PutsCheck e size image asked sink (Err (program.NoSpace name)) = ⊥
PutsCheck e size image asked sink (Err (program.Data addr)) = ⊥
PutsCheck e size image asked sink (Err (program.TooLong addr)) = ⊥
PutsCheck e size image asked sink (Err (program.Image fault)) = ⊥

-- ---- `cat` and `ls`

-- What a call does that mounts an image: nothing is put of one that does not mount.
abbrev pub OnMount : {T : Type 0} → Endian → ℕ → List ℕ → SinkChange → (Mount → Type 0)
    → Result T ProgramFault → Type 0
OnMount e size image sink puts (Err (program.Mount fault)) =
    IsRefusalTold e size image (program.Mount fault) × (sink.new ≡ sink.old)
    × (sink.now ≡ sink.before)
OnMount e size image sink puts (Err (program.Clash addr other)) =
    IsRefusalTold e size image (program.Clash addr other) × (sink.new ≡ sink.old)
    × (sink.now ≡ sink.before)
OnMount e size image sink puts (Err (program.Load fault)) =
    (m : Mount) × Answers e size image (Ok m) × puts m
OnMount e size image sink puts (Err (program.Scan fault)) =
    (m : Mount) × Answers e size image (Ok m) × puts m
OnMount e size image sink puts (Err (program.File file)) =
    (m : Mount) × Answers e size image (Ok m) × puts m
OnMount e size image sink puts (Err (program.NotRead file)) =
    (m : Mount) × Answers e size image (Ok m) × puts m
OnMount e size image sink puts (Err (program.Listing bad)) =
    (m : Mount) × Answers e size image (Ok m) × puts m
OnMount e size image sink puts (Err (program.Session fault line cause)) =
    (m : Mount) × Answers e size image (Ok m) × puts m
OnMount e size image sink puts (Err (program.Path fault)) =
    (m : Mount) × Answers e size image (Ok m) × puts m
OnMount e size image sink puts (Err program.NotRegular) =
    (m : Mount) × Answers e size image (Ok m) × puts m
OnMount e size image sink puts (Err program.Output) =
    (m : Mount) × Answers e size image (Ok m) × puts m
OnMount e size image sink puts (Err program.OutOfMemory) =
    (m : Mount) × Answers e size image (Ok m) × puts m
OnMount e size image sink puts (Err (program.NoSpace name)) =
    (m : Mount) × Answers e size image (Ok m) × puts m
OnMount e size image sink puts (Err (program.Data addr)) =
    (m : Mount) × Answers e size image (Ok m) × puts m
OnMount e size image sink puts (Err (program.TooLong addr)) =
    (m : Mount) × Answers e size image (Ok m) × puts m
OnMount e size image sink puts (Err (program.Image fault)) =
    (m : Mount) × Answers e size image (Ok m) × puts m
OnMount e size image sink puts (Ok _) = (m : Mount) × Answers e size image (Ok m) × puts m

-- the answer is the number of findings that a reader of files is told of
abbrev pub AnswersNoted : Mount → Result ℕ ProgramFault → Type 0
AnswersNoted m (Ok n) = n ≡ noted m
AnswersNoted m (Err _) = ⊤

-- `cat`: the content of the regular file that a path names in an image
abbrev pub PutsFile : Endian → ℕ → List ℕ → List ℕ → SinkChange → Result ℕ ProgramFault → Type 0
PutsFile e size image path sink answer =
    OnMount e size image sink (λ m. PutsContent (content_of m.state path) sink answer
    × AnswersNoted m answer) answer

-- what `ls` is asked for: a byte order, the size of a block, and a path where a part is wanted
pub record ListRequest : Type 0 where
  pub order : Endian
  pub block : ℕ
  pub path : Option (List ℕ)

abbrev pub list_request : Endian → ℕ → Option (List ℕ) → ListRequest
list_request order block path = record { order = order; block = block; path = path }

-- `ls`: the lines of an image's tree, or of the part of it that a path names
abbrev pub PutsListing : ListRequest → List ℕ → SinkChange → Result ℕ ProgramFault → Type 0
PutsListing asked image sink answer =
    OnMount asked.order asked.block image sink (λ m. PutsTreeAt m.state asked.path sink answer
    × AnswersNoted m answer) answer
