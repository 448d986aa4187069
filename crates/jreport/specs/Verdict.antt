-- What `check` says of a mount.
use Rattle.std.specs.Prelude.{◌≡◌, ◌≢◌, ℕ, ◌==◌, ◌||◌, Bool, true, false, not, List, length, [], ◌∷◌, ◌++◌, codes, decimal, Option, Some, None, Result, Ok, Err, if◌then◌else◌}
use Rattle.std.specs.List.{flat_map}
use Rattle.std.specs.Io.KnownBytes.{Appends}
use Rattle.flashbase.specs.Device.{PutsPart, next_count}
use Rattle.flashbase.specs.Sinks.{SinkChange}
use Rattle.jnode.specs.declared.order.Endian.{Endian}
use Rattle.jmount.specs.Tree.{outline, dangling}
use Rattle.jmount.specs.ShapeForm.{shape_of}
use Rattle.jmount.specs.Mount.{Mount}
use Rattle.jmount.specs.Mounts.{Answers}
use Rattle.jmount.specs.declared.fault.MountFault.{MountFault}
use Rattle.jmount.specs.declared.fault.MountFault.TheVariants as mount
use Rattle.jline.specs.Words.{escaped}
use Rattle.jreport.specs.Faults.{mount_text}
use Rattle.jreport.specs.declared.faults.ProgramFault.{ProgramFault}
use Rattle.jreport.specs.declared.faults.ProgramFault.TheVariants as program

-- ---- the lines

-- what comes before the name in a dangling entry's line
unfoldable pub dangling_start : ℕ → ℕ → List ℕ
dangling_start pino ino =
    codes "dangling pino " ++ decimal pino ++ codes " ino " ++ decimal ino ++ codes " name "

-- a dangling entry: its directory, its name, and the number that has no object
abbrev pub dangling_line : ℕ × List ℕ × ℕ → List ℕ
dangling_line d = dangling_start d.0 d.2 ++ (escaped d.1 ++ 10 ∷ [])

unfoldable pub ok_line : Bool → List ℕ
ok_line read_only = if read_only then codes "mount ok read-only\n" else codes "mount ok\n"

unfoldable pub refused_line : MountFault → List ℕ
refused_line fault = codes "mount refused " ++ (mount_text fault ++ 10 ∷ [])

-- the shape, where it is asked for
unfoldable pub shape_line : Bool → List ℕ
shape_line shape = if shape then codes "shape ok\n" else codes "shape broken\n"

abbrev pub shape_text : Option Bool → List ℕ
shape_text None = []
shape_text (Some shape) = shape_line shape

-- ---- the verdict on what a mount answered

-- whether the tree has its shape, in the computed form
unfoldable pub is_shaped : Mount → Bool
is_shaped m = shape_of (outline m.state)

abbrev pub shape_if : Bool → Mount → Option Bool
shape_if asked m = if asked then Some (is_shaped m) else None

abbrev pub mounted_text : Bool → Mount → List ℕ
mounted_text asked m = ok_line m.read_only
    ++ (flat_map dangling_line (dangling m.state) ++ shape_text (shape_if asked m))

-- rule: What is printed: The verdict of `check`.
--   definitions: jreport.Verdict.verdict_of
--   code: jreport::verdict::verdict_lines, jreport::whole_image::image_check
abbrev pub verdict_of : Bool → Result Mount MountFault → List ℕ
verdict_of asked (Ok m) = mounted_text asked m
verdict_of asked (Err fault) = refused_line fault

-- whether it says that something is wrong
abbrev pub is_dangling : Mount → Bool
is_dangling m = not (length (dangling m.state) == 0)

abbrev pub is_broken : Option Bool → Bool
is_broken None = false
is_broken (Some shape) = not shape

abbrev pub is_wrong : Bool → Mount → Bool
is_wrong asked m = is_dangling m || is_broken (shape_if asked m)

abbrev pub is_bad : Bool → Result Mount MountFault → Bool
is_bad asked (Ok m) = is_wrong asked m
is_bad asked (Err fault) = true

-- the verdict on an image, with its shape where it is asked for, and whether it says that something
-- is wrong; out of memory is no verdict
pub record IsVerdict (e : Endian) (size : ℕ) (image : List ℕ) (asked : Bool) (text : List ℕ)
    (bad : Bool) : Type 0 where
  pub answer : Result Mount MountFault
  pub answers : Answers e size image answer
  pub memory : answer ≢ Err mount.OutOfMemory
  pub said : text ≡ verdict_of asked answer
  pub judged : bad ≡ is_bad asked answer

-- ---- what a call puts

-- the lines of a mounted image; out of memory comes before the first of them
abbrev pub PutsMounted : Bool → Mount → SinkChange → Result Bool ProgramFault → Type 0
PutsMounted asked m sink (Ok bad) =
    (bad ≡ is_wrong asked m) × Appends sink.old sink.new (mounted_text asked m)
    × (sink.now ≡ sink.before)
PutsMounted asked m sink (Err program.Output) =
    PutsPart sink.old sink.new (mounted_text asked m) × (sink.now ≡ next_count sink.before)
PutsMounted asked m sink (Err program.OutOfMemory) =
    (sink.new ≡ sink.old) × (sink.now ≡ sink.before)
PutsMounted asked m sink (Err (program.Load fault)) = ⊥
PutsMounted asked m sink (Err (program.Scan fault)) = ⊥
PutsMounted asked m sink (Err (program.Mount fault)) = ⊥
PutsMounted asked m sink (Err (program.Clash addr other)) = ⊥
PutsMounted asked m sink (Err (program.File file)) = ⊥
PutsMounted asked m sink (Err (program.NotRead file)) = ⊥
PutsMounted asked m sink (Err (program.Listing bad)) = ⊥
PutsMounted asked m sink (Err (program.Session fault line cause)) = ⊥
PutsMounted asked m sink (Err (program.Path fault)) = ⊥
PutsMounted asked m sink (Err program.NotRegular) = ⊥
PutsMounted asked m sink (Err (program.NoSpace name)) = ⊥
PutsMounted asked m sink (Err (program.Data addr)) = ⊥
PutsMounted asked m sink (Err (program.TooLong addr)) = ⊥
PutsMounted asked m sink (Err (program.Image fault)) = ⊥

-- The verdict on an image. Where the sink fails, a beginning of it went out; where memory runs out,
-- nothing did.
abbrev pub PutsVerdict : Endian → ℕ → List ℕ → Bool → SinkChange → Result Bool ProgramFault → Type 0
PutsVerdict e size image asked sink (Ok bad) =
    (text : List ℕ) × IsVerdict e size image asked text bad × Appends sink.old sink.new text
    × (sink.now ≡ sink.before)
PutsVerdict e size image asked sink (Err program.Output) =
    (text : List ℕ) × (bad : Bool) × IsVerdict e size image asked text bad
    × PutsPart sink.old sink.new text × (sink.now ≡ next_count sink.before)
PutsVerdict e size image asked sink (Err program.OutOfMemory) =
    (m : Mount) × Answers e size image (Ok m) × (sink.new ≡ sink.old) × (sink.now ≡ sink.before)
PutsVerdict e size image asked sink (Err (program.Mount mount.OutOfMemory)) =
    Answers e size image (Err mount.OutOfMemory) × (sink.new ≡ sink.old) × (sink.now ≡ sink.before)
PutsVerdict e size image asked sink (Err (program.Mount mount.BlockSize)) = ⊥
PutsVerdict e size image asked sink (Err (program.Mount mount.TooLarge)) = ⊥
PutsVerdict e size image asked sink (Err (program.Mount (mount.Incompatible addr nodetype))) = ⊥
PutsVerdict e size image asked sink (Err (program.Mount (mount.Compressed addr compr))) = ⊥
PutsVerdict e size image asked sink (Err (program.Mount (mount.Clash addr))) = ⊥
PutsVerdict e size image asked sink (Err (program.Mount mount.RootKind)) = ⊥
PutsVerdict e size image asked sink (Err (program.Load fault)) = ⊥
PutsVerdict e size image asked sink (Err (program.Scan fault)) = ⊥
PutsVerdict e size image asked sink (Err (program.Clash addr other)) = ⊥
PutsVerdict e size image asked sink (Err (program.File file)) = ⊥
PutsVerdict e size image asked sink (Err (program.NotRead file)) = ⊥
PutsVerdict e size image asked sink (Err (program.Listing bad)) = ⊥
PutsVerdict e size image asked sink (Err (program.Session fault line cause)) = ⊥
PutsVerdict e size image asked sink (Err (program.Path fault)) = ⊥
PutsVerdict e size image asked sink (Err program.NotRegular) = ⊥
PutsVerdict e size image asked sink (Err (program.NoSpace name)) = ⊥
PutsVerdict e size image asked sink (Err (program.Data addr)) = ⊥
PutsVerdict e size image asked sink (Err (program.TooLong addr)) = ⊥
PutsVerdict e size image asked sink (Err (program.Image fault)) = ⊥
