-- The content of a file, as `cat` writes it.
use Rattle.std.specs.Prelude.{◌≡◌, ℕ, Bool, List, Result, Ok, Err, if◌then◌else◌}
use Rattle.std.specs.Io.KnownBytes.{Appends}
use Rattle.flashbase.specs.Device.{PutsPart, next_count}
use Rattle.flashbase.specs.Sinks.{SinkChange}
use Rattle.jmount.specs.Tree.{State, object, has_bits, regular_bits}
use Rattle.jmount.specs.Find.{find}
use Rattle.jmount.specs.Shown.{readable}
use Rattle.jmount.specs.declared.fault.FindFault.{FindFault}
use Rattle.jreport.specs.declared.faults.ProgramFault.{ProgramFault}
use Rattle.jreport.specs.declared.faults.ProgramFault.TheVariants as program

abbrev pub is_regular : State → ℕ → Bool
is_regular s i = has_bits regular_bits (object s i)

abbrev pub bytes_if_regular : State → ℕ → Result (List ℕ) ProgramFault
bytes_if_regular s i = if is_regular s i then Ok (readable s i) else Err program.NotRegular

abbrev pub content_found : State → Result ℕ FindFault → Result (List ℕ) ProgramFault
content_found s (Ok i) = bytes_if_regular s i
content_found s (Err fault) = Err (program.Path fault)

-- rule: What is printed: What `cat` writes, and which words are paths.
--   definitions: jreport.Content.content_of, jreport.Paths.path_of
--   code: jreport::files::content, jmount::mounted::put_bytes, jreport::whole_image::image_file,
--   jreport::paths::path_word
-- the bytes of the regular file that a path names, or why there are none
unfoldable pub content_of : State → List ℕ → Result (List ℕ) ProgramFault
content_of s path = content_found s (find s path)

-- the fault says why there are none
abbrev pub IsContentFault : Result (List ℕ) ProgramFault → ProgramFault → Type 0
IsContentFault content (program.Path fault) = content ≡ Err (program.Path fault)
IsContentFault content program.NotRegular = content ≡ Err program.NotRegular
IsContentFault content (program.Load fault) = ⊥
IsContentFault content (program.Scan fault) = ⊥
IsContentFault content (program.Mount fault) = ⊥
IsContentFault content (program.Clash addr other) = ⊥
IsContentFault content (program.File file) = ⊥
IsContentFault content (program.NotRead file) = ⊥
IsContentFault content (program.Listing bad) = ⊥
IsContentFault content (program.Session fault line cause) = ⊥
IsContentFault content program.Output = ⊥
IsContentFault content program.OutOfMemory = ⊥
IsContentFault content (program.NoSpace name) = ⊥
IsContentFault content (program.Data addr) = ⊥
IsContentFault content (program.TooLong addr) = ⊥
IsContentFault content (program.Image fault) = ⊥

-- A call puts these bytes. Where the sink fails, a beginning of them went out; where there are
-- none, nothing did.
abbrev pub PutsContent : {T : Type 0} → Result (List ℕ) ProgramFault → SinkChange
    → Result T ProgramFault → Type 0
PutsContent content sink (Ok _) =
    (bytes : List ℕ) × (content ≡ Ok bytes) × Appends sink.old sink.new bytes
    × (sink.now ≡ sink.before)
PutsContent content sink (Err program.Output) =
    (bytes : List ℕ) × (content ≡ Ok bytes) × PutsPart sink.old sink.new bytes
    × (sink.now ≡ next_count sink.before)
PutsContent content sink (Err fault) =
    IsContentFault content fault × (sink.new ≡ sink.old) × (sink.now ≡ sink.before)
