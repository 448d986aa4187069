-- What goes out through a buffer.
use Rattle.std.specs.Prelude.{◌≡◌, ℕ, List, [], take, IfSome, Option, Some, None}
use Rattle.std.specs.Io.Buffered.{writer_inner}
use Rattle.flashbase.specs.Bytes.{erased}
use Rattle.flashbase.specs.Device.{PutsPart}
use Rattle.jmakes.specs.Making.{fill_length}
use Rattle.jmakes.specs.declared.wanted.Filling.{Filling}
use Rattle.jsystem.specs.declared.output.BufferedOutput.{BufferedOutput}

-- how many bytes it took, up to the greatest u64
abbrev pub bytes_taken : {W : Type 0} → BufferedOutput W → ℕ
bytes_taken output = output.length

-- what it gave on, if its writer reports what it has
abbrev pub output_given : {W : Type 0} → (W → Option (List ℕ)) → BufferedOutput W
    → Option (List ℕ)
output_given contents output = contents (writer_inner output.writer)

-- what fills up so many bytes
abbrev pub fill_bytes : Option Filling → ℕ → List ℕ
fill_bytes None n = []
fill_bytes (Some to) n = erased (fill_length to n)

-- what was given on is a beginning of what was taken
abbrev pub IsBegunBy : Option (List ℕ) → Option (List ℕ) → Type 0
IsBegunBy given taken = IfSome taken (λ bytes. (n : ℕ) × (given ≡ Some (take n bytes)))

-- a text was taken, or a beginning of it, and of that a beginning was given on
abbrev pub GoesOutInPart : Option (List ℕ) → Option (List ℕ) → List ℕ → Type 0
GoesOutInPart old given text =
    (taken : Option (List ℕ)) × PutsPart old taken text × IsBegunBy given taken
