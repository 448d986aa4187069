-- The operations that a listing makes in an image of a byte order, where the files of the host that
-- it names have some bytes.
use Rattle.std.specs.Prelude.{ℕ, List, [], map, Option, Some, None}
use Rattle.jnode.specs.declared.order.Endian.{Endian}
use Rattle.jsteps.specs.declared.op.Op.{Op}
use Rattle.jlisting.specs.Listing.{file_of, op_of}
use Rattle.jlisting.specs.declared.line.Line.{Line}

-- the bytes of the file that a line names, if it names one
abbrev pub bytes_of_file : (List ℕ → List ℕ) → Option (List ℕ) → List ℕ
bytes_of_file files None = []
bytes_of_file files (Some name) = files name

-- the operation of a line
abbrev pub op_in : Endian → (List ℕ → List ℕ) → Line → Op
op_in e files line = op_of e line.action (bytes_of_file files (file_of line.action))

-- rule: Building and extending: The operations of a listing, with the bytes of the files that it
--   names.
--   definitions: jbuild.Operations.ops_in, jbuild.HostFiles.read_of, jbuild.HostFiles.ReadsPart,
--   jbuild.NamedSpans.span_of, jbuild.NamedSpans.SetsSpan
--   code: jbuild::listed::operations, jbuild::host_files::HostFiles,
--   jbuild::named_spans::NamedSpans
abbrev pub ops_in : Endian → (List ℕ → List ℕ) → List Line → List Op
ops_in e files lines = map (op_in e files) lines
