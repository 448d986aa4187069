-- Bytes of a file that no node has: in their place zeros are printed.
use Rattle.std.specs.Prelude.{ℕ, ◌-◌, ◌^◌, ◌==◌, ◌++◌, min, sum_by, unwrap_or, codes, decimal, List, [], Option, Some, Result, Ok, Err, if◌then◌else◌}
use Rattle.jgaps.specs.Gaps.{gaps_of_file}
use Rattle.jgaps.specs.declared.gap.Gap.{Gap}
use Rattle.jmount.specs.Find.{find}
use Rattle.jmount.specs.Mount.{Mount}
use Rattle.jmount.specs.declared.fault.FindFault.{FindFault}
use Rattle.jnode.specs.declared.order.Endian.{Endian}
use Rattle.jreport.specs.Notes.{noted as findings}

-- how many bytes gaps are, or the greatest u64
abbrev pub missing_in : List Gap → ℕ
missing_in gaps = min (sum_by (λ g. g.to - g.from) gaps) (2 ^ 64 - 1)

-- those of the file that a path leads to
abbrev pub bytes_missing_at : Endian → ℕ → Mount → Result ℕ FindFault → ℕ
bytes_missing_at e size m (Ok ino) = missing_in (gaps_of_file e size m ino)
bytes_missing_at e size m (Err why) = 0

-- rule: What is printed: How many bytes of a file no node has, of an image with findings.
--   definitions: jedge.Missing.missing_bytes, jedge.Missing.bytes_missing_line
--   code: jedge::missing::count_missing, jedge::missing::put_missing
-- They are counted only if the image has findings: in a sound one no byte is missing, unless nodes
-- are gone without a trace.
abbrev pub missing_bytes : Endian → ℕ → List ℕ → Mount → ℕ
missing_bytes e size path m =
    if findings m == 0 then 0 else bytes_missing_at e size m (find m.state path)

-- the line on standard error
unfoldable pub bytes_missing_line : ℕ → List ℕ
bytes_missing_line n = codes "jffs2_image: note: bytes that no node has, zeros here: "
    ++ (decimal n ++ codes "; see damage\n")

-- before what else is noted
abbrev pub missing_noted : ℕ → Option (List ℕ) → Option (List ℕ)
missing_noted n noted = if n == 0 then noted else Some (bytes_missing_line n ++ unwrap_or noted [])
