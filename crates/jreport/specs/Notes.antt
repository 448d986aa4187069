-- What a reader of files is told of an image that mounted, and yet has bytes where a node may have
-- been.
use Rattle.std.specs.Prelude.{ℕ, ◌==◌, Bool, true, false, if◌then◌else◌, List, ◌++◌, codes, count_by, decimal}
use Rattle.jmount.specs.Mount.{Mount}
use Rattle.jscan.specs.declared.finding.FindingKind.{FindingKind}
use Rattle.jscan.specs.declared.finding.FindingKind.TheVariants as kind

-- Damage, dirt and the other byte order are told of, and sound nodes are not.
abbrev pub is_noted : FindingKind → Bool
is_noted (kind.Damaged which) = true
is_noted kind.Attribute = false
is_noted (kind.ReadOnly nodetype) = false
is_noted kind.OtherOrder = true
is_noted kind.Dirt = true

-- how many such findings a mounted image has
abbrev pub noted : Mount → ℕ
noted m = count_by (λ f. is_noted f.kind) m.findings

-- what is said of n of them
unfoldable pub findings_text : ℕ → List ℕ
findings_text n = if n == 1
    then codes
    " finding, see check --scan; a wrong --block or --endian shows as findings too, see info\n"
    else codes
    " findings, see check --scan; a wrong --block or --endian shows as findings too, see info\n"

-- rule: What is printed: The note of `ls`, `cat` and `append` on findings.
--   definitions: jreport.Notes.note_line_of, jreport.Notes.noted, jedge.Commands.findings_noted
--   code: jreport::notes::put_note, jreport::whole_image::image_tree,
--   jreport::whole_image::image_file, jmakes::base_note::note_on
-- the line on standard error that tells of n of them
unfoldable pub note_line_of : ℕ → List ℕ
note_line_of n = codes "jffs2_image: note: " ++ (decimal n ++ findings_text n)
