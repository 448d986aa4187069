-- What is told after an image was extracted, or another one was made of it, beside what was left
-- out by its name or address.
use Rattle.std.specs.Prelude.{ℕ, ◌==◌, Bool, true, false, List, [], ◌++◌, codes, count_by, decimal, if◌then◌else◌}
use Rattle.jmount.specs.Mount.{Mount}
use Rattle.jscan.specs.declared.finding.FindingKind.{FindingKind}
use Rattle.jscan.specs.declared.finding.FindingKind.TheVariants as kind
use Rattle.jreport.specs.Notes.{note_line_of}

abbrev pub is_attribute_node : FindingKind → Bool
is_attribute_node kind.Attribute = true
is_attribute_node _ = false

-- how many nodes of extended attributes a mounted image has
abbrev pub attribute_count : Mount → ℕ
attribute_count m = count_by (λ f. is_attribute_node f.kind) m.findings

unfoldable pub lost_bits_line_of : ℕ → List ℕ
lost_bits_line_of n = codes
    "jffs2_image: note: objects that lost set-user-id or set-group-id bits: "
    ++ (decimal n ++ codes ", see extract --owners\n")

unfoldable pub attributes_line_of : ℕ → List ℕ
attributes_line_of n = codes
    "jffs2_image: note: nodes of extended attributes, which are not extracted: "
    ++ (decimal n ++ codes "\n")

-- of an image that another one is made of
unfoldable pub left_attributes_line_of : ℕ → List ℕ
left_attributes_line_of n = codes
    "jffs2_image: note: nodes of extended attributes, which are left out: "
    ++ (decimal n ++ codes "\n")

-- a line on so many, if there are any
abbrev pub line_of_count : (ℕ → List ℕ) → ℕ → List ℕ
line_of_count line n = if n == 0 then [] else line n

-- The notes on so many findings, objects that lost bits, and nodes of extended attributes.
unfoldable pub extraction_notes_of : ℕ → ℕ → ℕ → List ℕ
extraction_notes_of findings lost attributes =
    line_of_count note_line_of findings
    ++ (line_of_count lost_bits_line_of lost ++ line_of_count attributes_line_of attributes)
