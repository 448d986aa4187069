-- The lines of `damage`.
use Rattle.std.specs.Prelude.{ℕ, List, ◌++◌, codes, decimal, Option, Some, None}
use Rattle.jnode.specs.declared.node.Damage.{Damage}
use Rattle.jline.specs.Damages.{damage_name}
use Rattle.jline.specs.Paths.{path_shown}
use Rattle.jline.specs.Words.{hex, escaped}
use Rattle.jgaps.specs.declared.gap.Gap.{Gap}
use Rattle.jdamage.specs.Ways.{NameOf}
use Rattle.jgaps.specs.declared.fields.Stretch.{Stretch}
use Rattle.jdamage.specs.declared.fields.Loss.{Loss}
use Rattle.jdamage.specs.declared.totals.Totals.{Totals}

-- a path behind a text, as a line
abbrev pub path_line : List ℕ → List (List ℕ) → List ℕ
path_line start path = start ++ (path_shown path ++ codes "\n")

-- ---- a node whose data are damaged

unfoldable pub stretch_start : ℕ → Stretch → List ℕ
stretch_start addr s = hex 8 addr ++ codes " data-crc ino " ++ decimal s.ino ++ codes " version "
    ++ decimal s.version ++ codes " bytes " ++ decimal s.from ++ codes " to " ++ decimal s.to

abbrev pub nothing_line : ℕ → Stretch → List ℕ
nothing_line addr s = stretch_start addr s ++ codes " hides nothing\n"

abbrev pub no_path_line : ℕ → Stretch → List ℕ
no_path_line addr s = stretch_start addr s ++ codes " has no path\n"

abbrev pub hides_line : ℕ → Stretch → List (List ℕ) → List ℕ
hides_line addr s path = path_line (stretch_start addr s ++ codes " hides ") path

-- so many more paths than have a line
unfoldable pub more_end : ℕ → List ℕ
more_end count = decimal count ++ codes " more paths\n"

abbrev pub more_line : ℕ → Stretch → ℕ → List ℕ
more_line addr s count = stretch_start addr s ++ (codes " and " ++ more_end count)

-- ---- an entry node whose name is damaged

unfoldable pub loss_start : ℕ → Loss → List ℕ
loss_start addr l = hex 8 addr ++ codes " name-crc pino " ++ decimal l.pino ++ codes " version "
    ++ decimal l.version ++ codes " ino " ++ decimal l.ino ++ codes " lost"

-- the directory that it was in, where a path leads there
abbrev pub inside_shown : Option (List (List ℕ)) → List ℕ
inside_shown None = codes "\n"
inside_shown (Some path) = codes " in " ++ (path_shown path ++ codes "\n")

abbrev pub loss_line : ℕ → Loss → Option (List (List ℕ)) → List ℕ
loss_line addr l path = loss_start addr l ++ inside_shown path

-- ---- a node of other damage: nothing that it says is known to be right

unfoldable pub unknown_line : ℕ → Damage → List ℕ
unknown_line addr which = hex 8 addr ++ codes " " ++ damage_name which ++ codes " unknown\n"

-- ---- a name whose object is missing: its path, or where none leads there its directory's number

unfoldable pub missing_end : ℕ → List ℕ
missing_end ino = codes " ino " ++ decimal ino ++ codes "\n"

unfoldable pub missing_start : ℕ → List ℕ
missing_start pino = codes "missing pino " ++ decimal pino ++ codes " name "

abbrev pub missing_line : NameOf → Option (List (List ℕ)) → List ℕ
missing_line n None = missing_start n.0 ++ (escaped n.1 ++ missing_end n.2)
missing_line n (Some path) = codes "missing " ++ (path_shown path ++ missing_end n.2)

-- ---- bytes of a file that no node has

unfoldable pub gap_start : Gap → List ℕ
gap_start g = codes "gap ino " ++ decimal g.ino ++ codes " bytes " ++ decimal g.from ++ codes " to "
    ++ decimal g.to

abbrev pub gap_line : Gap → List (List ℕ) → List ℕ
gap_line g path = path_line (gap_start g ++ codes " in ") path

-- so many more paths than have a line
abbrev pub more_gap_line : Gap → ℕ → List ℕ
more_gap_line g count = gap_start g ++ (codes " and " ++ more_end count)

-- ---- the last line

unfoldable pub totals_shown : Totals → List ℕ
totals_shown t = codes "total damaged " ++ decimal t.damaged ++ codes " paths " ++ decimal t.paths
    ++ codes " missing " ++ decimal t.missing ++ codes " gaps " ++ decimal t.gaps ++ codes "\n"

-- the totals of no damage
abbrev pub no_damage : Totals
no_damage = record { damaged = 0; paths = 0; missing = 0; gaps = 0 }
