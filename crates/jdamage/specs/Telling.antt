-- What a call adds to the text.
use Rattle.std.specs.Prelude.{◌≡◌, ℕ, ◌-◌, ◌^◌, Bool, List, [], ◌++◌, length, min, sum_by, take, All, Option, Some, None, true, if◌then◌else◌}
use Rattle.std.specs.List.{flat_map}
use Rattle.std.specs.BTreeSet.{BTreeSet, contains}
use Rattle.std.specs.Ordering.{nat_cmp}
use Rattle.jnode.specs.declared.order.Endian.{Endian}
use Rattle.jnode.specs.declared.node.Damage.{Damage}
use Rattle.jnode.specs.declared.node.Damage.TheVariants.{NodeCrc, NameCrc, DataCrc, Length, Range}
use Rattle.jmount.specs.Mount.{Mount}
use Rattle.jmount.specs.Tree.{State}
use Rattle.jgaps.specs.declared.gap.Gap.{Gap}
use Rattle.jdamage.specs.Damage.{gap_text, hurt_text, missing_text, most_paths, node_text, reached_once}
use Rattle.jgaps.specs.Fields.{stretch_at}
use Rattle.jdamage.specs.Lines.{nothing_line, path_line, totals_shown}
use Rattle.jdamage.specs.Ways.{HeldName, name_held, path_to_name, paths_to}
use Rattle.jgaps.specs.declared.fields.Stretch.{Stretch}
use Rattle.jdamage.specs.declared.totals.Totals.{Totals}

-- the line of a path, if there is one
abbrev pub path_text_if : List ℕ → Option (List (List ℕ)) → List ℕ
path_text_if start None = []
path_text_if start (Some path) = path_line start path

-- the line of a name, where a path leads to it
abbrev pub named_text : State → List ℕ → HeldName → List ℕ
named_text s start n = path_text_if start (path_to_name s (name_held n))

-- a line for each of the first paths that lead to a number
abbrev pub first_lines : State → List ℕ → ℕ → List ℕ
first_lines s start i = flat_map (path_line start) (take most_paths (paths_to s i))

-- a version of an object whose number is among some
abbrev pub is_kept : BTreeSet ℕ → Stretch → Bool
is_kept numbers s = contains nat_cmp numbers s.ino

-- the number of its object is among some, where a node's data are damaged
abbrev pub HasListedNumber : Endian → List ℕ → BTreeSet ℕ → ℕ × Damage → Type 0
HasListedNumber e image numbers d = d.1 ≡ DataCrc
    → contains nat_cmp numbers (stretch_at e image d.0).ino ≡ true

abbrev pub HaveNumbers : Endian → List ℕ → BTreeSet ℕ → List (ℕ × Damage) → Type 0
HaveNumbers e image numbers damaged = All (HasListedNumber e image numbers) damaged

-- the number of its file is among some
abbrev pub HaveFiles : BTreeSet ℕ → List Gap → Type 0
HaveFiles numbers gaps = All (λ g. contains nat_cmp numbers g.ino ≡ true) gaps

-- ---- a damaged node, where it is known whether it hides nothing

abbrev pub lost_text : State → Bool → ℕ → Stretch → List ℕ
lost_text s hides_none addr lost =
    if hides_none then nothing_line addr lost else hurt_text addr lost (paths_to s lost.ino)

abbrev pub lost_paths : State → Bool → Stretch → List (List (List ℕ))
lost_paths s hides_none lost = if hides_none then [] else paths_to s lost.ino

abbrev pub own_text : Endian → Mount → BTreeSet ℕ → ℕ × Damage → List ℕ
own_text e m hidden (addr, DataCrc) =
    lost_text m.state (contains nat_cmp hidden addr) addr (stretch_at e m.image addr)
own_text e m hidden (addr, NameCrc) = node_text e m [] (addr, NameCrc)
own_text e m hidden (addr, NodeCrc) = node_text e m [] (addr, NodeCrc)
own_text e m hidden (addr, Length) = node_text e m [] (addr, Length)
own_text e m hidden (addr, Range) = node_text e m [] (addr, Range)

abbrev pub own_paths : Endian → Mount → BTreeSet ℕ → ℕ × Damage → ℕ
own_paths e m hidden (addr, DataCrc) =
    length (lost_paths m.state (contains nat_cmp hidden addr) (stretch_at e m.image addr))
own_paths e m hidden (addr, _) = 0

-- ---- all of it

abbrev pub missing_texts : State → List HeldName → List ℕ
missing_texts s missing = flat_map (λ n. missing_text s (name_held n)) missing

abbrev pub own_count : Endian → Mount → BTreeSet ℕ → List (ℕ × Damage) → ℕ
own_count e m hidden damaged = min (sum_by (own_paths e m hidden) damaged) (2 ^ 64 - 1)

abbrev pub own_totals : Endian → Mount → BTreeSet ℕ → List (ℕ × Damage) → List HeldName → List Gap
    → Totals
own_totals e m hidden damaged missing gaps = record {
  damaged = length damaged;
  paths = own_count e m hidden damaged;
  missing = length missing;
  gaps = sum_by (reached_once m.state) gaps;
}

abbrev pub own_lines : Endian → Mount → BTreeSet ℕ → List (ℕ × Damage) → List HeldName → List ℕ
own_lines e m hidden damaged missing =
    flat_map (own_text e m hidden) damaged ++ missing_texts m.state missing

abbrev pub own_whole : Endian → Mount → BTreeSet ℕ → List (ℕ × Damage) → List HeldName → List Gap
    → List ℕ
own_whole e m hidden damaged missing gaps = own_lines e m hidden damaged missing
    ++ (flat_map (gap_text m.state) gaps
    ++ totals_shown (own_totals e m hidden damaged missing gaps))
