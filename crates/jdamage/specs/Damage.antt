-- What `damage` prints of a mounted image.
use Rattle.std.specs.Prelude.{◌≡◌, ℕ, ◌-◌, ◌^◌, ◌==◌, nat_lt, Bool, List, [], ◌∷◌, ◌++◌, length, take, min, sum_by, Option, Some, None, option_map, Result, Ok, Err, if◌then◌else◌}
use Rattle.std.specs.List.{flat_map}
use Rattle.std.specs.Io.KnownBytes.{Appends}
use Rattle.flashbase.specs.Device.{PutsPart, next_count}
use Rattle.flashbase.specs.declared.source.DeviceFault.{DeviceFault}
use Rattle.jnode.specs.declared.order.Endian.{Endian}
use Rattle.jnode.specs.declared.node.Damage.{Damage}
use Rattle.jnode.specs.declared.node.Damage.TheVariants.{NodeCrc, NameCrc, DataCrc, Length, Range}
use Rattle.jmount.specs.Mount.{Mount}
use Rattle.jmount.specs.Shown.{shown}
use Rattle.jmount.specs.Tree.{State, object, dangling}
use Rattle.jmount.specs.declared.object.Object.{Object}
use Rattle.jdamage.specs.Coverage.{hides_nothing}
use Rattle.jgaps.specs.Fields.{stretch_at, stretches}
use Rattle.jdamage.specs.Fields.{loss_at, damaged_nodes}
use Rattle.jgaps.specs.Gaps.{gaps_of}
use Rattle.jgaps.specs.declared.gap.Gap.{Gap}
use Rattle.jdamage.specs.Lines.{nothing_line, no_path_line, hides_line, more_line, loss_line, unknown_line, missing_line, gap_line, more_gap_line, totals_shown}
use Rattle.jdamage.specs.Ways.{NameOf, path_below, paths_to}
use Rattle.jdamage.specs.declared.fault.DamageFault.{DamageFault}
use Rattle.jdamage.specs.declared.fault.DamageFault.TheVariants.{Output, OutOfMemory}
use Rattle.jgaps.specs.declared.fields.Stretch.{Stretch}
use Rattle.jdamage.specs.declared.totals.Totals.{Totals}

-- ---- a node whose data are damaged

abbrev pub size_shown : Option Object → ℕ
size_shown None = 0
size_shown (Some o) = o.size

-- the size of the object of a number, 0 where it is missing
abbrev pub size_at : State → ℕ → ℕ
size_at s i = size_shown (option_map shown (object s i))

-- whether the object is the same without it, beside these versions
abbrev pub changes_nothing : State → List Stretch → Stretch → Bool
changes_nothing s others lost = hides_nothing others (size_at s lost.ino) lost

-- the paths whose object it takes something from
abbrev pub hurt_paths : State → List Stretch → Stretch → List (List (List ℕ))
hurt_paths s others lost = if changes_nothing s others lost then [] else paths_to s lost.ino

-- of one node, and of one gap, so many paths have a line at most
abbrev pub most_paths : ℕ
most_paths = 16

-- by how many paths there are: that none leads there, or how many more than have a line
abbrev pub rest_text : ℕ → Stretch → ℕ → List ℕ
rest_text addr lost count = if count == 0 then no_path_line addr lost
    else (if nat_lt most_paths count then more_line addr lost (count - most_paths) else [])

-- a line for each of the first, and what is told of the rest
abbrev pub hurt_text : ℕ → Stretch → List (List (List ℕ)) → List ℕ
hurt_text addr lost paths = flat_map (hides_line addr lost) (take most_paths paths)
    ++ rest_text addr lost (length paths)

unfoldable pub data_text : State → List Stretch → ℕ → Stretch → List ℕ
data_text s others addr lost =
    if changes_nothing s others lost then nothing_line addr lost
    else hurt_text addr lost (paths_to s lost.ino)

-- ---- a damaged node, and a name

-- what is told of a damaged node, beside these versions
abbrev pub node_text : Endian → Mount → List Stretch → ℕ × Damage → List ℕ
node_text e m others (addr, DataCrc) = data_text m.state others addr (stretch_at e m.image addr)
node_text e m others (addr, NameCrc) =
    let lost = loss_at e m.image addr in
    loss_line addr lost (path_below m.state lost.pino [])
node_text e m others (addr, NodeCrc) = unknown_line addr NodeCrc
node_text e m others (addr, Length) = unknown_line addr Length
node_text e m others (addr, Range) = unknown_line addr Range

-- how many paths it hides
abbrev pub node_paths : Endian → Mount → List Stretch → ℕ × Damage → ℕ
node_paths e m others (addr, DataCrc) =
    length (hurt_paths m.state others (stretch_at e m.image addr))
node_paths e m others (addr, _) = 0

-- what is told of a name whose object is missing
abbrev pub missing_text : State → NameOf → List ℕ
missing_text s n = missing_line n (path_below s n.0 (n.1 ∷ []))

-- ---- bytes of files that no node has

-- by how many paths there are: how many more than have a line
abbrev pub more_gap_text : Gap → ℕ → List ℕ
more_gap_text g count =
    if nat_lt most_paths count then more_gap_line g (count - most_paths) else []

-- a line for each of the first, and what is told of the rest
abbrev pub gap_lines : Gap → List (List (List ℕ)) → List ℕ
gap_lines g paths =
    flat_map (gap_line g) (take most_paths paths) ++ more_gap_text g (length paths)

-- what is told of a gap: nothing, if no path leads to its file
abbrev pub gap_text : State → Gap → List ℕ
gap_text s g = gap_lines g (paths_to s g.ino)

-- a gap counts once, if a path leads to its file
abbrev pub reached_once : State → Gap → ℕ
reached_once s g = min (length (paths_to s g.ino)) 1

-- ---- the whole

-- How many nodes are damaged, how many paths they hide, each by itself, to the greatest u64, how
-- many names have no object, and how many gaps are in files that a path leads to.
abbrev pub totals_by : Endian → Mount → List Stretch → List (ℕ × Damage) → List Gap → Totals
totals_by e m others damaged gaps = record {
  damaged = length damaged;
  paths = min (sum_by (node_paths e m others) damaged) (2 ^ 64 - 1);
  missing = length (dangling m.state);
  gaps = sum_by (reached_once m.state) gaps;
}

-- The lines: the damaged nodes in order of address, the names whose objects are missing, the gaps
-- in order of the object's number and then of the place, the totals.
abbrev pub text_by : Endian → Mount → List Stretch → List (ℕ × Damage) → List Gap → List ℕ
text_by e m others damaged gaps = (flat_map (node_text e m others) damaged
    ++ flat_map (missing_text m.state) (dangling m.state))
    ++ (flat_map (gap_text m.state) gaps ++ totals_shown (totals_by e m others damaged gaps))

unfoldable pub damage_totals : Endian → ℕ → Mount → Totals
damage_totals e size m = totals_by e m (stretches e size m.image) (damaged_nodes e size m.image)
    (gaps_of e size m)

-- rule: What is printed: What the damage of an image costs.
--   definitions: jdamage.Damage.damage_text, jdamage.Damage.damage_totals
--   code: jdamage::damage::put_damage
--   laws: jdamage::laws::sound_has_no_lines
unfoldable pub damage_text : Endian → ℕ → Mount → List ℕ
damage_text e size m = text_by e m (stretches e size m.image) (damaged_nodes e size m.image)
    (gaps_of e size m)

-- ---- what a call puts

-- what is told, or that the sink failed
abbrev pub damage_told : Result Totals DeviceFault → Result Totals DamageFault
damage_told (Ok totals) = Ok totals
damage_told (Err fault) = Err Output

-- The text; the answer are the totals. Where the sink fails, a beginning of it went out, and where
-- memory runs out, nothing.
abbrev pub PutsDamage : Endian → ℕ → Mount → Option (List ℕ) → Option (List ℕ) → ℕ → ℕ
    → Result Totals DamageFault → Type 0
PutsDamage e size m old new before now (Ok totals) =
    (totals ≡ damage_totals e size m) × Appends old new (damage_text e size m) × (now ≡ before)
PutsDamage e size m old new before now (Err Output) =
    PutsPart old new (damage_text e size m) × (now ≡ next_count before)
PutsDamage e size m old new before now (Err OutOfMemory) = (new ≡ old) × (now ≡ before)
