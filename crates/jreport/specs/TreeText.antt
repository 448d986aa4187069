-- The lines that `ls` prints.
use Rattle.std.specs.Prelude.{◌≡◌, ℕ, ◌/◌, ◌%◌, ◌+◌, ◌==◌, ◌&&◌, ◌||◌, not, Bool, false, nat_lt, List, [], ◌∷◌, ◌++◌, length, map, filter, codes, decimal, Option, Some, None, option_map, Result, Ok, Err, if◌then◌else◌}
use Rattle.std.specs.List.{flat_map}
use Rattle.std.specs.Io.KnownBytes.{Appends}
use Rattle.flashbase.specs.Device.{PutsPart, next_count}
use Rattle.flashbase.specs.Sinks.{SinkChange}
use Rattle.jmount.specs.Tree.{State, greatest_target, object, is_there, is_directory, entries_in}
use Rattle.jmount.specs.Find.{find, path_names}
use Rattle.jmount.specs.Shown.{readable, shown}
use Rattle.jmount.specs.declared.object.Kind.{Kind}
use Rattle.jmount.specs.declared.object.Kind.TheVariants as kind
use Rattle.jmount.specs.declared.object.Object.{Object}
use Rattle.jline.specs.Paths.{path_shown}
use Rattle.jline.specs.Words.{escaped}
use Rattle.jreport.specs.declared.faults.ProgramFault.{ProgramFault}
use Rattle.jreport.specs.declared.faults.ProgramFault.TheVariants as program

-- ---- the line of an object

abbrev pub kind_letter : Kind → List ℕ
kind_letter kind.Fifo = codes "p"
kind_letter kind.CharacterDevice = codes "c"
kind_letter kind.Directory = codes "d"
kind_letter kind.BlockDevice = codes "b"
kind_letter kind.Regular = codes "-"
kind_letter kind.Symlink = codes "l"
kind_letter kind.Socket = codes "s"
kind_letter kind.Other = codes "?"

-- the low 12 bits of a mode, in four octal digits
abbrev pub permissions : ℕ → List ℕ
permissions mode =
    (48 + mode / 512 % 8) ∷ (48 + mode / 64 % 8) ∷ (48 + mode / 8 % 8) ∷ (48 + mode % 8) ∷ []

-- what is before the path: kind, permissions, owners, size, time of change, and number
unfoldable pub object_start : ℕ → Object → List ℕ
object_start i o = kind_letter o.kind ++ codes " " ++ permissions o.mode ++ codes " "
    ++ decimal o.uid ++ codes " " ++ decimal o.gid
    ++ codes " " ++ decimal o.size ++ codes " " ++ decimal o.mtime ++ codes " " ++ decimal i
    ++ codes " "

-- where a symlink leads
unfoldable pub target_shown : List ℕ → List ℕ
target_shown target =
    if nat_lt greatest_target (length target) then codes " -> (long)"
    else codes " -> " ++ escaped target

-- what follows the path: of a symlink where it leads, and of a directory that was met before that
-- it was
abbrev pub tail_shown : List ℕ → Kind → Bool → List ℕ
tail_shown target kind.Symlink again = target_shown target
tail_shown target _ again = if again then codes " (again)" else []

abbrev pub object_line : State → List (List ℕ) → ℕ → Object → Bool → List ℕ
object_line s path i o again =
    object_start i o ++ (path_shown path ++ (tail_shown (readable s i) o.kind again ++ 10 ∷ []))

abbrev pub line_if : State → List (List ℕ) → ℕ → Option Object → Bool → List ℕ
line_if s path i None again = []
line_if s path i (Some o) again = object_line s path i o again

-- ---- the walk: an object to print, by its path and its number

abbrev pub Item : Type 0
Item = List (List ℕ) × ℕ

-- these names of a directory that lead to objects, each with its path
abbrev pub items_of : State → List (List ℕ) → List (List ℕ × ℕ) → List Item
items_of s path names = map (λ e. (path ++ e.0 ∷ [], e.1)) (filter (λ e. is_there s e.1) names)

-- Numbers that were met. Only directories are.
abbrev pub Met : Type 0
Met = ℕ → Bool

abbrev pub none_met : Met
none_met i = false

-- a directory that is met for the first time is descended into, before what else is still to print
abbrev pub is_entered : State → Met → ℕ → Bool
is_entered s met i = is_directory s i && not (met i)

abbrev pub met_after : State → Met → ℕ → Met
met_after s met i = λ j. met j || (is_directory s i && i == j)

abbrev pub todo_after : State → Met → Item → List Item → List Item
todo_after s met item todo =
    if is_entered s met item.1 then items_of s item.0 (entries_in s item.1) ++ todo else todo

abbrev pub line_of : State → Met → Item → List ℕ
line_of s met item = line_if s item.0 item.1 (option_map shown (object s item.1))
    (is_directory s item.1 && met item.1)

-- the lines of what is still to print, first to last
abbrev pub AreLinesOf : State → Met → List Item → List (List ℕ) → Type 0
AreLinesOf s met [] lines = lines ≡ []
AreLinesOf s met (item ∷ todo) [] = ⊥
AreLinesOf s met (item ∷ todo) (line ∷ lines) =
    (line ≡ line_of s met item)
    × AreLinesOf s (met_after s met item.1) (todo_after s met item todo) lines

-- the lines of an object, which this path leads to, and of what lies below it
abbrev pub IsTextFrom : State → Item → List ℕ → Type 0
IsTextFrom s item text =
    (lines : List (List ℕ)) × AreLinesOf s none_met (item ∷ []) lines
    × (text ≡ flat_map (λ line. line) lines)

-- rule: What is printed: The lines of `ls`.
--   definitions: jreport.TreeText.IsTreeText, jreport.TreeText.object_line,
--   jreport.TreeText.PutsPartAt, jreport.Remembering.RemembersNone,
--   jreport.Remembering.MeetsDirectory
--   code: jreport::tree_walk::tree_lines, jreport::tree_walk::put_subtree,
--   jreport::whole_image::image_tree, jreport::met::new, jreport::met::meet
--   laws: jreport::tree_laws::every_tree_has_one_text, jreport::tree_laws::root_comes_first,
--   jreport::tree_laws::shape_is_listed_once, jreport::tree_laws::part_is_a_stretch
-- what `ls` prints: the lines from the root on
abbrev pub IsTreeText : State → List ℕ → Type 0
IsTreeText s text = IsTextFrom s ([], 1) text

-- ---- what a call puts

-- a beginning of that text went out
abbrev pub PutsPartFrom : State → Item → Option (List ℕ) → Option (List ℕ) → Type 0
PutsPartFrom s item old new = (text : List ℕ) × IsTextFrom s item text × PutsPart old new text

-- A call puts that text. Where the sink fails or memory runs out, a beginning of it went out.
abbrev pub PutsFrom : {T : Type 0} → State → Item → SinkChange → Result T ProgramFault → Type 0
PutsFrom s item sink (Ok _) =
    (text : List ℕ) × IsTextFrom s item text × Appends sink.old sink.new text
    × (sink.now ≡ sink.before)
PutsFrom s item sink (Err program.Output) =
    PutsPartFrom s item sink.old sink.new × (sink.now ≡ next_count sink.before)
PutsFrom s item sink (Err program.OutOfMemory) =
    PutsPartFrom s item sink.old sink.new × (sink.now ≡ sink.before)
PutsFrom s item sink (Err (program.Load fault)) = ⊥
PutsFrom s item sink (Err (program.Scan fault)) = ⊥
PutsFrom s item sink (Err (program.Mount fault)) = ⊥
PutsFrom s item sink (Err (program.Clash addr other)) = ⊥
PutsFrom s item sink (Err (program.File file)) = ⊥
PutsFrom s item sink (Err (program.NotRead file)) = ⊥
PutsFrom s item sink (Err (program.Listing bad)) = ⊥
PutsFrom s item sink (Err (program.Session fault line cause)) = ⊥
PutsFrom s item sink (Err (program.Path fault)) = ⊥
PutsFrom s item sink (Err program.NotRegular) = ⊥
PutsFrom s item sink (Err (program.NoSpace name)) = ⊥
PutsFrom s item sink (Err (program.Data addr)) = ⊥
PutsFrom s item sink (Err (program.TooLong addr)) = ⊥
PutsFrom s item sink (Err (program.Image fault)) = ⊥

-- the text of the whole tree
abbrev pub PutsTree : {T : Type 0} → State → SinkChange → Result T ProgramFault → Type 0
PutsTree {T} s sink result = PutsFrom {T = T} s ([], 1) sink result

-- ---- a part of a tree

-- the object that a path names, and the names on the path
abbrev pub IsItemAt : State → List ℕ → Item → Type 0
IsItemAt s path item = (path_names path ≡ Some item.0) × (find s path ≡ Ok item.1)

-- A call puts the lines of the object that a path names, and of what lies below it; or it says that
-- it names none, and puts nothing.
abbrev pub PutsPartAt : {T : Type 0} → State → List ℕ → SinkChange → Result T ProgramFault → Type 0
PutsPartAt s path sink (Err (program.Path fault)) =
    (find s path ≡ Err fault) × (sink.new ≡ sink.old) × (sink.now ≡ sink.before)
PutsPartAt {T} s path sink result =
    (item : Item) × IsItemAt s path item × PutsFrom {T = T} s item sink result

-- the part of the tree where a path is given, and else the whole
abbrev pub PutsTreeAt : {T : Type 0} → State → Option (List ℕ) → SinkChange → Result T ProgramFault
    → Type 0
PutsTreeAt {T} s None sink result = PutsTree {T = T} s sink result
PutsTreeAt {T} s (Some path) sink result = PutsPartAt {T = T} s path sink result
