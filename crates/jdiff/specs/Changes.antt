-- The lines on one path of two trees.
use Rattle.std.specs.Prelude.{ℕ, ◌%◌, ◌==◌, ◌&&◌, ◌||◌, not, Bool, true, false, suc, List, [], ◌∷◌, ◌++◌, codes, decimal, Option, Some, None, option_map, if◌then◌else◌}
use Rattle.jline.specs.Paths.{path_shown}
use Rattle.jnode.specs.declared.order.Endian.{Endian}
use Rattle.jmount.specs.Device.{major_and_minor}
use Rattle.jmount.specs.declared.object.Kind.{Kind}
use Rattle.jmount.specs.declared.object.Kind.TheVariants as kind
use Rattle.jmount.specs.declared.object.Object.{Object}
use Rattle.jreport.specs.TreeText.{kind_letter, permissions, tail_shown}
use Rattle.jdiff.specs.Entries.{Entry}
use Rattle.jdiff.specs.declared.comparing.Comparing.{Comparing}

-- ---- what is compared

-- kind and permissions, the low 16 bits of a mode; owner, group and size; and the time of change,
-- where times are compared
abbrev pub is_same_object : Bool → Object → Object → Bool
is_same_object times x y =
    (x.mode % 65536 == y.mode % 65536) && (x.uid == y.uid) && (x.gid == y.gid) && (x.size == y.size)
    && (not times || (x.mtime == y.mtime))

-- the major and the minor number of a device, where it has one
abbrev pub number_of_device : Endian → Object → Option (ℕ × ℕ)
number_of_device order o = option_map (major_and_minor order) o.device

abbrev pub is_same_number : Option (ℕ × ℕ) → Option (ℕ × ℕ) → Bool
is_same_number None None = true
is_same_number (Some m) None = false
is_same_number None (Some n) = false
is_same_number (Some m) (Some n) = (m.0 == n.0) && (m.1 == n.1)

-- rule: What is printed: The first place at which bytes differ.
--   definitions: jdiff.Changes.first_difference
--   code: jdiff::bytes::first_difference, jdiff::compared::compare
-- the first place at which one list of bytes has another byte than the other, or none
abbrev pub first_difference : List ℕ → List ℕ → Option ℕ
first_difference [] [] = None
first_difference [] (y ∷ ys) = Some 0
first_difference (x ∷ xs) [] = Some 0
first_difference (x ∷ xs) (y ∷ ys) =
    if x == y then option_map suc (first_difference xs ys) else Some 0

-- ---- lines

abbrev pub time_shown : Bool → ℕ → List ℕ
time_shown times mtime = if times then codes " " ++ decimal mtime else []

-- what is before the path: as in `ls`, without the number, and without the time of change unless
-- times are compared
unfoldable pub entry_start : Bool → Object → List ℕ
entry_start times o = kind_letter o.kind ++ codes " " ++ permissions o.mode ++ codes " "
    ++ decimal o.uid ++ codes " " ++ decimal o.gid
    ++ codes " " ++ decimal o.size ++ time_shown times o.mtime ++ codes " "

abbrev pub changed_line : Bool → Entry → List ℕ
changed_line times x = entry_start times x.object
    ++ (path_shown x.path ++ (tail_shown x.bytes x.object.kind x.again ++ 10 ∷ []))

-- the first tree alone has it, or the second
abbrev pub removed_line : Bool → Entry → List ℕ
removed_line times x = codes "- " ++ changed_line times x

abbrev pub added_line : Bool → Entry → List ℕ
added_line times y = codes "+ " ++ changed_line times y

abbrev pub place_shown : ℕ → List ℕ
place_shown place = codes " at " ++ decimal place ++ codes "\n"

-- the bytes of a file differ from a place on
abbrev pub bytes_differ_line : List (List ℕ) → ℕ → List ℕ
bytes_differ_line path place = codes "* " ++ (path_shown path ++ place_shown place)

abbrev pub number_shown : Option (ℕ × ℕ) → List ℕ
number_shown None = codes "none"
number_shown (Some n) = decimal n.0 ++ codes ":" ++ decimal n.1

abbrev pub numbers_shown : Option (ℕ × ℕ) → Option (ℕ × ℕ) → List ℕ
numbers_shown m n =
    codes " device " ++ number_shown m ++ codes " to " ++ number_shown n ++ codes "\n"

-- a device has another number, or has one or none where it did not
abbrev pub number_differs_line : List (List ℕ) → Option (ℕ × ℕ) → Option (ℕ × ℕ) → List ℕ
number_differs_line path m n = codes "* " ++ (path_shown path ++ numbers_shown m n)

abbrev pub both_lines : Bool → Entry → Entry → List (List ℕ)
both_lines times x y = removed_line times x ∷ added_line times y ∷ []

-- ---- what is told of a path

abbrev pub is_symlink : Kind → Bool
is_symlink kind.Symlink = true
is_symlink _ = false

-- objects that are the same, by where their bytes differ: of a symlink that is where it leads
abbrev pub bytes_changes : Bool → Entry → Entry → Option ℕ → List (List ℕ)
bytes_changes times x y None = []
bytes_changes times x y (Some place) =
    if is_symlink x.object.kind then both_lines times x y else bytes_differ_line x.path place ∷ []

-- two objects, but for the numbers of devices
abbrev pub object_changes : Bool → Entry → Entry → List (List ℕ)
object_changes times x y =
    if is_same_object times x.object y.object then bytes_changes times x y
    (first_difference x.bytes y.bytes) else both_lines times x y

-- and these numbers
abbrev pub number_changes : List (List ℕ) → Option (ℕ × ℕ) → Option (ℕ × ℕ) → List (List ℕ)
number_changes path m n = if is_same_number m n then [] else number_differs_line path m n ∷ []

-- rule: What is printed: The lines on a path of two trees.
--   definitions: jdiff.Changes.changes, jdiff.Changes.is_same_object, jdiff.Changes.number_changes
--   code: jdiff::spot::put_changes
abbrev pub changes : Comparing → Option Entry → Option Entry → List (List ℕ)
changes how None None = []
changes how (Some x) None = removed_line how.times x ∷ []
changes how None (Some y) = added_line how.times y ∷ []
changes how (Some x) (Some y) = object_changes how.times x y
    ++ number_changes x.path (number_of_device how.order x.object)
    (number_of_device how.order y.object)
