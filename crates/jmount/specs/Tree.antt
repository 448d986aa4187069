-- A file system: its objects, its names, and the next number that is free.
use Rattle.std.specs.Prelude.{ℕ, ◌/◌, ◌%◌, ◌==◌, ◌||◌, Bool, false, List, length, map, filter, Option, Some, None, option_map, is_some, not, if◌then◌else◌}
use Rattle.std.specs.List.{find}
use Rattle.std.specs.Ordering.{nat_cmp}
use Rattle.std.specs.FinMap.{FinMap, get, keys, entries}
use Rattle.flashbase.specs.Lists.{tabled}
use Rattle.jname.specs.Live.{key_cmp}
use Rattle.jmount.specs.declared.object.DeviceBytes.{DeviceBytes}

-- An object, with the number that a device has, as it lies, and with what represents its bytes: the
-- bytes, or in an outline how many they are. An outline has no numbers of devices.
pub record ObjectOf (B : Type 0) : Type 0 where
  pub mode : ℕ
  pub uid : ℕ
  pub gid : ℕ
  pub atime : ℕ
  pub mtime : ℕ
  pub ctime : ℕ
  pub device : Option DeviceBytes
  pub body : B

-- objects by their numbers, and what each name of a directory stands for
pub record Tree (B : Type 0) : Type 0 where
  pub objects : FinMap nat_cmp (ObjectOf B)
  pub names : FinMap key_cmp ℕ
  pub next : ℕ

-- the whole, and the same with each object's bytes replaced by their number
abbrev pub State : Type 0
State = Tree (List ℕ)

abbrev pub Outline : Type 0
Outline = Tree ℕ

abbrev pub sized : ObjectOf (List ℕ) → ObjectOf ℕ
sized o = record {
  mode = o.mode;
  uid = o.uid;
  gid = o.gid;
  atime = o.atime;
  mtime = o.mtime;
  ctime = o.ctime;
  device = None;
  body = length o.body;
}

abbrev pub outline : State → Outline
outline s = record {
  objects = tabled nat_cmp (keys s.objects)
      (λ i. option_map sized (get s.objects i));
  names = s.names;
  next = s.next;
}

-- ---- what a tree says of a number and of a name

abbrev pub object : {B : Type 0} → Tree B → ℕ → Option (ObjectOf B)
object t i = get t.objects i

abbrev pub is_there : {B : Type 0} → Tree B → ℕ → Bool
is_there t i = is_some (object t i)

abbrev pub named : {B : Type 0} → Tree B → ℕ → List ℕ → Option ℕ
named t dir name = get t.names (dir, name)

-- the names of a directory, each with its number, in byte order
abbrev pub entries_in : {B : Type 0} → Tree B → ℕ → List (List ℕ × ℕ)
entries_in t dir = map (λ e. (e.0.1, e.1)) (filter (λ e. e.0.0 == dir) (entries t.names))

-- all names, each with its directory's number and its own, in order
abbrev pub all_entries : {B : Type 0} → Tree B → List (ℕ × List ℕ × ℕ)
all_entries t = map (λ e. (e.0.0, e.0.1, e.1)) (entries t.names)

-- rule: The file system that nodes make: Names without an object dangle.
--   definitions: jmount.Tree.dangling
--   code: jmount::mounted::dangling
--   laws: jmount::examples::dangling_name
-- the names whose objects are missing, in order
abbrev pub dangling : {B : Type 0} → Tree B → List (ℕ × List ℕ × ℕ)
dangling t = filter (λ e. not (is_there t e.2)) (all_entries t)

-- the directory of the first of some names that stands for a number
abbrev pub first_directory_in : List (ℕ × List ℕ × ℕ) → ℕ → Option ℕ
first_directory_in names i = option_map (λ e. e.0) (find (λ e. e.2 == i) names)

-- the directory of the first name, in order, that stands for a number whose object is there
abbrev pub first_directory : {B : Type 0} → Tree B → ℕ → Option ℕ
first_directory t i = if is_there t i then first_directory_in (all_entries t) i else None

-- ---- kinds: mode bits 12 to 15 (Linux, include/uapi/linux/stat.h)

-- rule: The file system that nodes make: Kinds are bits 12 to 15 of the mode.
--   definitions: jmount.Tree.type_bits
--   code: jmount::mounted::object
--   laws: jmount::examples::kinds_of_modes
abbrev pub type_bits : ℕ → ℕ
type_bits mode = mode / 4096 % 16

abbrev pub directory_bits : ℕ
directory_bits = 4

abbrev pub regular_bits : ℕ
regular_bits = 8

abbrev pub symlink_bits : ℕ
symlink_bits = 10

abbrev pub character_bits : ℕ
character_bits = 2

abbrev pub block_bits : ℕ
block_bits = 6

-- A character or a block device. What its node holds is its number, which is not among the bytes of
-- a file system.
abbrev pub is_device : ℕ → Bool
is_device mode = (type_bits mode == character_bits) || (type_bits mode == block_bits)

-- the greatest length of a symlink's target (Linux, include/uapi/linux/limits.h: PATH_MAX less the
-- zero byte)
abbrev pub greatest_target : ℕ
greatest_target = 4095

abbrev pub has_bits : {B : Type 0} → ℕ → Option (ObjectOf B) → Bool
has_bits bits None = false
has_bits bits (Some o) = type_bits o.mode == bits

abbrev pub is_directory : {B : Type 0} → Tree B → ℕ → Bool
is_directory t i = has_bits directory_bits (object t i)
