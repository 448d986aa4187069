-- The live names (Woodhouse 2001, "Directory entries": of the entries of a name the one of highest
-- version counts, and an entry whose inode number is 0 says that the name is gone).
use Rattle.std.specs.Prelude.{◌≡◌, ℕ, ◌==◌, ◌&&◌, ◌⊎◌, ◌↔◌, Bool, bytes_eq, List, map, filter, Contains, Option, Some, None, option_map, option_and_then, if◌then◌else◌}
use Rattle.std.specs.declared.cmp.Ordering.{Ordering}
use Rattle.std.specs.Ordering.{nat_cmp, ordering_then}
use Rattle.std.specs.Cmp.Lexicographic.{slice_cmp}
use Rattle.std.specs.FinMap.{FinMap, entries}
use Rattle.flashbase.specs.Lists.{newest, tabled}
use Rattle.jnode.specs.declared.node.Dirent.{Dirent}

-- a directory's number and a name, in order of the number and then of the name's bytes
abbrev pub Key : Type 0
Key = ℕ × List ℕ

abbrev pub key_cmp : Key → Key → Ordering
key_cmp a b = ordering_then (nat_cmp a.0 b.0) (slice_cmp nat_cmp a.1 b.1)

abbrev pub key_of : Dirent → Key
key_of entry = (entry.pino, entry.name)

abbrev pub is_at : Key → Dirent → Bool
is_at key entry = (entry.pino == key.0) && bytes_eq entry.name key.1

-- inode number 0 says that there is no entry
abbrev pub ino_if_any : Dirent → Option ℕ
ino_if_any entry = if entry.ino == 0 then None else Some entry.ino

-- rule: The file system that nodes make: A name leads to the inode of its entry of highest version;
--   0 removes it.
--   definitions: jname.Live.live
--   code: jname::names::get, jname::names::of, jname::names::all
--   laws: jname::laws::live_names_are_live, jmount::laws::names_are_of_newest,
--   jmount::examples::removed_name
-- the inode number that a name stands for: that of its entry of highest version
abbrev pub live : List Dirent → Key → Option ℕ
live given key =
    option_and_then ino_if_any (newest (λ entry. entry.version) (filter (is_at key) given))

-- all live names, each with its inode number
abbrev pub live_names : List Dirent → FinMap key_cmp ℕ
live_names given = tabled key_cmp (map key_of given) (live given)

-- The live names of a directory, each with its inode number, in byte order
abbrev pub names_of : List Dirent → ℕ → List (List ℕ × ℕ)
names_of given pino =
    map (λ e. (e.0.1, e.1)) (filter (λ e. e.0.0 == pino) (entries (live_names given)))

-- all live names, each with its directory's number and its inode number, in order
abbrev pub all_names : List Dirent → List (ℕ × List ℕ × ℕ)
all_names given = map (λ e. (e.0.0, e.0.1, e.1)) (entries (live_names given))

-- the greatest version of a directory's entries, with inode number 0 or not
abbrev pub highest : List Dirent → ℕ → Option ℕ
highest given pino = option_map (λ entry. entry.version)
    (newest (λ entry. entry.version) (filter (λ entry. entry.pino == pino) given))

-- the same entries, and one more
abbrev pub Gains : List Dirent → List Dirent → Dirent → Type 0
Gains old new entry = (x : Dirent) → Contains new x ↔ (Contains old x ⊎ (x ≡ entry))

-- the same entries, in any order and number
abbrev pub SameEntries : List Dirent → List Dirent → Type 0
SameEntries a b = (x : Dirent) → Contains a x ↔ Contains b x
