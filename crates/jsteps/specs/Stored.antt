-- How an index keeps its file system.
use Rattle.std.specs.Prelude.{ℕ, ◌+◌, ◌==◌, Bool, false, Vec, List, length, map, Option, None, option_map, option_and_then, unwrap_or, bytes_eq}
use Rattle.std.specs.List.{flat_map, cons_option}
use Rattle.std.specs.declared.alloc.Global.{Global}
use Rattle.std.specs.declared.cmp.Ordering.{Ordering}
use Rattle.std.specs.Ordering.{nat_cmp, is_eq}
use Rattle.std.specs.Cmp.Lexicographic.{slice_cmp}
use Rattle.std.specs.BTreeMap.{BTreeMap, get}
use Rattle.std.specs.Map.{lookup}
use Rattle.flashbase.specs.Lists.{tabled}
use Rattle.jname.specs.Live.{Key, key_cmp}
use Rattle.jmount.specs.Mount.{Mount}
use Rattle.jmount.specs.Shown.{top_at}
use Rattle.jmount.specs.Tree.{ObjectOf, sized, object}
use Rattle.jsteps.specs.Nodes.{Indexed}
use Rattle.jsteps.specs.Steps.{with_permissions}
use Rattle.jsteps.specs.declared.op.Attributes.{Attributes}
use Rattle.jsteps.specs.declared.directories.Names.{Names}
use Rattle.jsteps.specs.declared.stored.Stored.{Stored}

-- an object as it is kept
abbrev pub stored_outline : Stored → ObjectOf ℕ
stored_outline stored = record {
  mode = stored.mode;
  uid = stored.uid;
  gid = stored.gid;
  atime = stored.atime;
  mtime = stored.mtime;
  ctime = stored.ctime;
  device = None;
  body = stored.size;
}

abbrev pub Objects : Type 0
Objects = BTreeMap ℕ Stored

abbrev pub OwnedName : Type 0
OwnedName = Vec ℕ Global

-- names in the order of their bytes
abbrev pub owned_name_cmp : OwnedName → OwnedName → Ordering
owned_name_cmp x y = slice_cmp nat_cmp x.items y.items

abbrev pub Directories : Type 0
Directories = BTreeMap ℕ Names

-- the names of a directory: the one that is apart, and the others
abbrev pub index_names : Names → List (OwnedName × ℕ)
index_names names = cons_option names.apart names.others.entries

-- the number that a name stands for
abbrev pub ino_among : List (OwnedName × ℕ) → List ℕ → Option ℕ
ino_among entries name = lookup (λ k. is_eq (slice_cmp nat_cmp name k.items)) entries

abbrev pub ino_in : Names → List ℕ → Option ℕ
ino_in names name = ino_among (index_names names) name

abbrev pub ino_at : Directories → Key → Option ℕ
ino_at directories key =
    option_and_then (λ names. ino_in names key.1) (get nat_cmp directories key.0)

-- whether there are no names, and whether a name is apart
abbrev pub is_without_names : Names → Bool
is_without_names names = length (index_names names) == 0

abbrev pub stands_apart : Names → List ℕ → Bool
stands_apart names name = unwrap_or (option_map (λ e. bytes_eq e.0.items name) names.apart) false

-- all names that are kept, each with its directory's number
abbrev pub keys_under : ℕ × Names → List Key
keys_under e = map (λ n. (e.0, n.0.items)) (index_names e.1)

-- what is kept, as callers see it
unfoldable pub stored_index : Objects → Directories → ℕ → Indexed
stored_index objects directories next = record {
  tree = record {
    objects = tabled nat_cmp (map (λ e. e.0) objects.entries)
        (λ i. option_map stored_outline (get nat_cmp objects i));
    names = tabled key_cmp (flat_map keys_under directories.entries) (ino_at directories);
    next = next;
  };
  tops = tabled nat_cmp (map (λ e. e.0) objects.entries)
      (λ i. option_map (λ stored. stored.top) (get nat_cmp objects i));
}

-- the greatest version and the size of a number, 0 where it has no object
abbrev pub top_in : Objects → ℕ → ℕ
top_in objects i = unwrap_or (option_map (λ stored. stored.top) (get nat_cmp objects i)) 0

abbrev pub size_in : Objects → ℕ → ℕ
size_in objects i = unwrap_or (option_map (λ stored. stored.size) (get nat_cmp objects i)) 0

-- an object of which one more version is there, one that was changed as well, and one that got
-- other attributes
abbrev pub raised : Stored → Stored
raised stored = record stored { top = stored.top + 1 }

abbrev pub changed : ℕ → ℕ → Stored → Stored
changed time size stored =
    record stored { size = size; mtime = time; ctime = time; top = stored.top + 1 }

abbrev pub attributed : ℕ → Attributes → Stored → Stored
attributed time attributes stored = record stored {
  mode = with_permissions stored.mode
      attributes.mode;
  uid = attributes.uid;
  gid = attributes.gid;
  atime = attributes.atime;
  mtime = attributes.mtime;
  ctime = time;
  top = stored.top + 1;
}

-- an object with the greatest version of its number, as it is kept, and of a file system
abbrev pub with_top : Stored → ObjectOf ℕ × ℕ
with_top stored = (stored_outline stored, stored.top)

abbrev pub object_and_top : Mount → ℕ → Option (ObjectOf ℕ × ℕ)
object_and_top m i = option_map (λ o. (sized o, top_at m.tops i)) (object m.state i)
