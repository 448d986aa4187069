-- Worked rows of what matters.
use Rattle.std.specs.Prelude.{ℕ, ◌==◌, ◌||◌, Bool, List, [], map, filter, length}
use Rattle.jnode.specs.declared.node.Fill.TheVariants.{Data}
use Rattle.jnode.specs.declared.node.NodeRef.{NodeRef}
use Rattle.jnode.specs.declared.node.NodeRef.TheVariants.{Entry, Inode}
use Rattle.jcompact.specs.Matters.{Placed, matters}

-- an entry of a directory, by its version, its name and what it stands for
abbrev pub name_row : ℕ → ℕ → List ℕ → ℕ → NodeRef
name_row pino version name ino = Entry (record {
  pino = pino;
  version = version;
  ino = ino;
  mctime = 0;
  kind = 8;
  name = name;
})

-- a version of an object of a mode, with the size and these bytes from an offset on
abbrev pub object_row : ℕ → ℕ → ℕ → ℕ → ℕ → List ℕ → NodeRef
object_row mode ino version isize offset bytes = Inode (record {
  ino = ino;
  version = version;
  mode = mode;
  uid = 0;
  gid = 0;
  isize = isize;
  atime = 0;
  mtime = 0;
  ctime = 0;
  offset = offset;
  dsize = length bytes;
  fill = Data bytes;
})

-- the same of a regular file, and of a directory
abbrev pub file_row : ℕ → ℕ → ℕ → ℕ → List ℕ → NodeRef
file_row ino version isize offset bytes = object_row 0o100644 ino version isize offset bytes

abbrev pub folder_row : ℕ → ℕ → NodeRef
folder_row ino version = object_row 0o040755 ino version 0 0 []

-- the addresses of those that matter, where these numbers are reached
abbrev pub kept_at : (ℕ → Bool) → List Placed → List ℕ
kept_at reached ns = map (λ n. n.0) (filter (matters ns reached) ns)

-- the root and the object 2
abbrev pub two_reached : ℕ → Bool
two_reached i = (i == 1) || (i == 2)
