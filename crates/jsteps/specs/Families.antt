-- Operations that are planned alike.
use Rattle.std.specs.Prelude.{ℕ, Bool, true, false, List, if◌then◌else◌}
use Rattle.jsteps.specs.declared.op.Op.{Op}
use Rattle.jsteps.specs.declared.op.Op.TheVariants as op

-- those that make an object without data
abbrev pub makes_empty : Op → Bool
makes_empty (op.Mkdir time path mode uid gid) = true
makes_empty (op.Create time path mode uid gid) = true
makes_empty (op.Fifo time path mode uid gid) = true
makes_empty (op.Socket time path mode uid gid) = true
makes_empty _ = false

-- those that make an object whose data say what it stands for
abbrev pub makes_special : Op → Bool
makes_special (op.Device time path kind mode uid gid number) = true
makes_special (op.Symlink time path link uid gid) = true
makes_special _ = false

-- a new file with bytes, in the place of what its name stands for or under a new name
abbrev pub file_op : Bool → ℕ → List ℕ → ℕ → ℕ → ℕ → List ℕ → Op
file_op over time path mode uid gid bytes =
    if over then op.Put time path mode uid gid bytes else op.File time path mode uid gid bytes

-- those that give bytes to a regular file, or take them
abbrev pub is_of_bytes : Op → Bool
is_of_bytes (op.File time path mode uid gid bytes) = true
is_of_bytes (op.Put time path mode uid gid bytes) = true
is_of_bytes (op.Write time path offset bytes) = true
is_of_bytes (op.Truncate time path size) = true
is_of_bytes _ = false
