-- What callers are shown of a mounted image.
use Rattle.std.specs.Prelude.{◌≡◌, ◌≢◌, ℕ, ◌<◌, ◌≤◌, ◌==◌, ◌||◌, List, [], length, map, slice_index, Option, Some, None, unwrap_or, if◌then◌else◌}
use Rattle.std.specs.Ordering.{nat_cmp}
use Rattle.std.specs.FinMap as finite
use Rattle.std.specs.FinMap.{FinMap}
use Rattle.jmount.specs.Tree.{ObjectOf, State, sized, object, type_bits, regular_bits, symlink_bits}
use Rattle.jmount.specs.declared.object.Object.{Object}
use Rattle.jmount.specs.declared.object.Kind.{Kind}
use Rattle.jmount.specs.declared.object.Kind.TheVariants as kind

-- the kind that mode bits 12 to 15 say (Linux, include/uapi/linux/stat.h)
abbrev pub kind_of : ℕ → Kind
kind_of bits =
    if bits == 1 then kind.Fifo
    else if bits == 2 then kind.CharacterDevice
    else if bits == 4 then kind.Directory
    else if bits == 6 then kind.BlockDevice
    else if bits == 8 then kind.Regular
    else if bits == 10 then kind.Symlink
    else if bits == 12 then kind.Socket
    else kind.Other

-- an object of an outline as callers see it
abbrev pub shown_outline : ObjectOf ℕ → Object
shown_outline o = record {
  kind = kind_of (type_bits o.mode);
  mode = o.mode;
  uid = o.uid;
  gid = o.gid;
  size = o.body;
  atime = o.atime;
  mtime = o.mtime;
  ctime = o.ctime;
  device = o.device;
}

abbrev pub shown : ObjectOf (List ℕ) → Object
shown o = record (shown_outline (sized o)) { device = o.device }

-- all objects as callers see them, each with its number, in order
abbrev pub objects_in : State → List (ℕ × Object)
objects_in s = map (λ e. (e.0, shown e.1)) (finite.entries s.objects)

-- the bytes of a regular file or a symlink, and none of anything else
abbrev pub bytes_if : Option (ObjectOf (List ℕ)) → List ℕ
bytes_if None = []
bytes_if (Some o) =
    if (type_bits o.mode == regular_bits) || (type_bits o.mode == symlink_bits) then o.body else []

abbrev pub readable : State → ℕ → List ℕ
readable s i = bytes_if (object s i)

abbrev pub top_at : FinMap nat_cmp ℕ → ℕ → ℕ
top_at tops i = unwrap_or (finite.get tops i) 0

-- so many bytes are 0, and the next one is not
pub record IsZeroRun (bytes : List ℕ) (count : ℕ) : Type 0 where
  pub within : count ≤ length bytes
  pub zeros : (i : ℕ) → i < count → slice_index bytes i ≡ 0
  pub stops : count < length bytes → slice_index bytes count ≢ 0
