-- The steps of an operation that is not refused.
use Rattle.std.specs.Prelude.{ℕ, ◌+◌, ◌-◌, ◌*◌, ◌/◌, ◌==◌, is_some, max, min, nat_lt, List, [], ◌∷◌, ◌++◌, length, take, drop, slice_range, flat_map, option_map, unwrap_or, if◌then◌else◌}
use Rattle.flashbase.specs.Lists.{below}
use Rattle.jmount.specs.Tree.{Outline}
use Rattle.jsteps.specs.Device.{device_mode}
use Rattle.jsteps.specs.Where.{parent, last_name, number_there, number_or_zero, number_reached, object_named, is_one_entry}
use Rattle.jsteps.specs.declared.op.Op.{Op}
use Rattle.jsteps.specs.declared.op.Op.TheVariants as op
use Rattle.jsteps.specs.declared.step.Step.{Step}
use Rattle.jsteps.specs.declared.step.Step.TheVariants as step

-- the page of a plain plan: the bytes of one Put lie in one page of the file
abbrev pub plain_page : ℕ
plain_page = 4096

-- the length of a piece whose node is 0x1985 bytes long, so that its length spells the magic of a
-- header
abbrev pub spelling_len : ℕ
spelling_len = 0x1985 - 68

-- The Puts of a piece that lies in one page: one, but two for a piece of that length.
abbrev pub piece_puts : ℕ → ℕ → ℕ → List ℕ → List Step
piece_puts time ino start piece =
    if length piece == spelling_len
    then step.Put time ino start (take plain_page piece)
    ∷ step.Put time ino (start + plain_page) (drop plain_page piece) ∷ []
    else step.Put time ino start piece ∷ []

-- those of the bytes of a write that lie in the n-th page of the file
abbrev pub page_puts : ℕ → ℕ → ℕ → ℕ → List ℕ → ℕ → List Step
page_puts page time ino offset bytes n =
    let start = max offset (n * page) in
    piece_puts time ino start
    (slice_range bytes (start - offset) (min (offset + length bytes) ((n + 1) * page) - offset))

-- and of each page that the bytes meet, in order
abbrev pub puts : ℕ → ℕ → ℕ → ℕ → List ℕ → List Step
puts page time ino offset bytes =
    let first = offset / page in
    flat_map (λ n. page_puts page time ino offset bytes (first + n))
    (below ((offset + length bytes + page - 1) / page - first))

-- zeros up to a size that is past the end
abbrev pub zeros_to : ℕ → ℕ → ℕ → ℕ → List Step
zeros_to time ino old new = if nat_lt old new then step.Zero time ino (new - old) ∷ [] else []

-- bytes at an offset of a file of this size: none of no bytes
abbrev pub write_steps : ℕ → ℕ → ℕ → ℕ → ℕ → List ℕ → List Step
write_steps page time ino size offset [] = []
write_steps page time ino size offset (b ∷ bytes) =
    zeros_to time ino size offset ++ puts page time ino offset (b ∷ bytes)

-- rule: Operations as steps: A new file with bytes, which is named last.
--   definitions: jsteps.Planning.first_len, jsteps.Planning.bytes_steps, jsteps.Planning.file_steps
--   code: jsteps::planning::file, jsteps::planning::make_named
--   laws: jsteps::examples::file_pieces, jsteps::examples::file_plans
-- the length of the first piece of so many bytes
abbrev pub first_len : ℕ → ℕ → ℕ
first_len page len = if min page len == spelling_len then plain_page else min page len

-- another size of a file of this size
abbrev pub resize_steps : ℕ → ℕ → ℕ → ℕ → List Step
resize_steps time ino old new =
    if nat_lt new old then step.Cut time ino new ∷ [] else zeros_to time ino old new

-- the size of what a path names
abbrev pub size_named : Outline → List ℕ → ℕ
size_named t path = unwrap_or (option_map (λ o. o.body) (object_named t path)) 0

-- a new object and its name
abbrev pub make_steps : Outline → ℕ → List ℕ → ℕ → ℕ → ℕ → List ℕ → List Step
make_steps t time path mode uid gid bytes =
    step.MakeObject time mode uid gid bytes
    ∷ step.SetName time (parent t path) (last_name path) t.next ∷ []

-- a new object of this number with bytes: it is made with the first piece of them, and the others
-- are written after it
abbrev pub bytes_steps : ℕ → ℕ → ℕ → ℕ → ℕ → ℕ → List ℕ → List Step
bytes_steps page ino time mode uid gid bytes =
    let first = first_len page (length bytes) in step.MakeObject time mode uid gid
    (take first bytes) ∷ write_steps page time ino first first (drop first bytes)

-- and its name, which comes last
abbrev pub file_steps : ℕ → Outline → ℕ → List ℕ → ℕ → ℕ → ℕ → List ℕ → List Step
file_steps page t time path mode uid gid bytes =
    bytes_steps page t.next time mode uid gid bytes
    ++ step.SetName time (parent t path) (last_name path) t.next ∷ []

-- another name for an object: the new one is set, and then the old one cleared
abbrev pub move_steps : Outline → ℕ → List ℕ → List ℕ → List Step
move_steps t time old new =
    step.SetName time (parent t new) (last_name new) (number_or_zero t old)
    ∷ step.ClearName time (parent t old) (last_name old) ∷ []

-- rule: Operations as steps: A file instead of the old object of its name, and a name that is
--   removed if it exists.
--   definitions: jsteps.Planning.steps_of, jsteps.Refusals.is_taken, jsteps.Families.file_op
--   code: jsteps::planning::file, jsteps::planning::remove_if
--   laws: jsteps::examples::put_over, jsteps::examples::removed_names,
--   jtree::laws::updates_are_whole
-- rule: Operations as steps: A name in the place of another.
--   definitions: jsteps.Planning.steps_of, jsteps.Planning.move_steps, jsteps.Where.is_one_entry,
--   jsteps.Refusals.is_taken
--   code: jsteps::planning::replace
--   laws: jsteps::examples::replaced_names, jsteps::laws::shape_is_kept
-- rule: Operations as steps: The steps of an operation.
--   definitions: jsteps.Planning.steps_of
--   code: jsteps::planning::plan
--   laws: jsteps::laws::planned_is_ready, jsteps::laws::planned_is_writable
-- the steps of an operation under a page
abbrev pub steps_of : ℕ → Outline → Op → List Step
steps_of page t (op.Mkdir time path mode uid gid) =
    make_steps t time path (0o040000 + mode) uid gid []
steps_of page t (op.Create time path mode uid gid) =
    make_steps t time path (0o100000 + mode) uid gid []
steps_of page t (op.File time path mode uid gid bytes) =
    file_steps page t time path (0o100000 + mode) uid gid bytes
steps_of page t (op.Put time path mode uid gid bytes) =
    file_steps page t time path (0o100000 + mode) uid gid bytes
steps_of page t (op.Device time path kind mode uid gid number) =
    make_steps t time path (device_mode kind + mode) uid gid number
steps_of page t (op.Fifo time path mode uid gid) =
    make_steps t time path (0o010000 + mode) uid gid []
steps_of page t (op.Socket time path mode uid gid) =
    make_steps t time path (0o140000 + mode) uid gid []
steps_of page t (op.Symlink time path link uid gid) = make_steps t time path 0o120777 uid gid link
steps_of page t (op.Write time path offset bytes) =
    write_steps page time (number_or_zero t path) (size_named t path) offset bytes
steps_of page t (op.Truncate time path size) =
    resize_steps time (number_or_zero t path) (size_named t path) size
steps_of page t (op.Link time old new) =
    step.SetName time (parent t new) (last_name new) (number_or_zero t old) ∷ []
steps_of page t (op.Remove time path) = step.ClearName time (parent t path) (last_name path) ∷ []
steps_of page t (op.RemoveIf time path) =
    if is_some (number_there t path) then step.ClearName time (parent t path) (last_name path) ∷ []
    else []
steps_of page t (op.Rename time old new) = move_steps t time old new
steps_of page t (op.Replace time old new) =
    if is_one_entry t old new then [] else move_steps t time old new
steps_of page t (op.SetAttributes time path attributes) =
    step.SetAttributes time (unwrap_or (number_reached t path) 0) attributes ∷ []

-- No plan has more: two for each 4,096 bytes up to the greatest size of a file, and zeros or a
-- name.
abbrev pub most_steps : ℕ
most_steps = 1048577
