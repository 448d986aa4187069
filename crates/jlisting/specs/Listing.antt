-- What the lines of a listing mean.
use Rattle.std.specs.Prelude.{ℕ, ◌+◌, ◌==◌, ◌||◌, Bool, List, [], ◌∷◌, ◌++◌, length, slice_index, codes, Option, Some, None, Result, Ok, Err, if◌then◌else◌}
use Rattle.std.specs.List.{slice_split}
use Rattle.std.specs.Str.{bytes_eq}
use Rattle.jnode.specs.declared.order.Endian.{Endian}
use Rattle.jline.specs.Read.{◌>>=◌}
use Rattle.jsteps.specs.Device.{device_number}
use Rattle.jsteps.specs.declared.op.Op.{Op}
use Rattle.jsteps.specs.declared.op.Op.TheVariants as op
use Rattle.jlisting.specs.Words.{decimal_of, device_kind_of, mode_of, text_of, hex_data_of, file_name_of, escaped_name_of}
use Rattle.jlisting.specs.declared.line.Action.{Action}
use Rattle.jlisting.specs.declared.line.Action.TheVariants as action
use Rattle.jlisting.specs.declared.line.Line.{Line}
use Rattle.jlisting.specs.declared.statement.Settings.{Settings}
use Rattle.jlisting.specs.declared.statement.Statement.{Statement}
use Rattle.jlisting.specs.declared.statement.Statement.TheVariants as kind

-- ---- the forms of a line, each by the words after its first

-- a number of 32 bits, and one of 16
abbrev pub number : List ℕ → Option ℕ
number word = decimal_of 4294967295 word

abbrev pub owner_word : List ℕ → Option ℕ
owner_word word = decimal_of 65535 word

abbrev pub operation : Op → Option Statement
operation o = Some (kind.Action (action.Op o))

abbrev pub time_line : Settings → List ℕ → Option Statement
time_line s a =
    number a >>= λ time. Some (kind.Settings (record { time = time; uid = s.uid; gid = s.gid }))

abbrev pub owner_line : Settings → List ℕ → List ℕ → Option Statement
owner_line s a b = owner_word a >>= λ uid. owner_word b >>= λ gid.
    Some (kind.Settings (record { time = s.time; uid = uid; gid = gid }))

abbrev pub mkdir_line : Settings → List ℕ → List ℕ → Option Statement
mkdir_line s a b =
    mode_of a >>= λ mode. text_of b >>= λ path. operation (op.Mkdir s.time path mode s.uid s.gid)

abbrev pub create_line : Settings → List ℕ → List ℕ → Option Statement
create_line s a b =
    mode_of a >>= λ mode. text_of b >>= λ path. operation (op.Create s.time path mode s.uid s.gid)

abbrev pub file_line : Settings → List ℕ → List ℕ → List ℕ → Option Statement
file_line s a b c = mode_of a >>= λ mode. text_of b >>= λ path. escaped_name_of c >>= λ file.
    Some (kind.Action (action.File s.time path mode s.uid s.gid file))

abbrev pub put_line : Settings → List ℕ → List ℕ → List ℕ → Option Statement
put_line s a b c = mode_of a >>= λ mode. text_of b >>= λ path. escaped_name_of c >>= λ file.
    Some (kind.Action (action.Put s.time path mode s.uid s.gid file))

-- the numbers of a device: 12 bits and 20, as Linux has them (include/linux/kdev_t.h)
abbrev pub major_word : List ℕ → Option ℕ
major_word word = decimal_of 4095 word

abbrev pub minor_word : List ℕ → Option ℕ
minor_word word = decimal_of 1048575 word

abbrev pub device_line : Settings → List ℕ → List ℕ → List ℕ → List ℕ → List ℕ → Option Statement
device_line s a b c d e =
    device_kind_of a >>= λ device. mode_of b >>= λ mode. major_word c >>= λ major.
    minor_word d >>= λ minor. text_of e >>= λ path.
    Some (kind.Action (action.Device s.time path device mode s.uid s.gid major minor))

abbrev pub fifo_line : Settings → List ℕ → List ℕ → Option Statement
fifo_line s a b =
    mode_of a >>= λ mode. text_of b >>= λ path. operation (op.Fifo s.time path mode s.uid s.gid)

abbrev pub socket_line : Settings → List ℕ → List ℕ → Option Statement
socket_line s a b =
    mode_of a >>= λ mode. text_of b >>= λ path. operation (op.Socket s.time path mode s.uid s.gid)

abbrev pub symlink_line : Settings → List ℕ → List ℕ → Option Statement
symlink_line s a b = text_of a >>= λ path. text_of b >>= λ target.
    operation (op.Symlink s.time path target s.uid s.gid)

abbrev pub write_line : Settings → List ℕ → List ℕ → List ℕ → Option Statement
write_line s a b c = text_of a >>= λ path. number b >>= λ offset. hex_data_of c >>= λ bytes.
    operation (op.Write s.time path offset bytes)

abbrev pub part_line : Settings → List ℕ → List ℕ → List ℕ → Option Statement
part_line s a b c = text_of a >>= λ path. number b >>= λ offset. file_name_of c >>= λ file.
    Some (kind.Action (action.Part s.time path offset file))

abbrev pub truncate_line : Settings → List ℕ → List ℕ → Option Statement
truncate_line s a b =
    text_of a >>= λ path. number b >>= λ size. operation (op.Truncate s.time path size)

abbrev pub link_line : Settings → List ℕ → List ℕ → Option Statement
link_line s a b = text_of a >>= λ old. text_of b >>= λ new. operation (op.Link s.time old new)

abbrev pub rename_line : Settings → List ℕ → List ℕ → Option Statement
rename_line s a b = text_of a >>= λ old. text_of b >>= λ new. operation (op.Rename s.time old new)

abbrev pub replace_line : Settings → List ℕ → List ℕ → Option Statement
replace_line s a b = text_of a >>= λ old. text_of b >>= λ new. operation (op.Replace s.time old new)

abbrev pub remove_line : Settings → List ℕ → Option Statement
remove_line s a = text_of a >>= λ path. operation (op.Remove s.time path)

abbrev pub remove_if_line : Settings → List ℕ → Option Statement
remove_if_line s a = text_of a >>= λ path. operation (op.RemoveIf s.time path)

abbrev pub attr_line : Settings → List ℕ → List ℕ → List ℕ → List ℕ → List ℕ → List ℕ
    → Option Statement
attr_line s a b c d e f =
    mode_of a >>= λ mode. owner_word b >>= λ uid. owner_word c >>= λ gid. number d >>= λ atime.
    number e >>= λ mtime. text_of f >>= λ path.
    operation
    (op.SetAttributes s.time path
    (record { mode = mode; uid = uid; gid = gid; atime = atime; mtime = mtime }))

-- ---- a line

-- the form with this first word and so many after it
unfoldable pub one_operand : Settings → List ℕ → List ℕ → Option Statement
one_operand s name a =
    if bytes_eq name (codes "time") then time_line s a
    else if bytes_eq name (codes "remove") then remove_line s a
    else if bytes_eq name (codes "remove-if") then remove_if_line s a
    else None

unfoldable pub two_operands : Settings → List ℕ → List ℕ → List ℕ → Option Statement
two_operands s name a b =
    if bytes_eq name (codes "owner") then owner_line s a b
    else if bytes_eq name (codes "mkdir") then mkdir_line s a b
    else if bytes_eq name (codes "create") then create_line s a b
    else if bytes_eq name (codes "fifo") then fifo_line s a b
    else if bytes_eq name (codes "socket") then socket_line s a b
    else if bytes_eq name (codes "symlink") then symlink_line s a b
    else if bytes_eq name (codes "truncate") then truncate_line s a b
    else if bytes_eq name (codes "link") then link_line s a b
    else if bytes_eq name (codes "rename") then rename_line s a b
    else if bytes_eq name (codes "replace") then replace_line s a b
    else None

unfoldable pub three_operands : Settings → List ℕ → List ℕ → List ℕ → List ℕ → Option Statement
three_operands s name a b c =
    if bytes_eq name (codes "file") then file_line s a b c
    else if bytes_eq name (codes "put") then put_line s a b c
    else if bytes_eq name (codes "write") then write_line s a b c
    else if bytes_eq name (codes "part") then part_line s a b c
    else None

unfoldable pub five_operands : Settings → List ℕ → List ℕ → List ℕ → List ℕ → List ℕ → List ℕ
    → Option Statement
five_operands s name a b c d e =
    if bytes_eq name (codes "device") then device_line s a b c d e else None

unfoldable pub six_operands : Settings → List ℕ → List ℕ → List ℕ → List ℕ → List ℕ → List ℕ
    → List ℕ → Option Statement
six_operands s name a b c d e f =
    if bytes_eq name (codes "attr") then attr_line s a b c d e f else None

abbrev pub statement_of_words : Settings → List (List ℕ) → Option Statement
statement_of_words s (name ∷ a ∷ []) = one_operand s name a
statement_of_words s (name ∷ a ∷ b ∷ []) = two_operands s name a b
statement_of_words s (name ∷ a ∷ b ∷ c ∷ []) = three_operands s name a b c
statement_of_words s (name ∷ a ∷ b ∷ c ∷ d ∷ e ∷ []) = five_operands s name a b c d e
statement_of_words s (name ∷ a ∷ b ∷ c ∷ d ∷ e ∷ f ∷ []) = six_operands s name a b c d e f
statement_of_words s _ = None

-- an empty line, or a comment
abbrev pub is_skipped : List ℕ → Bool
is_skipped line = (length line == 0) || (slice_index line 0 == 35)

-- rule: Listings: The forms of a line.
--   definitions: jlisting.Listing.statement_of
--   code: jlisting::reading::read_line
-- Any other line is words between single spaces. A space at an end, or a second one, makes an empty
-- word, which no form takes.
unfoldable pub statement_of : Settings → List ℕ → Option Statement
statement_of s line = if is_skipped line then Some kind.Blank else statement_of_words s
    (slice_split (λ b. b == 32) line)

-- ---- a listing

abbrev pub initial_settings : Settings
initial_settings = record { time = 0; uid = 0; gid = 0 }

abbrev pub settings_after : Settings → Statement → Settings
settings_after s kind.Blank = s
settings_after s (kind.Settings new) = new
settings_after s (kind.Action what) = s

abbrev pub action_lines : ℕ → Statement → List Line
action_lines n kind.Blank = []
action_lines n (kind.Settings new) = []
action_lines n (kind.Action what) = record { number = n; action = what } ∷ []

abbrev pub prepend : List Line → Result (List Line) ℕ → Result (List Line) ℕ
prepend lines (Ok more) = Ok (lines ++ more)
prepend lines (Err n) = Err n

abbrev pub or_err : {A B : Type 0} → ℕ → Option A → (A → Result B ℕ) → Result B ℕ
or_err n None f = Err n
or_err n (Some x) f = f x

-- the lines with an action, of those from the n-th on, or the number of the first that means
-- nothing
abbrev pub lines_from : ℕ → Settings → List (List ℕ) → Result (List Line) ℕ
lines_from n s [] = Ok []
lines_from n s (line ∷ lines) = or_err n (statement_of s line)
    (λ m. prepend (action_lines n m) (lines_from (n + 1) (settings_after s m) lines))

-- Each line feed ends a line. What follows the last one is a line too, which may be empty.
abbrev pub lines_in : ℕ → Settings → List ℕ → Result (List Line) ℕ
lines_in n s text = lines_from n s (slice_split (λ b. b == 10) text)

-- rule: Listings: Lines, and the number of the first wrong one.
--   definitions: jlisting.Listing.lines_of
--   code: jlisting::lines::listing
unfoldable pub lines_of : List ℕ → Result (List Line) ℕ
lines_of text = lines_in 1 initial_settings text

-- ---- a file of the host

-- the one whose bytes are written
abbrev pub file_of : Action → Option (List ℕ)
file_of (action.Op o) = None
file_of (action.Device time path device mode uid gid major minor) = None
file_of (action.File time path mode uid gid file) = Some file
file_of (action.Put time path mode uid gid file) = Some file
file_of (action.Part time path offset file) = Some file

-- the operation in an image of a byte order, where that file has these bytes
abbrev pub op_of : Endian → Action → List ℕ → Op
op_of e (action.Op o) bytes = o
op_of e (action.Device time path device mode uid gid major minor) bytes =
    op.Device time path device mode uid gid (device_number e major minor)
op_of e (action.File time path mode uid gid file) bytes = op.File time path mode uid gid bytes
op_of e (action.Put time path mode uid gid file) bytes = op.Put time path mode uid gid bytes
op_of e (action.Part time path offset file) bytes = op.Write time path offset bytes
