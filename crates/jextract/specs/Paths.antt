-- The paths of the host.
use Rattle.std.specs.Prelude.{ℕ, nat_lt, List, [], ◌∷◌, ◌++◌, length, flat_map, Result, Ok, Err, if◌then◌else◌}
use Rattle.std.specs.List.{list_all}
use Rattle.std.specs.Str.{is_utf8}
use Rattle.jmount.specs.Find.{is_name}
use Rattle.jextract.specs.declared.reason.Reason.{Reason}
use Rattle.jextract.specs.declared.reason.Reason.TheVariants as reason

-- the text of a path: its names with a slash between two
abbrev pub relative_path : List (List ℕ) → List ℕ
relative_path [] = []
relative_path (name ∷ names) = name ++ flat_map (λ n. 47 ∷ n) names

-- no host takes a longer one (Linux, include/uapi/linux/limits.h: PATH_MAX has room for a zero
-- byte)
abbrev pub greatest_path : ℕ
greatest_path = 4095

abbrev pub text_if : List ℕ → Result (List ℕ) Reason
text_if text =
    if nat_lt greatest_path (length text) then Err reason.LongPath
    else if is_utf8 text then Ok text
    else Err reason.NoText

-- The text of a path that a host may have, or why it may not: each name of it is one that a path
-- may have (POSIX.1-2017,
-- 3.170 "Filename"), and its text is UTF-8 and of no more than 4,095 bytes.
unfoldable pub host_path : List (List ℕ) → Result (List ℕ) Reason
host_path path = if list_all is_name path then text_if (relative_path path) else Err reason.BadName
