-- Files that are read as they are found in a folder, and kept.
use Rattle.std.specs.Prelude.{◌≡◌, ◌==◌, ℕ, false, List, IfSome, Option, Some, None, bytes_eq, if◌then◌else◌, take}
use Rattle.jfolder.specs.Known.{Known}

-- of a file that has these bytes those that are read: as many as were told, or all if none were
abbrev pub bytes_up_to : ℕ → List ℕ → List ℕ
bytes_up_to size bytes = if size == 0 then bytes else take size bytes

-- One more file is kept, or one anew: what the host has under its name, as far as that is known.
abbrev pub Keeps : (List ℕ → Option (List ℕ)) → ℕ → List ℕ → (List ℕ → Option (List ℕ))
    → (List ℕ → Option (List ℕ)) → Type 0
Keeps has size name old new = (bytes : List ℕ)
    × IfSome (has name) (λ all. bytes ≡ bytes_up_to size all)
    × ((n : List ℕ) → new n ≡ (if bytes_eq name n then Some bytes else old n))

-- the size of what is at a path, where that was looked at last
abbrev pub size_looked : List ℕ → ℕ → List ℕ → ℕ
size_looked looked size path = if bytes_eq looked path then size else 0

-- what is known of a folder whose files are kept: not which of them it opens, nor whether there is
-- memory for all that
abbrev pub known_keeping : Known → Known
known_keeping known = record known { is_opened = λ _. None; has_memory = false }
