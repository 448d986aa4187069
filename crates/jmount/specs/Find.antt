-- Paths, and what they name (POSIX.1-2017, 4.13 "Pathname Resolution", without relative paths and
-- symlinks).
use Rattle.std.specs.Prelude.{◌≡◌, ℕ, ◌-◌, ◌==◌, ◌&&◌, not, Bool, nat_lt, bytes_eq, IsTrue, List, [], ◌∷◌, length, take, flat_map, Option, Some, None, Result, Ok, Err, All, if◌then◌else◌}
use Rattle.std.specs.List.{list_all}
use Rattle.jmount.specs.Tree.{Tree, named, is_there, is_directory}
use Rattle.jmount.specs.declared.fault.FindFault.{FindFault}
use Rattle.jmount.specs.declared.fault.FindFault.TheVariants as fault

-- a name that a path may have: not empty, no slash, no zero byte, and neither "." nor ".."
abbrev pub is_name : List ℕ → Bool
is_name name =
    nat_lt 0 (length name) && list_all (λ b. not (b == 47) && not (b == 0)) name
    && not (bytes_eq name (46 ∷ [])) && not (bytes_eq name (46 ∷ 46 ∷ []))

-- the text of a path: a slash alone, or a slash before each name
abbrev pub path_text : List (List ℕ) → List ℕ
path_text [] = 47 ∷ []
path_text (name ∷ names) = flat_map (λ n. 47 ∷ n) (name ∷ names)

-- the way to the directory above
abbrev pub way_up : List (List ℕ) → List (List ℕ)
way_up path = take (length path - 1) path

-- rule: The file system that nodes make: Paths, and the objects they lead to.
--   definitions: jmount.Find.IsPath, jmount.Find.find
--   code: jmount::mounted::find
--   laws: jmount::laws::paths_have_names
-- the text is the path of these names
abbrev pub IsPath : List ℕ → List (List ℕ) → Type 0
IsPath text names = (text ≡ path_text names) × All (λ name. IsTrue (is_name name)) names

-- ---- the same as a function: what is between slashes

abbrev pub to_first : ℕ → List (List ℕ) → List (List ℕ)
to_first b [] = (b ∷ []) ∷ []
to_first b (part ∷ parts) = (b ∷ part) ∷ parts

abbrev pub parts : List ℕ → List (List ℕ)
parts [] = [] ∷ []
parts (b ∷ bytes) = if b == 47 then [] ∷ parts bytes else to_first b (parts bytes)

abbrev pub names_if : List (List ℕ) → Option (List (List ℕ))
names_if names = if list_all is_name names then Some names else None

-- the names of a path, and nothing of any other text
abbrev pub path_names : List ℕ → Option (List (List ℕ))
path_names [] = None
path_names (b ∷ []) = if b == 47 then Some [] else None
path_names (b ∷ c ∷ bytes) = if b == 47 then names_if (parts (c ∷ bytes)) else None

-- ---- the walk

abbrev pub step_to : {B : Type 0} → Tree B → Option ℕ → Result ℕ FindFault
step_to t None = Err fault.NotFound
step_to t (Some i) = if is_there t i then Ok i else Err fault.NotFound

-- from an object to the one that a name stands for there
abbrev pub step : {B : Type 0} → Tree B → ℕ → List ℕ → Result ℕ FindFault
step t here name =
    if is_directory t here then step_to t (named t here name) else Err fault.NotDirectory

-- from an object, name by name, up to the first fault
abbrev pub walk : {B : Type 0} → Tree B → List (List ℕ) → Result ℕ FindFault → Result ℕ FindFault
walk t [] here = here
walk t (name ∷ names) (Err f) = Err f
walk t (name ∷ names) (Ok here) = walk t names (step t here name)

abbrev pub find_names : {B : Type 0} → Tree B → Option (List (List ℕ)) → Result ℕ FindFault
find_names t None = Err fault.BadPath
find_names t (Some names) = walk t names (Ok 1)

-- the number of the object that a path names
abbrev pub find : {B : Type 0} → Tree B → List ℕ → Result ℕ FindFault
find t text = find_names t (path_names text)
