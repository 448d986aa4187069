-- What is known of what the host tells of a folder.
use Rattle.std.specs.Prelude.{◌≡◌, ℕ, Bool, false, List, drop, map, IfSome, Option, None}
use Rattle.std.specs.String.{string_bytes}
use Rattle.jfolder.specs.declared.host.Looked.{Looked}
use Rattle.jfolder.specs.declared.host.Names.{Names}

-- a path as the host is asked for it: without the slash that it begins with
abbrev pub inside : List ℕ → List ℕ
inside path = drop 1 path

-- the names in a directory: those that are text, in the order in which they are told, and how many
-- others there are
pub record Named : Type 0 where
  pub texts : List (List ℕ)
  pub others : ℕ

abbrev pub named_of : Names → Named
named_of names = record { texts = map string_bytes names.texts.items; others = names.others }

-- what the host tells at each path, where that is known: of the object, of the names in a
-- directory, of the target of a symlink, and of the name by which another program opens a regular
-- file; whether it tells of the object at all, and whether it opens the file; and whether no call
-- runs out of memory
pub record Known : Type 0 where
  pub looked : List ℕ → Option Looked
  pub names : List ℕ → Option Named
  pub target : List ℕ → Option (List ℕ)
  pub host_path : List ℕ → Option (List ℕ)
  pub is_told : List ℕ → Option Bool
  pub is_opened : List ℕ → Option Bool
  pub has_memory : Bool

abbrev pub nothing : Known
nothing = record {
  looked = λ _. None;
  names = λ _. None;
  target = λ _. None;
  host_path = λ _. None;
  is_told = λ _. None;
  is_opened = λ _. None;
  has_memory = false;
}

-- no other answer is known
abbrev pub MayAnswer : Option Bool → Bool → Type 0
MayAnswer known answer = IfSome known (λ is. is ≡ answer)
