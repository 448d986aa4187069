-- What goes out, whatever stands for a node: bytes that are a tile of their own.
use Rattle.std.specs.Prelude.{◌≡◌, ℕ, ◌+◌, ◌*◌, ◌/◌, ◌%◌, ◌≤◌, IsTrue, None, List, [], ◌∷◌, ◌++◌, length, map, filter, take, drop}
use Rattle.std.specs.List.{AllByRecursion}
use Rattle.jnode.specs.Header.{header_len}
use Rattle.jnode.specs.Laws.{IsPlain}
use Rattle.jnode.specs.Reading.{seen_of}
use Rattle.jnode.specs.Weak.{IsForm, IsLeastWeak}
use Rattle.jnode.specs.Writing.{filled}
use Rattle.jnode.specs.declared.node.Seen.{Seen}
use Rattle.jnode.specs.declared.order.Endian.{Endian}
use Rattle.jscan.specs.Image.{is_block_size, block_of, sightings}
use Rattle.jscan.specs.Blank.{AreBlankFrom}
use Rattle.jlog.specs.Places.{place_after, end_after, fit}
use Rattle.jlog.specs.Output.{output}
use Rattle.jlog.specs.Left.{IsLeft, intact}
use Rattle.jlog.specs.LeftLaws.{tells}

-- ---- forms of nodes (IsForm of jnode)

-- what blocks of this size hold, each after its marker
pub record IsStorableForm (e : Endian) (size : ℕ) (form : List ℕ) : Type 0 where
  pub is : IsForm e form
  pub room : header_len + length form ≤ size

-- what is written to a log with blocks of this size
pub record IsLoggableForm (e : Endian) (size : ℕ) (form : List ℕ) : Type 0 where
  pub is : IsForm e form
  pub plain : IsPlain (length form)
  pub room : header_len + length form ≤ size

-- Forms on a base, from a block on from which all are blank, for which there is room.
pub record AreStoredForms (e : Endian) (size blocks : ℕ) (base : List ℕ) (block : ℕ)
    (forms : List (List ℕ)) : Type 0 where
  pub size_is : IsTrue (is_block_size size)
  pub no_longer : length base ≤ blocks * size
  pub blank : AreBlankFrom e size base blocks block
  pub each : AllByRecursion (IsStorableForm e size) forms
  pub room : IsTrue (fit size blocks (block * size) forms)

-- the same of forms that may be written
pub record AreLoggedForms (e : Endian) (size blocks : ℕ) (base : List ℕ) (block : ℕ)
    (forms : List (List ℕ)) : Type 0 where
  pub size_is : IsTrue (is_block_size size)
  pub no_longer : length base ≤ blocks * size
  pub blank : AreBlankFrom e size base blocks block
  pub each : AllByRecursion (IsLoggableForm e size) forms
  pub room : IsTrue (fit size blocks (block * size) forms)

-- no cut of a form goes unseen by its checks
abbrev pub NoFormWeak : Endian → List (List ℕ) → Type 0
NoFormWeak e forms = AllByRecursion (λ form. IsLeastWeak e form None) forms

-- each form with its address
abbrev pub placed_forms : ℕ → ℕ → List (List ℕ) → List (ℕ × List ℕ)
placed_forms size from [] = []
placed_forms size from (form ∷ forms) = (place_after size from (length form), form)
    ∷ placed_forms size (end_after size from (length form)) forms

-- those of them that are kept after a stop, each with its address
abbrev pub intact_forms : ℕ → ℕ → List (List ℕ) → ℕ → List (ℕ × List ℕ)
intact_forms size block forms k =
    take (intact size (block * size) k forms) (placed_forms size (block * size) forms)

-- what a form is seen as at its address
abbrev pub form_sighted : Endian → ℕ × List ℕ → ℕ × Seen
form_sighted e placed = (placed.0, seen_of e (filled placed.1))

-- The form stands at its address: the rest of its block begins with its words.
abbrev pub StandsIn : ℕ → List ℕ → ℕ × List ℕ → Type 0
StandsIn size image placed = (more : List ℕ)
    × (drop (placed.0 % size) (block_of size image (placed.0 / size)) ≡ filled placed.1 ++ more)

-- ---- what is left

-- What stands in an image is what stands in the base, and these forms, but for markers and damage.
pub record HasForms (e : Endian) (size : ℕ) (base image : List ℕ) (forms : List (ℕ × List ℕ)) : Type
    0 where
  pub sighted : filter tells (sightings e size image)
      ≡ filter tells (sightings e size base) ++ map (form_sighted e) forms
  pub stand : AllByRecursion (StandsIn size image) forms

-- After a cut there stands what was in the base, and of the forms those that are kept,
abbrev pub LeftForms : Type 0
LeftForms = (e : Endian) (size blocks block k : ℕ) (base image : List ℕ) (forms : List (List ℕ))
    → AreLoggedForms e size blocks base block forms → NoFormWeak e forms
    → IsLeft e size blocks base (block * size) (output e size (block * size) forms) k image
    → HasForms e size base image (intact_forms size block forms k)

-- and without a cut all of them, of any length, and whether a cut of them would be seen or not.
abbrev pub WholeForms : Type 0
WholeForms = (e : Endian) (size blocks block k : ℕ) (base image : List ℕ) (forms : List (List ℕ))
    → AreStoredForms e size blocks base block forms
    → length (output e size (block * size) forms) ≤ k
    → IsLeft e size blocks base (block * size) (output e size (block * size) forms) k image
    → HasForms e size base image (placed_forms size (block * size) forms)
