-- The shape of a line.
use Rattle.std.proofs.Common.{◌≡◌, ℕ, ◌<◌, Bool, true, false, List, [], ◌∷◌, length, map, ap, sym, refl, ◌∙◌, arith, Some, None, option_map}
use Rattle.std.specs.Prelude.{find, if◌then◌else◌}
use Rattle.std.proofs.lemmas.Option.{same_Some}
use Rattle.jjson.specs.Json.{json_object}
use Rattle.jjson.specs.Shapes.{members, shaped_line}
use Rattle.jjson.specs.Words.{words_of}

pub find-map : {X Y : Type 0} (f : X → Y) (p : Y → Bool) (xs : List X) → option_map f (find (λ x. p (f x)) xs) ≡ find p (map f xs)
find-map f p [] = refl
find-map {X} {Y} f p (x ∷ xs) = by (p (f x)) (find-map f p xs)
  where
    by : (t : Bool) → option_map f (find (λ (y : X). p (f y)) xs) ≡ find p (map f xs)
        → option_map f (if t then Some x else find (λ (y : X). p (f y)) xs) ≡ (if t then Some (f x) else find p (map f xs))
    by true later = refl
    by false later = later

pub found_passes : {Y : Type 0} (p : Y → Bool) (xs : List Y) (y : Y) → Some y ≡ find p xs → p y ≡ true
found_passes p [] y is = let no : Some y ≡ None = is in cc
found_passes p (x ∷ xs) y is = by (p x) refl is (λ later. found_passes p xs y later)
  where
    by : (t : Bool) → p x ≡ t → Some y ≡ (if t then Some x else find p xs) → (Some y ≡ find p xs → p y ≡ true) → p y ≡ true
    by true passes here rest = ap p (same_Some y x here) ∙ passes
    by false fails later rest = rest later

pub shaped_with_name : (kind parts line : List ℕ) → 0 < length kind → json_object kind (members (words_of parts) (words_of line)) ≡ shaped_line (kind, parts) line
shaped_with_name [] parts line some = absurd (omega (arith, some))
shaped_with_name (b ∷ kind) parts line some = refl

pub shaped_without_name : (kind parts line : List ℕ) → kind ≡ [] → [] ≡ shaped_line (kind, parts) line
shaped_without_name kind parts line none = sym (ap (λ (k : List ℕ). shaped_line (k, parts) line) none)
