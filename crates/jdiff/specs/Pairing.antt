-- Two lists of entries side by side.
use Rattle.std.specs.Prelude.{◌≡◌, ℕ, List, [], ◌∷◌, filter_map, length, Option, IfSome, ⊤}
use Rattle.std.specs.Ordering.{nat_cmp}
use Rattle.std.specs.declared.cmp.Ordering.{Ordering}
use Rattle.std.specs.declared.cmp.Ordering.TheVariants.{Less}
use Rattle.std.specs.Cmp.Lexicographic.{slice_cmp}
use Rattle.std.specs.List.{flat_map, AllByRecursion}
use Rattle.jdiff.specs.Entries.{Entry}
use Rattle.jdiff.specs.Changes.{changes}
use Rattle.jdiff.specs.declared.comparing.Comparing.{Comparing}

-- a path, and what each tree has there
pub record Place : Type 0 where
  pub path : List (List ℕ)
  pub left : Option Entry
  pub right : Option Entry

-- paths are in order name by name, each by its bytes, and a directory is before what lies in it
abbrev pub path_cmp : List (List ℕ) → List (List ℕ) → Ordering
path_cmp = slice_cmp (slice_cmp nat_cmp)

abbrev pub AreInOrder : List Place → Type 0
AreInOrder [] = ⊤
AreInOrder (place ∷ places) =
    AllByRecursion (λ later. path_cmp place.path later.path ≡ Less) places × AreInOrder places

abbrev pub IsAtPath : List (List ℕ) → Option Entry → Type 0
IsAtPath path entry = IfSome entry (λ x. x.path ≡ path)

-- rule: What is printed: The entries of two trees side by side, in order of paths.
--   definitions: jdiff.Pairing.ArePaired, jdiff.Differing.AreDifferences
--   code: jdiff::walk::put_differences, jdiff::pair::Pair
--   laws: jdiff::laws::same_trees_have_no_lines, jdiff::laws::trees_have_lines
-- the left entries are these, and the right ones those; both of a place have its path, and no two
-- places have one path
pub record ArePaired (left right : List Entry) (places : List Place) : Type 0 where
  pub lefts : filter_map (λ place. place.left) places ≡ left
  pub rights : filter_map (λ place. place.right) places ≡ right
  pub paths : AllByRecursion
      (λ place. IsAtPath place.path place.left × IsAtPath place.path place.right) places
  pub order : AreInOrder places

-- the lines on these places
abbrev pub lines_on : Comparing → List Place → List (List ℕ)
lines_on how places = flat_map (λ place. changes how place.left place.right) places

abbrev pub text_on : Comparing → List Place → List ℕ
text_on how places = flat_map (λ line. line) (lines_on how places)

abbrev pub count_on : Comparing → List Place → ℕ
count_on how places = length (lines_on how places)
