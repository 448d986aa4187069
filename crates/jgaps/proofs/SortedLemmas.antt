-- What the nodes of one object have, among those of all that are sorted.
use Rattle.std.proofs.Common.{◌≡◌, ℕ, ◌+◌, ◌-◌, ◌<◌, ◌≤◌, Bool, true, false, List, [], ◌∷◌, length, take, drop, get_or, refl, sym, ap, ◌∙◌, subst, arith, length-drop, length-take}
use Rattle.std.specs.Prelude.{All, ◌==◌, ◌&&◌, ◌||◌, nat_lt, nat_le, min}
use Rattle.std.specs.List.{list_any}
use Rattle.std.specs.List.Sorted.{IsNonDecreasingBy, IsPartitionPoint}
use Rattle.std.proofs.lemmas.Bool.Decides.{nat_tests}
use Rattle.std.proofs.lemmas.List.{get_or-drop, get_or-take, take-append-drop, take_rest}
use Rattle.std.proofs.lemmas.List.Elements.{All-from_get_or, All-head, All-tail}
use Rattle.std.proofs.lemmas.List.Folds.{list_any-append}
use Rattle.std.proofs.lemmas.List.Sorted.{IsNonDecreasingBy-drop, IsNonDecreasingBy-take}
use Rattle.jgaps.specs.Gaps.{has_place, is_covered}
use Rattle.jgaps.specs.Sweeping.{AreSorted, Begin, start_of}
use Rattle.jgaps.specs.declared.fields.Stretch.{Stretch}

pub by_number : (sound : List Stretch) → AreSorted sound → IsNonDecreasingBy (λ s. s.ino) sound
by_number sound sorted i j d a b =
    let up : start_of (get_or sound i d) ≤ start_of (get_or sound j d) = sorted i j d a b in
    omega (arith, up)

module _ (ino place : ℕ) where
  is_of : Stretch → Bool
  is_of s = (s.ino == ino) && has_place place s

  none_of : (ss : List Stretch) → All (λ s. (s.ino == ino) ≡ false) ss → list_any (λ s. (s.ino == ino) && has_place place s) ss ≡ false
  none_of [] others = refl
  none_of (s ∷ ss) others =
      ap (λ (b : Bool). (b && has_place place s) || list_any (λ s. (s.ino == ino) && has_place place s) ss) (All-head (λ (x : Stretch). (x.ino == ino) ≡ false) s ss others)
      ∙ none_of ss (All-tail (λ (x : Stretch). (x.ino == ino) ≡ false) s ss others)

  all_of : (ss : List Stretch) → All (λ s. (s.ino == ino) ≡ true) ss → list_any (λ s. (s.ino == ino) && has_place place s) ss ≡ list_any (has_place place) ss
  all_of [] own = refl
  all_of (s ∷ ss) own =
      ap (λ (b : Bool). (b && has_place place s) || list_any (λ s. (s.ino == ino) && has_place place s) ss) (All-head (λ (x : Stretch). (x.ino == ino) ≡ true) s ss own)
      ∙ ap (λ (b : Bool). has_place place s || b) (all_of ss (All-tail (λ (x : Stretch). (x.ino == ino) ≡ true) s ss own))

lower : (a b : ℕ) → nat_lt a b ≡ true → (a == b) ≡ false
lower a b is = grind (arith, nat_tests)

higher : (a b : ℕ) → nat_le a b ≡ false → (a == b) ≡ false
higher a b is = grind (arith, nat_tests)

same : (a b : ℕ) → nat_lt a b ≡ false → nat_le a b ≡ true → (a == b) ≡ true
same a b is at = grind (arith, nat_tests)

number : (a b : ℕ) → (a == b) ≡ true → a ≡ b
number a b is = grind (arith, nat_tests)

module _ (sound : List Stretch) (ino first count : ℕ) (within : first ≤ length sound) (fits : count ≤ length (drop first sound))
    (low : IsPartitionPoint (λ (s : Stretch). nat_lt s.ino ino ≡ true) (λ (s : Stretch). nat_lt s.ino ino ≡ false) sound first)
    (high : IsPartitionPoint (λ (s : Stretch). nat_le s.ino ino ≡ true) (λ (s : Stretch). nat_le s.ino ino ≡ false) (drop first sound) count) where
  d : Stretch
  d = record { ino = 0; version = 0; from = 0; to = 0 }

  in_front : All (λ s. (s.ino == ino) ≡ false) (take first sound)
  in_front = All-from_get_or (λ (s : Stretch). (s.ino == ino) ≡ false) (take first sound) d
      (λ i less.
      let long : length (take first sound) ≡ min first (length sound) = length-take first sound in
      let before : i < first = omega (arith, less, long) in
      subst (λ (s : Stretch). (s.ino == ino) ≡ false) (sym (get_or-take first sound i d before)) (lower (get_or sound i d).ino ino (low.0 i d (omega arith) before)))

  own : All (λ s. (s.ino == ino) ≡ true) (take count (drop first sound))
  own = All-from_get_or (λ (s : Stretch). (s.ino == ino) ≡ true) (take count (drop first sound)) d
      (λ i less.
      let long : length (take count (drop first sound)) ≡ min count (length (drop first sound)) = length-take count (drop first sound) in
      let rest : length (drop first sound) ≡ length sound - first = length-drop first sound in
      let before : i < count = omega (arith, less, long) in
      subst (λ (s : Stretch). (s.ino == ino) ≡ true) (sym (get_or-take count (drop first sound) i d before))
      (same (get_or (drop first sound) i d).ino ino
      (subst (λ (s : Stretch). nat_lt s.ino ino ≡ false) (sym (get_or-drop first sound i d)) (low.1 (first + i) d (omega arith) (omega (arith, before, fits, rest, within))))
      (high.0 i d (omega arith) before)))

  behind : All (λ s. (s.ino == ino) ≡ false) (drop count (drop first sound))
  behind = All-from_get_or (λ (s : Stretch). (s.ino == ino) ≡ false) (drop count (drop first sound)) d
      (λ i less.
      let long : length (drop count (drop first sound)) ≡ length (drop first sound) - count = length-drop count (drop first sound) in
      subst (λ (s : Stretch). (s.ino == ino) ≡ false) (sym (get_or-drop count (drop first sound) i d))
      (higher (get_or (drop first sound) (count + i) d).ino ino (high.1 (count + i) d (omega arith) (omega (arith, less, long)))))

  pub covered_by_own : (place : ℕ) → is_covered sound ino place ≡ list_any (has_place place) (take count (drop first sound))
  covered_by_own place =
      let p : Stretch → Bool = λ s. (s.ino == ino) && has_place place s in
      ap (list_any p) (sym (take-append-drop first sound))
      ∙ list_any-append p (take first sound) (drop first sound)
      ∙ ap (λ (b : Bool). b || list_any p (drop first sound)) (none_of ino place (take first sound) in_front)
      ∙ ap (list_any p) (sym (take-append-drop count (drop first sound)))
      ∙ list_any-append p (take count (drop first sound)) (drop count (drop first sound))
      ∙ ap (λ (b : Bool). list_any p (take count (drop first sound)) || b) (none_of ino place (drop count (drop first sound)) behind)
      ∙ or_false (list_any p (take count (drop first sound)))
      ∙ all_of ino place (take count (drop first sound)) own
    where
      or_false : (b : Bool) → (b || false) ≡ b
      or_false true = refl
      or_false false = refl

  pub own_begin : AreSorted sound → Begin (take count (drop first sound))
  own_begin sorted i j e a b =
      let up : start_of (get_or (take count (drop first sound)) i e) ≤ start_of (get_or (take count (drop first sound)) j e) =
      IsNonDecreasingBy-take start_of count (drop first sound) (IsNonDecreasingBy-drop start_of first sound sorted) i j e a b in
      let x : (get_or (take count (drop first sound)) i e).ino ≡ ino = number (get_or (take count (drop first sound)) i e).ino ino (own i e (omega (arith, a, b))) in
      let y : (get_or (take count (drop first sound)) j e).ino ≡ ino = number (get_or (take count (drop first sound)) j e).ino ino (own j e b) in
      omega (arith, up, x, y)

pub rest_is : (sound : List Stretch) (first : ℕ) → take (length sound - first) (drop first sound) ≡ drop first sound
rest_is sound first = take_rest sound first
