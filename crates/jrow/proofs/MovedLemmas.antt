-- A log that begins so many blocks further on.
use Rattle.std.proofs.Common.{◌≡◌, ℕ, ◌+◌, ◌-◌, ◌*◌, ◌/◌, ◌%◌, ◌<◌, Bool, cond, leb, List, [], ◌∷◌, ◌++◌, length, map, take, drop, refl, sym, ap, ap₂, ◌∙◌, arith, inl, inr, max}
use Rattle.std.specs.Prelude.{bytes_eq, ◌&&◌}
use Rattle.std.specs.List.{list_all}
use Rattle.std.proofs.lemmas.Bool.{cases_lt, cond-true, cond-false, le-leb, lt-leb}
use Rattle.std.proofs.lemmas.List.Sums.{sum_by-cons}
use Rattle.std.proofs.lemmas.Nat.{div-mul-add}
use Rattle.flashbase.specs.Bytes.{pad4_of, erased}
use Rattle.jnode.specs.Weak.{torn}
use Rattle.jnode.specs.Writing.{clean_marker, filled}
use Rattle.jnode.specs.declared.order.Endian.{Endian}
use Rattle.jlog.specs.Places.{place_after, end_after, places, end_of_all}
use Rattle.jlog.specs.Output.{gap, output}
use Rattle.jlog.specs.Left.{is_whole, count_whole}
use Rattle.jlog.proofs.PlaceLemmas.{pad4_behind, times_words}
use Rattle.jrow.specs.Moved.{LogIsMoved}
use Rattle.jrow.proofs.SideLemmas.{div_parts, mod_small}

-- ---- numbers

leb_moves : (m a b : ℕ) → leb (m + a) (m + b) ≡ leb a b
leb_moves m a b = elim (cases_lt b a) [
  | inl over ↦ lt-leb (m + a) (m + b) (omega (arith, over)) ∙ sym (lt-leb a b over)
  | inr not ↦ le-leb (m + a) (m + b) (omega (arith, not)) ∙ sym (le-leb a b (omega (arith, not)))
]

start_moves : (size n a : ℕ) → 0 < size → (n * size + a) / size * size ≡ n * size + a / size * size
start_moves size n a some =
    let q : ℕ = a / size in
    let split : n * size + a ≡ (n + q) * size + a % size = omega (arith, div_parts a size some) in
    let which : (n * size + a) / size ≡ n + q = ap (λ (m : ℕ). m / size) split ∙ div-mul-add (n + q) size (a % size) (mod_small a size some) in
    ap (λ (m : ℕ). m * size) which ∙ omega arith

-- ---- one form

place_from : ℕ → ℕ → ℕ → ℕ → ℕ
place_from size a start len = cond (leb (max a (start + 12) + len) (start + size)) (max a (start + 12)) (start + size + 12)

from_moves : (size m a start len : ℕ) → place_from size (m + a) (m + start) len ≡ m + place_from size a start len
unfolding place_from
from_moves size m a start len =
    let at : ℕ = max a (start + 12) in
    let moved : max (m + a) (m + start + 12) ≡ m + at = omega arith in
    elim (cases_lt (start + size) (at + len)) [
      | inl over ↦
          cond-false (leb (max (m + a) (m + start + 12) + len) (m + start + size)) (max (m + a) (m + start + 12)) (m + start + size + 12) (lt-leb _ _ (omega (arith, over, moved)))
          ∙ (omega arith ∙ ap (λ (p : ℕ). m + p) (sym (cond-false (leb (at + len) (start + size)) at (start + size + 12) (lt-leb _ _ over))))
      | inr fits ↦
          cond-true (leb (max (m + a) (m + start + 12) + len) (m + start + size)) (max (m + a) (m + start + 12)) (m + start + size + 12) (le-leb _ _ (omega (arith, fits, moved)))
          ∙ (moved ∙ ap (λ (p : ℕ). m + p) (sym (cond-true (leb (at + len) (start + size)) at (start + size + 12) (le-leb _ _ (omega (arith, fits))))))
    ]

place_moves : (size from n len : ℕ) → 0 < size → size % 4 ≡ 0 → place_after size (n * size + from) len ≡ n * size + place_after size from len
unfolding place_from
place_moves size from n len some words =
    let pad : pad4_of (n * size + from) ≡ n * size + pad4_of from = pad4_behind (n * size) from (times_words n size words) in
    ap (λ (a : ℕ). place_from size a (a / size * size) len) pad
    ∙ (ap (λ (start : ℕ). place_from size (n * size + pad4_of from) start len) (start_moves size n (pad4_of from) some)
    ∙ from_moves size (n * size) (pad4_of from) (pad4_of from / size * size) len)

end_moves : (size from n len : ℕ) → 0 < size → size % 4 ≡ 0 → end_after size (n * size + from) len ≡ n * size + end_after size from len
end_moves size from n len some words = ap (λ (a : ℕ). a + pad4_of len) (place_moves size from n len some words) ∙ omega arith

gap_moves : (e : Endian) (size from n at : ℕ) → 0 < size → gap e size (n * size + from) (n * size + at) ≡ gap e size from at
gap_moves e size from n at some =
    let m : ℕ = n * size in
    let start : ℕ = at / size * size in
    let front : (m + start) - (m + from) ≡ start - from = omega arith in
    let all : (m + at) - (m + from) ≡ at - from = omega arith in
    ap (λ (s : ℕ). cond (leb (m + from) s) (erased (s - (m + from)) ++ clean_marker e) (erased ((m + at) - (m + from)))) (start_moves size n at some)
    ∙ (ap (λ (b : Bool). cond b (erased ((m + start) - (m + from)) ++ clean_marker e) (erased ((m + at) - (m + from)))) (leb_moves m from start)
    ∙ ap₂ (λ (x y : ℕ). cond (leb from start) (erased x ++ clean_marker e) (erased y)) front all)

-- ---- all of them

output_moves : (e : Endian) (size from n : ℕ) (forms : List (List ℕ)) → 0 < size → size % 4 ≡ 0 → output e size (n * size + from) forms ≡ output e size from forms
output_moves e size from n [] some words = refl
output_moves e size from n (x ∷ xs) some words =
    let len : ℕ = length x in
    ap₂ (λ (at end : ℕ). (gap e size (n * size + from) at ++ filled x) ++ output e size end xs) (place_moves size from n len some words) (end_moves size from n len some words)
    ∙ ap₂ (λ (front rest : List ℕ). (front ++ filled x) ++ rest) (gap_moves e size from n (place_after size from len) some) (output_moves e size (end_after size from len) n xs some words)

places_move : (size from n : ℕ) (forms : List (List ℕ)) → 0 < size → size % 4 ≡ 0
    → places size (n * size + from) forms ≡ map (λ place. (n * size + place.0, place.1)) (places size from forms)
places_move size from n [] some words = refl
places_move size from n (x ∷ xs) some words =
    let len : ℕ = length x in
    ap₂ (λ (at end : ℕ). (let place : ℕ × ℕ = (at, len) in place) ∷ places size end xs) (place_moves size from n len some words) (end_moves size from n len some words)
    ∙ ap (λ (rest : List (ℕ × ℕ)). (let place : ℕ × ℕ = (n * size + place_after size from len, len) in place) ∷ rest) (places_move size (end_after size from len) n xs some words)

all_ends_move : (size from n : ℕ) (forms : List (List ℕ)) → 0 < size → size % 4 ≡ 0 → end_of_all size (n * size + from) forms ≡ n * size + end_of_all size from forms
all_ends_move size from n [] some words = refl
all_ends_move size from n (x ∷ xs) some words =
    ap (λ (end : ℕ). end_of_all size end xs) (end_moves size from n (length x) some words) ∙ all_ends_move size (end_after size from (length x)) n xs some words

whole_moves : (m from : ℕ) (out : List ℕ) (k : ℕ) (ps : List (ℕ × ℕ)) → count_whole (m + from) out k (map (λ place. (m + place.0, place.1)) ps) ≡ count_whole from out k ps
whole_moves m from out k [] = refl
whole_moves m from out k (p ∷ ps) =
    let moved : ℕ × ℕ = (m + p.0, p.1) in
    let place : (m + p.0) - (m + from) ≡ p.0 - from = omega arith in
    let one : is_whole (m + from) out k moved ≡ is_whole from out k p =
    ap (λ (d : ℕ). bytes_eq (take p.1 (drop d (torn out k))) (take p.1 (drop d out))) place in
    sum_by-cons (λ q. cond (is_whole (m + from) out k q) 1 0) moved (map (λ q. (m + q.0, q.1)) ps)
    ∙ (ap₂ (λ (b : Bool) (c : ℕ). cond b 1 0 + c) one (whole_moves m from out k ps)
    ∙ sym (sum_by-cons (λ q. cond (is_whole from out k q) 1 0) p ps))

fits_move : (m limit bound : ℕ) (ps : List (ℕ × ℕ)) → limit ≡ m + bound
    → list_all {X = ℕ × ℕ} (λ place. leb (place.0 + place.1) limit) (map (λ place. (m + place.0, place.1)) ps) ≡ list_all {X = ℕ × ℕ} (λ place. leb (place.0 + place.1) bound) ps
fits_move m limit bound [] is = refl
fits_move m limit bound (p ∷ ps) is =
    let sum : (m + p.0) + p.1 ≡ m + (p.0 + p.1) = omega arith in
    let one : leb ((m + p.0) + p.1) limit ≡ leb (p.0 + p.1) bound = ap₂ (λ (a b : ℕ). leb a b) sum is ∙ leb_moves m (p.0 + p.1) bound in
    ap₂ (λ (a b : Bool). a && b) one (fits_move m limit bound ps is)

pub log_is_moved : LogIsMoved
log_is_moved e size from n forms some words =
    let moved = places_move size from n forms some words in
    record {
      goes_out = output_moves e size from n forms some words;
      placed_at = moved;
      ends = all_ends_move size from n forms some words;
      whole = λ out k. ap (count_whole (n * size + from) out k) moved ∙ whole_moves (n * size) from out k (places size from forms);
      fits = λ blocks.
          ap (list_all {X = ℕ × ℕ} (λ place. leb (place.0 + place.1) ((n + blocks) * size))) moved
          ∙ fits_move (n * size) ((n + blocks) * size) (blocks * size) (places size from forms) (omega arith);
    }
