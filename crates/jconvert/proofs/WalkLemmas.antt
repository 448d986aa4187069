-- The walk over what went out, form by form: each is in the block of the cursor, at its front, or in the next one.
use Rattle.std.proofs.Common.{◌≡◌, ℕ, zero, suc, ◌+◌, ◌-◌, ◌*◌, ◌/◌, ◌%◌, ◌<◌, ◌≤◌, Bool, cond, List, [], ◌∷◌, ◌++◌, length, drop, refl, sym, ap, ap₂, subst, ◌∙◌, arith, inl, inr}
use Rattle.std.specs.Prelude.{IsTrue, nat_le, ◌⊎◌, ◌&&◌}
use Rattle.std.specs.List.{list_all}
use Rattle.std.proofs.Math.Nat.{mul-le-mul_right}
use Rattle.std.proofs.lemmas.Bool.{cases_lt, and_parts, leb-true}
use Rattle.std.proofs.lemmas.List.{append-nil, length-replicate}
use Rattle.std.proofs.lemmas.Nat.{div-mul-add, mod-mul-add}
use Rattle.flashbase.specs.Bytes.{pad4_of, erased}
use Rattle.flashbase.proofs.BytesLemmas.{le_pad4, pad4_words, pad4_least}
use Rattle.jnode.specs.Header.{header_len}
use Rattle.jnode.specs.Writing.{clean_marker, filled}
use Rattle.jnode.specs.declared.node.NodeRef.{NodeRef}
use Rattle.jnode.specs.declared.node.Seen.{Seen}
use Rattle.jnode.specs.declared.order.Endian.{Endian}
use Rattle.jnode.proofs.WritingLemmas.{length-filled}
use Rattle.jscan.specs.Image.{block_of}
use Rattle.jlog.specs.Places.{place_after, end_after, places, fit}
use Rattle.jlog.specs.Output.{output}
use Rattle.jlog.proofs.FlashLemmas.{Cursor, met, up}
use Rattle.jlog.proofs.HereLemmas.{cursor_words}
use Rattle.jlog.proofs.OutputLemmas.{output_here, output_front, output_over, places_skip}
use Rattle.jlog.proofs.PlaceLemmas.{place_here, place_front, place_over}
use Rattle.jlog.proofs.SightLemmas.{told, erased_told, marker_long, marker_then}
use Rattle.jexpand.specs.Expanded.{rest_at}
use Rattle.jconvert.proofs.RestLemmas.{front_of, front_none, front_goes_on, rest_of_block, image_behind, erased_block}
use Rattle.jconvert.proofs.ShownLemmas.{IsShown, AreShown, Tells, tells_none, tells_one}

-- n blocks follow the cursor's, these forms fit there, and from the cursor on the image is what goes out for them
record Stands (e : Endian) (size blocks : ℕ) (image : List ℕ) (c d p n : ℕ) (forms : List (List ℕ)) : Type 0 where
  cursor : Cursor size c d p
  ends : suc (d + n) ≡ blocks
  room : IsTrue (fit size blocks c forms)
  out : drop c image ≡ output e size c forms

abbrev Walks : Endian → ℕ → ℕ → List ℕ → List NodeRef → List (List ℕ) → ℕ → Type 0
Walks e size blocks image ns forms changed =
    (c d p n : ℕ) → Stands e size blocks image c d p n forms → Tells e size image (met e size (block_of size image) d p n) ns changed

-- ---- no form left

clear_up : (e : Endian) (size c : ℕ) (image : List ℕ) (b n : ℕ) → drop c image ≡ [] → c ≤ b * size → up e size (block_of size image) b n ≡ []
clear_up e size c image b zero none below = refl
clear_up e size c image b (suc n) none below =
    ap (λ (ss : List (ℕ × Seen)). ss ++ up e size (block_of size image) (suc b) n)
    (ap (told e (b * size) 0) (erased_block size b c image none below) ∙ erased_told e (b * size) 0 size)
    ∙ clear_up e size c image (suc b) n none (omega (arith, below))

walks_none : (e : Endian) (size blocks : ℕ) (image : List ℕ) → Walks e size blocks image [] [] 0
walks_none e size blocks image c d p n at =
    let rest : drop p (block_of size image d) ≡ erased (size - p) =
    rest_of_block size d p c image at.cursor.high at.cursor.at ∙ (ap (front_of (size - p)) at.out ∙ front_none (size - p)) in
    let next : c ≤ suc d * size = omega (arith, at.cursor.at, at.cursor.high) in
    let is : met e size (block_of size image) d p n ≡ [] =
    ap (λ (ss : List (ℕ × Seen)). ss ++ up e size (block_of size image) (suc d) n) (ap (told e (d * size) p) rest ∙ erased_told e (d * size) p (size - p))
    ∙ clear_up e size c image (suc d) n at.out next in
    subst (λ (ss : List (ℕ × Seen)). Tells e size image ss [] 0) (sym is) (tells_none e size image)

-- ---- a form in the block of the cursor

cursor_on : (size c d p len : ℕ) → Cursor size c d p → 12 ≤ p → p + len ≤ size → Cursor size (c + pad4_of len) d (p + pad4_of len)
cursor_on size c d p len at behind room =
    let words : pad4_of len % 4 ≡ 0 = pad4_words len in
    let within : pad4_of len ≤ size - p = pad4_least len (size - p) (omega arith) (omega (arith, at.words, at.sized, at.high)) in
    record {
      sized = at.sized;
      large = at.large;
      small = at.small;
      at = omega (arith, at.at);
      words = omega (arith, at.words);
      high = omega (arith, at.high);
      beside = inr (omega arith);
    }

room_on : (size blocks c : ℕ) (form : List ℕ) (forms : List (List ℕ)) → IsTrue (fit size blocks c (form ∷ forms))
    → IsTrue (fit size blocks (place_after size c (length form) + pad4_of (length form)) forms)
room_on size blocks c form forms room = (and_parts _ _ room).1

here : (e : Endian) (size blocks : ℕ) (image : List ℕ) (c d p n : ℕ) (x : NodeRef) (xs : List NodeRef) (form : List ℕ) (forms : List (List ℕ)) (is_packed : Bool) (fewer : ℕ)
    → IsShown e size x form is_packed → Walks e size blocks image xs forms fewer → 12 ≤ p → p + length form ≤ size
    → Stands e size blocks image c d p n (form ∷ forms) → Tells e size image (met e size (block_of size image) d p n) (x ∷ xs) (cond is_packed 1 0 + fewer)
here e size blocks image c d p n x xs form forms is_packed fewer is walks behind room at =
    let m : ℕ = pad4_of (length form) in
    let words : c % 4 ≡ 0 = cursor_words size c d p at.cursor in
    let low : d * size + 12 ≤ c = omega (arith, at.cursor.at) in
    let high : c + length form ≤ d * size + size = omega (arith, at.cursor.at) in
    let some : 0 < length form = is.some in
    let next : List ℕ = output e size (c + m) forms in
    let out : drop c image ≡ filled form ++ next = at.out ∙ output_here e size c d form forms words low high some in
    let cursor : Cursor size (c + m) d (p + m) = cursor_on size c d p (length form) at.cursor behind room in
    let long : length (filled form) ≡ m = length-filled form in
    let after : drop (c + m) image ≡ next = image_behind c (c + m) image (filled form) next out (omega (arith, long)) in
    let on : Stands e size blocks image (c + m) d (p + m) n forms = record {
      cursor = cursor;
      ends = at.ends;
      room = subst (λ (q : ℕ). IsTrue (fit size blocks (q + m) forms)) (place_here size c d (length form) words low high some) (room_on size blocks c form forms at.room);
      out = after;
    } in
    let within : length (filled form) ≤ size - p = omega (arith, long, cursor.high) in
    let rest : List ℕ = drop (p + m) (block_of size image d) in
    let behind_it : rest ≡ front_of (size - (p + m)) next =
    rest_of_block size d (p + m) (c + m) image cursor.high cursor.at ∙ ap (front_of (size - (p + m))) after in
    let left : size - p - length (filled form) ≡ size - (p + m) = omega (arith, long) in
    let shown : drop p (block_of size image d) ≡ filled form ++ rest =
    rest_of_block size d p c image at.cursor.high at.cursor.at
    ∙ (ap (front_of (size - p)) out
    ∙ (front_goes_on (size - p) (filled form) next within
    ∙ (ap (λ (k : ℕ). filled form ++ front_of k next) left ∙ ap (λ (xs : List ℕ). filled form ++ xs) (sym behind_it)))) in
    let addr : ℕ = d * size + p in
    let inside : p < size = omega (arith, room, some) in
    let which : addr / size ≡ d = div-mul-add d size p inside in
    let place : addr % size ≡ p = mod-mul-add d size p inside in
    let there : rest_at size image addr ≡ filled form ++ rest =
    ap (λ (k : ℕ). drop (addr % size) (block_of size image k)) which ∙ (ap (λ (k : ℕ). drop k (block_of size image d)) place ∙ shown) in
    let one : met e size (block_of size image) d p n ≡ (addr, is.seen) ∷ met e size (block_of size image) d (p + m) n =
    ap (λ (ss : List (ℕ × Seen)). ss ++ up e size (block_of size image) (suc d) n) (ap (told e (d * size) p) shown ∙ is.stands (d * size) p rest) in
    subst (λ (ss : List (ℕ × Seen)). Tells e size image ss (x ∷ xs) (cond is_packed 1 0 + fewer)) (sym one)
    (tells_one e size image addr x form is_packed (met e size (block_of size image) d (p + m) n) xs fewer rest is there (walks (c + m) d (p + m) n on))

-- ---- at the front of a block

room_skips : (size blocks c c' : ℕ) (form : List ℕ) (forms : List (List ℕ)) → place_after size c (length form) ≡ place_after size c' (length form)
    → IsTrue (fit size blocks c (form ∷ forms)) → IsTrue (fit size blocks c' (form ∷ forms))
room_skips size blocks c c' form forms same room =
    subst (λ (ps : List (ℕ × ℕ)). IsTrue (list_all (λ place. nat_le (place.0 + place.1) (blocks * size)) ps)) (places_skip size c c' form forms same) room

front : (e : Endian) (size blocks : ℕ) (image : List ℕ) (c d n : ℕ) (x : NodeRef) (xs : List NodeRef) (form : List ℕ) (forms : List (List ℕ)) (is_packed : Bool) (fewer : ℕ)
    → IsShown e size x form is_packed → Walks e size blocks image xs forms fewer
    → Stands e size blocks image c d 0 n (form ∷ forms) → Tells e size image (met e size (block_of size image) d 0 n) (x ∷ xs) (cond is_packed 1 0 + fewer)
front e size blocks image c d n x xs form forms is_packed fewer is walks at =
    let some : 0 < length form = is.some in
    let room : 12 + length form ≤ size = is.room in
    let sized : size % 4 ≡ 0 = at.cursor.sized in
    let start : c ≡ d * size = omega (arith, at.cursor.at) in
    let behind_it : Cursor size (c + 12) d 12 = record {
      sized = sized;
      large = at.cursor.large;
      small = at.cursor.small;
      at = omega arith;
      words = refl;
      high = omega (arith, at.cursor.large);
      beside = inr (omega arith);
    } in
    let words : (c + 12) % 4 ≡ 0 = cursor_words size (c + 12) d 12 behind_it in
    let here_is : place_after size c (length form) ≡ d * size + 12 = place_front size c d (length form) sized start room some in
    let there_is : place_after size (c + 12) (length form) ≡ c + 12 = place_here size (c + 12) d (length form) words (omega arith) (omega arith) some in
    let same : place_after size c (length form) ≡ place_after size (c + 12) (length form) = omega arith in
    let next : List ℕ = output e size (c + 12) (form ∷ forms) in
    let out : drop c image ≡ clean_marker e ++ next = at.out ∙ output_front e size c d form forms sized start words room some in
    let marker : length (clean_marker e) ≡ 12 = marker_long e in
    let after : drop (c + 12) image ≡ next = image_behind c (c + 12) image (clean_marker e) next out (omega (arith, marker)) in
    let on : Stands e size blocks image (c + 12) d 12 n (form ∷ forms) = record {
      cursor = behind_it;
      ends = at.ends;
      room = room_skips size blocks c (c + 12) form forms same at.room;
      out = after;
    } in
    let rest : List ℕ = drop 12 (block_of size image d) in
    let rest_is : rest ≡ front_of (size - 12) next = rest_of_block size d 12 (c + 12) image behind_it.high behind_it.at ∙ ap (front_of (size - 12)) after in
    let shown : block_of size image d ≡ clean_marker e ++ rest =
    rest_of_block size d 0 c image (omega arith) (omega (arith, start))
    ∙ (ap (λ (k : ℕ). front_of k (drop c image)) (let all : size - 0 ≡ size = omega arith in all)
    ∙ (ap (front_of size) out
    ∙ (front_goes_on size (clean_marker e) next (omega (arith, marker, room))
    ∙ (ap (λ (k : ℕ). clean_marker e ++ front_of (size - k) next) marker ∙ ap (λ (xs : List ℕ). clean_marker e ++ xs) (sym rest_is))))) in
    let one : met e size (block_of size image) d 0 n ≡ met e size (block_of size image) d 12 n =
    ap (λ (ss : List (ℕ × Seen)). ss ++ up e size (block_of size image) (suc d) n) (ap (told e (d * size) 0) shown ∙ marker_then e (d * size) rest) in
    subst (λ (ss : List (ℕ × Seen)). Tells e size image ss (x ∷ xs) (cond is_packed 1 0 + fewer)) (sym one)
    (here e size blocks image (c + 12) d 12 n x xs form forms is_packed fewer is walks (omega arith) room on)

-- ---- into the next block

over : (e : Endian) (size blocks : ℕ) (image : List ℕ) (c d p n : ℕ) (x : NodeRef) (xs : List NodeRef) (form : List ℕ) (forms : List (List ℕ)) (is_packed : Bool) (fewer : ℕ)
    → IsShown e size x form is_packed → Walks e size blocks image xs forms fewer → 12 ≤ p → size < p + length form
    → Stands e size blocks image c d p n (form ∷ forms) → Tells e size image (met e size (block_of size image) d p n) (x ∷ xs) (cond is_packed 1 0 + fewer)
over e size blocks image c d p n x xs form forms is_packed fewer is walks behind outside at =
    let some : 0 < length form = is.some in
    let room : 12 + length form ≤ size = is.room in
    let sized : size % 4 ≡ 0 = at.cursor.sized in
    let ends : suc (d + n) ≡ blocks = at.ends in
    let words : c % 4 ≡ 0 = cursor_words size c d p at.cursor in
    let low : d * size + 12 ≤ c = omega (arith, at.cursor.at) in
    let high : c ≤ d * size + size = omega (arith, at.cursor.at, at.cursor.high) in
    let past : d * size + size < c + length form = omega (arith, at.cursor.at) in
    let c' : ℕ = d * size + size in
    let z : ℕ = c' - c in
    let here_is : place_after size c (length form) ≡ suc d * size + 12 = place_over size c d (length form) sized words low high past room some in
    let there_is : place_after size c' (length form) ≡ suc d * size + 12 = place_front size c' (suc d) (length form) sized (omega arith) room some in
    let same : place_after size c (length form) ≡ place_after size c' (length form) = here_is ∙ sym there_is in
    let fits : place_after size c (length form) + length form ≤ blocks * size = leb-true _ _ (and_parts _ _ at.room).0 in
    let more : suc d < blocks = elim (cases_lt (suc d) blocks) [
      | inl less ↦ less
      | inr not ↦ let small : blocks * size ≤ suc d * size = mul-le-mul_right size not in absurd (omega (arith, fits, here_is))
    ] in
    let next : List ℕ = output e size c' (form ∷ forms) in
    let out : drop c image ≡ erased z ++ next = at.out ∙ output_over e size c d form forms sized words low high past room some in
    let len : length (erased z) ≡ z = length-replicate {A = ℕ} z 0xFF in
    let after : drop c' image ≡ next = image_behind c c' image (erased z) next out (omega (arith, len)) in
    let cursor : Cursor size c' (suc d) 0 = record {
      sized = sized;
      large = at.cursor.large;
      small = at.cursor.small;
      at = omega arith;
      words = refl;
      high = omega arith;
      beside = inl refl;
    } in
    let left : size - p ≡ z = omega (arith, at.cursor.at) in
    let rest : drop p (block_of size image d) ≡ erased z =
    rest_of_block size d p c image at.cursor.high at.cursor.at
    ∙ (ap (front_of (size - p)) out
    ∙ (front_goes_on (size - p) (erased z) next (omega (arith, len, left))
    ∙ (ap (λ (k : ℕ). erased z ++ front_of k next) (let none : size - p - length (erased z) ≡ 0 = omega (arith, len, left) in none) ∙ append-nil (erased z)))) in
    let n' : ℕ = n - 1 in
    let one_more : n ≡ suc n' = omega arith in
    let on : Stands e size blocks image c' (suc d) 0 n' (form ∷ forms) = record {
      cursor = cursor;
      ends = omega arith;
      room = room_skips size blocks c c' form forms same at.room;
      out = after;
    } in
    let moved : met e size (block_of size image) d p n ≡ met e size (block_of size image) (suc d) 0 n' =
    ap (λ (ss : List (ℕ × Seen)). ss ++ up e size (block_of size image) (suc d) n) (ap (told e (d * size) p) rest ∙ erased_told e (d * size) p z)
    ∙ ap (up e size (block_of size image) (suc d)) one_more in
    subst (λ (ss : List (ℕ × Seen)). Tells e size image ss (x ∷ xs) (cond is_packed 1 0 + fewer)) (sym moved)
    (front e size blocks image c' (suc d) n' x xs form forms is_packed fewer is walks on)

-- ---- the walk

step : (e : Endian) (size blocks : ℕ) (image : List ℕ) (x : NodeRef) (xs : List NodeRef) (form : List ℕ) (forms : List (List ℕ)) (is_packed : Bool) (fewer : ℕ)
    → IsShown e size x form is_packed → Walks e size blocks image xs forms fewer → Walks e size blocks image (x ∷ xs) (form ∷ forms) (cond is_packed 1 0 + fewer)
step e size blocks image x xs form forms is_packed fewer is walks c d p n at = elim at.cursor.beside [
  | inl begins ↦
      subst (λ (q : ℕ). Stands e size blocks image c d q n (form ∷ forms) → Tells e size image (met e size (block_of size image) d q n) (x ∷ xs) (cond is_packed 1 0 + fewer)) (sym begins)
      (front e size blocks image c d n x xs form forms is_packed fewer is walks) at
  | inr behind ↦ elim (cases_lt size (p + length form)) [
    | inl outside ↦ over e size blocks image c d p n x xs form forms is_packed fewer is walks behind outside at
    | inr inside ↦ here e size blocks image c d p n x xs form forms is_packed fewer is walks behind inside at
  ]
]

walks_all : (e : Endian) (size blocks : ℕ) (image : List ℕ) (ns : List NodeRef) (forms : List (List ℕ)) (changed : ℕ) → AreShown e size ns forms changed → Walks e size blocks image ns forms changed
walks_all e size blocks image [] [] changed are = subst (λ (k : ℕ). Walks e size blocks image [] [] k) (sym are) (walks_none e size blocks image)
walks_all e size blocks image [] (form ∷ forms) changed are = absurd are
walks_all e size blocks image (n ∷ ns) [] changed are = absurd are
walks_all e size blocks image (n ∷ ns) (form ∷ forms) changed are =
    let rest = are.2 in
    subst (λ (k : ℕ). Walks e size blocks image (n ∷ ns) (form ∷ forms) k) (sym rest.1)
    (step e size blocks image n ns form forms are.0 rest.0 are.1 (walks_all e size blocks image ns forms rest.0 rest.2))

-- What is told of the blocks of an image of forms that fit.
pub image_tells : (e : Endian) (size blocks : ℕ) (ns : List NodeRef) (forms : List (List ℕ)) (changed : ℕ) → size % 4 ≡ 0 → 24 ≤ size → size ≤ 4194304 → 0 < blocks
    → AreShown e size ns forms changed → IsTrue (fit size blocks 0 forms)
    → let image = output e size 0 forms in
    Tells e size image (up e size (block_of size image) 0 blocks) ns changed
image_tells e size blocks ns forms changed sized large small some are room =
    let image : List ℕ = output e size 0 forms in
    let n : ℕ = blocks - 1 in
    let one_more : suc n ≡ blocks = omega arith in
    subst (λ (b : ℕ). Tells e size image (up e size (block_of size image) 0 b) ns changed) one_more
    (walks_all e size blocks image ns forms changed are 0 0 0 n (record {
      cursor = record {
        sized = sized;
        large = large;
        small = small;
        at = omega arith;
        words = refl;
        high = omega arith;
        beside = inl refl;
      };
      ends = omega arith;
      room = room;
      out = refl;
    }))
