-- The walk over what a write left, node by node: each is in the block of the cursor, at its front, or in the next one.
use Rattle.std.proofs.Common.{◌≡◌, ℕ, suc, ◌+◌, ◌-◌, ◌*◌, ◌%◌, ◌<◌, ◌≤◌, List, [], ◌∷◌, ◌++◌, length, take, drop, get_or, refl, sym, ap, ap₂, subst, ◌∙◌, arith, inl, inr, length-append}
use Rattle.std.specs.Prelude.{IsTrue, nat_le}
use Rattle.std.specs.List.{AllByRecursion, list_all}
use Rattle.std.proofs.Math.Nat.{mul-le-mul_right}
use Rattle.std.proofs.lemmas.Bool.{cases_lt, and_parts, leb-true}
use Rattle.std.proofs.lemmas.List.{get_or-take, take-append-drop, take-append-le, take_all, length-take, length-take-le, length-replicate, ext_get_or}
use Rattle.flashbase.specs.Bytes.{erased}
use Rattle.jnode.specs.Writing.{clean_marker}
use Rattle.jnode.specs.declared.node.Seen.{Seen}
use Rattle.jnode.specs.declared.order.Endian.{Endian}
use Rattle.jnode.proofs.WeakLemmas.{behind}
use Rattle.jscan.specs.Blank.{marked}
use Rattle.jlog.specs.Places.{place_after, fit}
use Rattle.jlog.specs.Output.{output}
use Rattle.jlog.specs.Left.{intact}
use Rattle.jlog.specs.Forms.{IsStorableForm, placed_forms}
use Rattle.jlog.proofs.ByteLemmas.{erased_end, erased_is, cut_within, cut_erased}
use Rattle.jlog.proofs.PlaceLemmas.{place_here, place_front, place_over}
use Rattle.jlog.proofs.OutputLemmas.{output_front, output_over, intact_skips, places_skip, placed_skip}
use Rattle.jlog.proofs.SightLemmas.{told, erased_told, marked_told, marker_long, marker_then}
use Rattle.jlog.proofs.FlashLemmas.{Cursor, Flash, BlockLeft, Holds, flash_moves, holds_behind, nothing_out, rest_byte, rest_long, up}
use Rattle.jlog.proofs.HereLemmas.{Stands, Gives, Sure, Walks, cursor_words, gives_moved, here, sure_skips, walks_none}

-- ---- at the front of a block

-- a block with no more than the marker, and what is after that
front_marked : (e : Endian) (start size j : ℕ) (block : List ℕ) → 12 ≤ size → j ≤ 12 → block ≡ marked e size j → told e start 0 block ≡ told e start 12 (drop 12 block)
front_marked e start size j block large most is =
    let cut : length (take j (clean_marker e)) ≤ 12 = omega (arith, length-take j (clean_marker e)) in
    let rest : drop 12 block ≡ erased (size - j - (12 - length (take j (clean_marker e)))) = ap (drop 12) is ∙ behind (take j (clean_marker e)) (size - j) 12 cut in
    ap (told e start 0) is ∙ (marked_told e start size j most large
    ∙ sym (ap (told e start 12) rest ∙ erased_told e start 12 (size - j - (12 - length (take j (clean_marker e))))))

front_byte : (size c d k : ℕ) (out block : List ℕ) → c ≡ d * size → Holds size c (take k out) block d → (i : ℕ) → i < size → get_or block i 0xFF ≡ get_or (take k out) i 0xFF
front_byte size c d k out block at holds i inside =
    let same : d * size + i - c ≡ i = omega arith in
    holds i inside (omega arith) ∙ ap (λ (n : ℕ). get_or (take k out) n 0xFF) same

-- a block whose marker went out in part
front_torn : (e : Endian) (size c d k : ℕ) (out block : List ℕ) → c ≡ d * size → length block ≡ size → 12 ≤ size → k ≤ 12 → Holds size c (take k (clean_marker e ++ out)) block d → block ≡ marked e size k
front_torn e size c d k out block at long large few holds =
    let marker : length (clean_marker e) ≡ 12 = marker_long e in
    let cut : length (take k (clean_marker e)) ≡ k = length-take-le k (clean_marker e) (omega (arith, marker)) in
    let same : take k (clean_marker e ++ out) ≡ take k (clean_marker e) = take-append-le k (clean_marker e) out (omega (arith, marker)) in
    let len : length block ≡ length (marked e size k) =
    omega (arith, long, length-append (take k (clean_marker e)) (erased (size - k)), cut, length-replicate {A = ℕ} (size - k) 0xFF) in
    ext_get_or 0xFF block (marked e size k) len (λ i inside.
    front_byte size c d k (clean_marker e ++ out) block at holds i (omega (arith, inside, long))
    ∙ (ap (λ (xs : List ℕ). get_or xs i 0xFF) same ∙ sym (erased_end (take k (clean_marker e)) (size - k) i)))

-- and one whose marker went out whole
front_whole : (e : Endian) (size c d k : ℕ) (out block : List ℕ) → c ≡ d * size → length block ≡ size → 12 ≤ size → 12 ≤ k → Holds size c (take k (clean_marker e ++ out)) block d
    → block ≡ clean_marker e ++ drop 12 block
front_whole e size c d k out block at long large all holds =
    let marker : length (clean_marker e) ≡ 12 = marker_long e in
    let len : length (take 12 block) ≡ 12 = length-take-le 12 block (omega (arith, long)) in
    let front : take 12 block ≡ clean_marker e =
    ext_get_or 0xFF (take 12 block) (clean_marker e) (len ∙ sym marker) (λ i inside.
    let few : i < 12 = omega (arith, inside, len) in
    get_or-take 12 block i 0xFF few
    ∙ (front_byte size c d k (clean_marker e ++ out) block at holds i (omega arith)
    ∙ (cut_within (clean_marker e) out k i (omega (arith, few, marker))
    ∙ ap (λ (xs : List ℕ). get_or xs i 0xFF) (take_all k (clean_marker e) (omega (arith, marker)))))) in
    sym (take-append-drop 12 block) ∙ ap (λ (xs : List ℕ). xs ++ drop 12 block) front

front_told : (e : Endian) (size c d k : ℕ) (out block : List ℕ) → c ≡ d * size → length block ≡ size → 12 ≤ size → BlockLeft e size c (clean_marker e ++ out) k block d
    → told e (d * size) 0 block ≡ told e (d * size) 12 (drop 12 block)
front_told e size c d k out block at long large (inl holds) = elim (cases_lt 12 k) [
  | inl more ↦
      ap (told e (d * size) 0) (front_whole e size c d k out block at long large (omega arith) holds) ∙ marker_then e (d * size) (drop 12 block)
  | inr few ↦ front_marked e (d * size) size k block large few (front_torn e size c d k out block at long large few holds)
]
front_told e size c d k out block at long large (inr (j, m)) = front_marked e (d * size) size j block large m.most m.is

room_skips : (e : Endian) (size blocks c c' : ℕ) (x : List ℕ) (xs : List (List ℕ)) → place_after size c (length x) ≡ place_after size c' (length x)
    → IsTrue (fit size blocks c (x ∷ xs)) → IsTrue (fit size blocks c' (x ∷ xs))
room_skips e size blocks c c' x xs same room =
    subst (λ (ps : List (ℕ × ℕ)). IsTrue (list_all (λ place. nat_le (place.0 + place.1) (blocks * size)) ps)) (places_skip size c c' x xs same) room

-- from an address up to the form's place nothing is kept or placed that is not from there on
kept_skips : (size c c' k : ℕ) (x : List ℕ) (xs : List (List ℕ)) → c ≤ c' → c' ≤ place_after size c (length x)
    → place_after size c (length x) ≡ place_after size c' (length x)
    → take (intact size c k (x ∷ xs)) (placed_forms size c (x ∷ xs))
    ≡ take (intact size c' (k - (c' - c)) (x ∷ xs)) (placed_forms size c' (x ∷ xs))
kept_skips size c c' k x xs up before same =
    ap₂ (λ (i : ℕ) (ns : List (ℕ × List ℕ)). take i ns) (intact_skips size c c' k x xs up before same) (placed_skip size c c' x xs same)

-- the marker goes out, and then the node after it
front : (e : Endian) (size blocks : ℕ) (flash : ℕ → List ℕ) (c d n k : ℕ) (x : List ℕ) (xs : List (List ℕ)) → IsStorableForm e size x → Walks e size blocks flash xs
    → Stands e size blocks flash c d 0 n k (x ∷ xs) → Gives e size flash c d 0 n k (x ∷ xs)
front e size blocks flash c d n k x xs ok walks at =
    let node : List ℕ = x in
    let some : 0 < length node = omega (arith, ok.is.least) in
    let room : 12 + length node ≤ size = ok.room in
    let sized : size % 4 ≡ 0 = at.cursor.sized in
    let start : c ≡ d * size = omega (arith, at.cursor.at) in
    let ends : suc (d + n) ≡ blocks = at.ends in
    let behind_it : Cursor size (c + 12) d 12 = record {
      sized = sized;
      large = at.cursor.large;
      small = at.cursor.small;
      at = omega arith;
      words = refl;
      high = omega (arith, at.cursor.large);
      beside = inr (omega arith);
    } in
    let words : (c + 12) % 4 ≡ 0 = cursor_words size (c + 12) d 12 behind_it in
    let here_is : place_after size c (length node) ≡ d * size + 12 = place_front size c d (length node) sized start room some in
    let there_is : place_after size (c + 12) (length node) ≡ c + 12 = place_here size (c + 12) d (length node) words (omega arith) (omega arith) some in
    let same : place_after size c (length node) ≡ place_after size (c + 12) (length node) = omega arith in
    let out_by : (ys : List (List ℕ)) → output e size c (x ∷ ys) ≡ clean_marker e ++ output e size (c + 12) (x ∷ ys) =
    λ ys. output_front e size c d node ys sized start words room some in
    let out_is : output e size c (x ∷ xs) ≡ clean_marker e ++ output e size (c + 12) (x ∷ xs) = out_by xs in
    let marker : length (clean_marker e) ≡ 12 = marker_long e in
    let left : Flash e size c blocks flash (clean_marker e ++ output e size (c + 12) (x ∷ xs)) k = subst (λ (o : List ℕ). Flash e size c blocks flash o k) out_is at.left in
    let on : Stands e size blocks flash (c + 12) d 12 n (k - 12) (x ∷ xs) = record {
      cursor = behind_it;
      ends = ends;
      room = room_skips e size blocks c (c + 12) x xs same at.room;
      sure = subst (λ (i : ℕ). Sure e size (c + 12) (k - i) (x ∷ xs)) marker (sure_skips e size c (c + 12) k (clean_marker e) x xs out_by at.sure);
      left = subst (λ (i : ℕ). Flash e size (c + 12) blocks flash (output e size (c + 12) (x ∷ xs)) (k - i)) marker
          (flash_moves e size c (c + 12) d 12 k blocks flash (clean_marker e) (output e size (c + 12) (x ∷ xs)) behind_it (ap (λ (i : ℕ). c + i) marker) left);
    } in
    let less : c + 12 - c ≡ 12 = omega arith in
    gives_moved e size flash d 0 n d 12 n (take (intact size c k (x ∷ xs)) (placed_forms size c (x ∷ xs)))
    (take (intact size (c + 12) (k - 12) (x ∷ xs)) (placed_forms size (c + 12) (x ∷ xs)))
    (ap (λ (ss : List (ℕ × Seen)). ss ++ up e size flash (suc d) n)
    (front_told e size c d k (output e size (c + 12) (x ∷ xs)) (flash d) start (left.long d (omega arith)) (omega (arith, at.cursor.large)) (left.each d (omega arith))))
    (kept_skips size c (c + 12) k x xs (omega arith) (omega (arith, here_is)) same
    ∙ ap (λ (i : ℕ). take (intact size (c + 12) (k - i) (x ∷ xs)) (placed_forms size (c + 12) (x ∷ xs))) less)
    (here e size blocks flash (c + 12) d 12 n (k - 12) x xs ok walks (omega arith) room on)

-- ---- into the next block

rest_passed : (e : Endian) (size c d p k z : ℕ) (out block : List ℕ) → c ≡ d * size + p → length block ≡ size → z ≡ size - p → Holds size c (take k (erased z ++ out)) block d
    → told e (d * size) p (drop p block) ≡ []
rest_passed e size c d p k z out block at long is holds =
    ap (told e (d * size) p)
    (erased_is (drop p block) (size - p) (rest_long size p block long) (λ i inside.
    rest_byte size c d p (take k (erased z ++ out)) block at holds i inside
    ∙ (cut_within (erased z) out k i (omega (arith, inside, is, length-replicate {A = ℕ} z 0xFF)) ∙ (cut_erased [] z k i ∙ nothing_out i k))))
    ∙ erased_told e (d * size) p (size - p)

over : (e : Endian) (size blocks : ℕ) (flash : ℕ → List ℕ) (c d p n k : ℕ) (x : List ℕ) (xs : List (List ℕ)) → IsStorableForm e size x → Walks e size blocks flash xs
    → 12 ≤ p → size < p + length x → Stands e size blocks flash c d p n k (x ∷ xs) → Gives e size flash c d p n k (x ∷ xs)
over e size blocks flash c d p n k x xs ok walks behind_marker outside at =
    let node : List ℕ = x in
    let some : 0 < length node = omega (arith, ok.is.least) in
    let room : 12 + length node ≤ size = ok.room in
    let sized : size % 4 ≡ 0 = at.cursor.sized in
    let ends : suc (d + n) ≡ blocks = at.ends in
    let words : c % 4 ≡ 0 = cursor_words size c d p at.cursor in
    let low : d * size + 12 ≤ c = omega (arith, at.cursor.at) in
    let high : c ≤ d * size + size = omega (arith, at.cursor.at, at.cursor.high) in
    let past : d * size + size < c + length node = omega (arith, at.cursor.at) in
    let c' : ℕ = d * size + size in
    let z : ℕ = c' - c in
    let here_is : place_after size c (length node) ≡ suc d * size + 12 = place_over size c d (length node) sized words low high past room some in
    let there_is : place_after size c' (length node) ≡ suc d * size + 12 = place_front size c' (suc d) (length node) sized (omega arith) room some in
    let same : place_after size c (length node) ≡ place_after size c' (length node) = here_is ∙ sym there_is in
    let fits : place_after size c (length node) + length node ≤ blocks * size = leb-true _ _ (and_parts _ _ at.room).0 in
    let more : suc d < blocks = elim (cases_lt (suc d) blocks) [
      | inl less ↦ less
      | inr not ↦ let small : blocks * size ≤ suc d * size = mul-le-mul_right size not in absurd (omega (arith, fits, here_is))
    ] in
    let out_by : (ys : List (List ℕ)) → output e size c (x ∷ ys) ≡ erased z ++ output e size c' (x ∷ ys) =
    λ ys. output_over e size c d node ys sized words low high past room some in
    let out_is : output e size c (x ∷ xs) ≡ erased z ++ output e size c' (x ∷ xs) = out_by xs in
    let left : Flash e size c blocks flash (erased z ++ output e size c' (x ∷ xs)) k = subst (λ (o : List ℕ). Flash e size c blocks flash o k) out_is at.left in
    let len : length (erased z) ≡ z = length-replicate {A = ℕ} z 0xFF in
    let cursor : Cursor size c' (suc d) 0 = record {
      sized = sized;
      large = at.cursor.large;
      small = at.cursor.small;
      at = omega arith;
      words = refl;
      high = omega arith;
      beside = inl refl;
    } in
    let on : (n' : ℕ) → n ≡ suc n' → Stands e size blocks flash c' (suc d) 0 n' (k - z) (x ∷ xs) = λ n' is. record {
      cursor = cursor;
      ends = omega arith;
      room = room_skips e size blocks c c' x xs same at.room;
      sure = subst (λ (i : ℕ). Sure e size c' (k - i) (x ∷ xs)) len (sure_skips e size c c' k (erased z) x xs out_by at.sure);
      left = subst (λ (i : ℕ). Flash e size c' blocks flash (output e size c' (x ∷ xs)) (k - i)) len
          (flash_moves e size c c' (suc d) 0 k blocks flash (erased z) (output e size c' (x ∷ xs)) cursor (omega (arith, len)) left);
    } in
    let rest : told e (d * size) p (drop p (flash d)) ≡ [] =
    rest_passed e size c d p k z (output e size c' (x ∷ xs)) (flash d) at.cursor.at (left.long d (omega arith)) (omega (arith, at.cursor.at))
    (holds_behind e size c k d p (erased z ++ output e size c' (x ∷ xs)) (flash d) at.cursor.at behind_marker (left.each d (omega arith))) in
    let n' : ℕ = n - 1 in
    let one_more : n ≡ suc n' = omega arith in
    gives_moved e size flash d p n (suc d) 0 n' (take (intact size c k (x ∷ xs)) (placed_forms size c (x ∷ xs)))
    (take (intact size c' (k - z) (x ∷ xs)) (placed_forms size c' (x ∷ xs)))
    (ap (λ (ss : List (ℕ × Seen)). ss ++ up e size flash (suc d) n) rest ∙ ap (up e size flash (suc d)) one_more)
    (kept_skips size c c' k x xs (omega arith) (omega (arith, here_is)) same)
    (front e size blocks flash c' (suc d) n' (k - z) x xs ok walks (on n' one_more))

-- ---- the walk

step : (e : Endian) (size blocks : ℕ) (flash : ℕ → List ℕ) (x : List ℕ) (xs : List (List ℕ)) → IsStorableForm e size x → Walks e size blocks flash xs → Walks e size blocks flash (x ∷ xs)
step e size blocks flash x xs ok walks c d p n k at = elim at.cursor.beside [
  | inl begins ↦
      subst (λ (q : ℕ). Stands e size blocks flash c d q n k (x ∷ xs) → Gives e size flash c d q n k (x ∷ xs)) (sym begins) (front e size blocks flash c d n k x xs ok walks) at
  | inr behind_marker ↦ elim (cases_lt size (p + length x)) [
    | inl outside ↦ over e size blocks flash c d p n k x xs ok walks behind_marker outside at
    | inr inside ↦ here e size blocks flash c d p n k x xs ok walks behind_marker inside at
  ]
]

-- What is told of the flash from a cursor on: of the nodes that were being written there those that are kept.
pub walks_all : (e : Endian) (size blocks : ℕ) (flash : ℕ → List ℕ) (xs : List (List ℕ)) → AllByRecursion (IsStorableForm e size) xs → Walks e size blocks flash xs
walks_all e size blocks flash [] ok = walks_none e size blocks flash
walks_all e size blocks flash (x ∷ xs) ok = step e size blocks flash x xs ok.0 (walks_all e size blocks flash xs ok.1)
