-- The walk over an image of whole nodes: its blocks have these nodes, their markers and erased flash.
use Rattle.std.proofs.Common.{◌≡◌, ℕ, zero, suc, ◌+◌, ◌-◌, ◌*◌, ◌/◌, ◌%◌, ◌<◌, ◌≤◌, true, List, [], ◌∷◌, ◌++◌, length, take, drop, get_or, map, refl, sym, ap, ap₂, subst, ◌∙◌, arith, inl, inr, None}
use Rattle.std.specs.Prelude.{IsTrue, nat_le, filter}
use Rattle.std.specs.List.{AllByRecursion, list_all}
use Rattle.std.proofs.Math.Nat.{mul-le-mul_right}
use Rattle.std.proofs.lemmas.Bool.{cases_lt, and_parts, leb-true, false≢true}
use Rattle.std.proofs.lemmas.List.{get_or-take, get_or-append-add, get_or_append_left, take-append-drop, length-take-le, length-replicate, drop-drop, drop_all, drop_at, append-nil, ext_get_or}
use Rattle.std.proofs.lemmas.Nat.{div-mul-add, mod-mul-add}
use Rattle.flashbase.specs.Bytes.{pad4_of, erased}
use Rattle.flashbase.proofs.BytesLemmas.{pad4_words, pad4_least}
use Rattle.jnode.specs.Header.{is_good}
use Rattle.jnode.specs.Reading.{seen_of, tile_of}
use Rattle.jnode.specs.Weak.{is_sound}
use Rattle.jnode.specs.Writing.{clean_marker, filled}
use Rattle.jnode.specs.declared.node.Seen.{Seen}
use Rattle.jnode.specs.declared.node.Seen.TheVariants as seen
use Rattle.jnode.specs.declared.order.Endian.{Endian}
use Rattle.jnode.proofs.HeaderLemmas.{good_found}
use Rattle.jnode.proofs.WritingLemmas.{marker_is_tile, length-filled}
use Rattle.jscan.specs.Findings.{found_node}
use Rattle.jscan.specs.Image.{sightings_from}
use Rattle.jscan.specs.Tiling.{Tile, tiling_from}
use Rattle.jscan.proofs.HeaderlessLemmas.{seen_among}
use Rattle.jscan.proofs.TileLemmas.{tile_good, tile_then_rest}
use Rattle.jlog.specs.Places.{place_after, fit}
use Rattle.jlog.specs.Output.{output}
use Rattle.jlog.specs.LeftLaws.{tells}
use Rattle.jlog.specs.Forms.{placed_forms, form_sighted}
use Rattle.jlog.proofs.ByteLemmas.{erased_is}
use Rattle.jlog.proofs.PlaceLemmas.{place_here, place_front, place_over}
use Rattle.jlog.proofs.OutputLemmas.{output_here, output_front, output_over, places_skip, placed_skip, placed_here}
use Rattle.jlog.proofs.SightLemmas.{told, erased_told, marker_long, marker_then}
use Rattle.jlog.proofs.FlashLemmas.{Cursor, Holds, met, rest_byte, rest_long, up}
use Rattle.jlog.proofs.HereLemmas.{StandsAt, cursor_words}
use Rattle.jcollect.specs.Clean.{IsClean}
use Rattle.jcollect.proofs.CleanLemmas.{erased_clean, node_clean}

-- ---- what is written for a node

-- these bytes are a tile of their own, seen as a sound node, which a block holds after its marker
pub record Copy (e : Endian) (size : ℕ) (x : List ℕ) : Type 0 where
  pub least : 12 ≤ length x
  pub room : 12 + length x ≤ size
  pub good : (more : List ℕ) → is_good e (filled x ++ more) ≡ true
  pub tile : (more : List ℕ) → tile_of e (filled x ++ more) ≡ filled x
  pub sound : is_sound (seen_of e (filled x)) ≡ true

-- a tile whose bytes are in front of others is sighted first
tile_first : (e : Endian) (start place : ℕ) (tile more : List ℕ) → is_good e (tile ++ more) ≡ true → tile_of e (tile ++ more) ≡ tile
    → sightings_from e start place (tile ++ more) ≡ (start + place, seen_of e tile) ∷ sightings_from e start (place + length tile) more
tile_first e start place tile more good is =
    let rest : List ℕ = tile ++ more in
    let some : 0 < length rest = omega (arith, (good_found e rest good).room) in
    ap (seen_among e start)
    (subst (λ (t : Tile). tiling_from e place 0 rest ≡ t ∷ tiling_from e (place + length t.bytes) 0 (drop (length t.bytes) rest)) (tile_good e place rest good) (tile_then_rest e place rest some))
    ∙ ap (λ (t : List ℕ). (start + place, seen_of e t) ∷ sightings_from e start (place + length t) (drop (length t) rest)) is
    ∙ ap (λ (r : List ℕ). (start + place, seen_of e tile) ∷ sightings_from e start (place + length tile) r) (drop_at tile more (length tile) refl)

sound_told : (addr : ℕ) (s : Seen) (ss : List (ℕ × Seen)) → is_sound s ≡ true → filter tells ((addr, s) ∷ ss) ≡ (addr, s) ∷ filter tells ss
sound_told addr (seen.Entry entry) ss sound = refl
sound_told addr (seen.Inode inode) ss sound = refl
sound_told addr (seen.Compressed compr) ss sound = refl
sound_told addr _ ss sound = absurd (false≢true sound)

sound_found : (s : Seen) → is_sound s ≡ true → found_node s ≡ None
sound_found (seen.Entry entry) sound = refl
sound_found (seen.Inode inode) sound = refl
sound_found (seen.Compressed compr) sound = refl
sound_found _ sound = absurd (false≢true sound)

copy_then : (e : Endian) (size start place : ℕ) (x more : List ℕ) → Copy e size x
    → told e start place (filled x ++ more) ≡ form_sighted e (start + place, x) ∷ told e start (place + pad4_of (length x)) more
copy_then e size start place x more ok =
    ap (filter tells) (tile_first e start place (filled x) more (ok.good more) (ok.tile more))
    ∙ (sound_told (start + place) (seen_of e (filled x)) (sightings_from e start (place + length (filled x)) more) ok.sound
    ∙ ap (λ (n : ℕ). form_sighted e (start + place, x) ∷ told e start (place + n) more) (length-filled x))

copy_clean : (e : Endian) (size place : ℕ) (x more : List ℕ) → Copy e size x → IsClean e (place + pad4_of (length x)) more → IsClean e place (filled x ++ more)
copy_clean e size place x more ok later =
    let tile : List ℕ = filled x in
    let is : tile_of e (tile ++ more) ≡ tile = ok.tile more in
    let behind : drop (length (tile_of e (tile ++ more))) (tile ++ more) ≡ more = ap (λ (t : List ℕ). drop (length t) (tile ++ more)) is ∙ drop_at tile more (length tile) refl in
    let n : length (tile_of e (tile ++ more)) ≡ pad4_of (length x) = ap length is ∙ length-filled x in
    node_clean e place (tile ++ more) (ok.good more) (ap (λ (t : List ℕ). found_node (seen_of e t)) is ∙ sound_found (seen_of e tile) ok.sound)
    (subst (λ (k : ℕ). IsClean e (place + k) (drop (length (tile_of e (tile ++ more))) (tile ++ more))) (sym n) (subst (IsClean e (place + pad4_of (length x))) (sym behind) later))

marker_clean : (e : Endian) (more : List ℕ) → IsClean e 12 more → IsClean e 0 (clean_marker e ++ more)
marker_clean e more later =
    let tile : List ℕ = clean_marker e in
    let at = marker_is_tile e more in
    let is : tile_of e (tile ++ more) ≡ tile = at.tile in
    let behind : drop (length (tile_of e (tile ++ more))) (tile ++ more) ≡ more = ap (λ (t : List ℕ). drop (length t) (tile ++ more)) is ∙ drop_at tile more (length tile) refl in
    let n : length (tile_of e (tile ++ more)) ≡ 12 = ap length is ∙ marker_long e in
    node_clean e 0 (tile ++ more) at.good (ap (λ (t : List ℕ). found_node (seen_of e t)) is ∙ ap found_node at.seen)
    (subst (λ (k : ℕ). IsClean e (0 + k) (drop (length (tile_of e (tile ++ more))) (tile ++ more))) (sym n) (subst (IsClean e 12) (sym behind) later))

-- ---- what a block holds

-- the cursor moves on
moved : (size c c' q : ℕ) (front out block : List ℕ) → c + length front ≡ c' → Holds size c (front ++ out) block q → Holds size c' out block q
moved size c c' q front out block sum holds i inside from =
    let same : q * size + i - c ≡ length front + (q * size + i - c') = omega arith in
    holds i inside (omega arith) ∙ (ap (λ (n : ℕ). get_or (front ++ out) n 0xFF) same ∙ get_or-append-add front out (q * size + i - c') 0xFF)

-- what goes out first stands first
piece : (size c d p : ℕ) (front out block : List ℕ) → c ≡ d * size + p → length block ≡ size → p + length front ≤ size → Holds size c (front ++ out) block d
    → drop p block ≡ front ++ drop (p + length front) block
piece size c d p front out block at long room holds =
    let m : ℕ = length front in
    let rest : List ℕ = drop p block in
    let len : length (take m rest) ≡ m = length-take-le m rest (omega (arith, rest_long size p block long)) in
    let same : take m rest ≡ front =
    ext_get_or 0xFF (take m rest) front len (λ i inside.
    let few : i < m = omega (arith, inside, len) in
    get_or-take m rest i 0xFF few ∙ (rest_byte size c d p (front ++ out) block at holds i (omega arith) ∙ get_or_append_left front out 0xFF i few)) in
    sym (take-append-drop m rest) ∙ ap₂ (λ (xs ys : List ℕ). xs ++ ys) same (drop-drop m p block)

nothing_left : (size c d p : ℕ) (block : List ℕ) → c ≡ d * size + p → length block ≡ size → Holds size c [] block d → drop p block ≡ erased (size - p)
nothing_left size c d p block at long holds =
    erased_is (drop p block) (size - p) (rest_long size p block long) (λ i inside. rest_byte size c d p [] block at holds i inside)

nothing_in : (size c q : ℕ) (block : List ℕ) → c ≤ q * size → length block ≡ size → Holds size c [] block q → block ≡ erased size
nothing_in size c q block low long holds = erased_is block size long (λ i inside. holds i inside (omega arith))

-- ---- what the walk is to give

abbrev pub IsCleanUp : Endian → (ℕ → List ℕ) → ℕ → ℕ → Type 0
IsCleanUp e flash b zero = Unit {0}
IsCleanUp e flash b (suc n) = IsClean e 0 (flash b) × IsCleanUp e flash (suc b) n

-- from a cursor on these are met, and nothing else but markers and erased flash
pub record Shows (e : Endian) (size : ℕ) (flash : ℕ → List ℕ) (d p n : ℕ) (placed : List (ℕ × List ℕ)) : Type 0 where
  pub told : met e size flash d p n ≡ map (form_sighted e) placed
  pub stand : AllByRecursion (StandsAt size flash) placed
  pub here : IsClean e p (drop p (flash d))
  pub up : IsCleanUp e flash (suc d) n

-- n blocks follow the cursor's, these fit there, and the flash holds what goes out for them
pub record Lies (e : Endian) (size blocks : ℕ) (flash : ℕ → List ℕ) (c d p n : ℕ) (xs : List (List ℕ)) : Type 0 where
  pub cursor : Cursor size c d p
  pub ends : suc (d + n) ≡ blocks
  pub room : IsTrue (fit size blocks c xs)
  pub long : (q : ℕ) → length (flash q) ≡ size
  pub holds : (q : ℕ) → Holds size c (output e size c xs) (flash q) q

abbrev pub Walks : Endian → ℕ → ℕ → (ℕ → List ℕ) → List (List ℕ) → Type 0
Walks e size blocks flash xs = (c d p n : ℕ) → Lies e size blocks flash c d p n xs → Shows e size flash d p n (placed_forms size c xs)

-- ---- none left

erased_up : (e : Endian) (size : ℕ) (flash : ℕ → List ℕ) (b n : ℕ) → ((q : ℕ) → b ≤ q → flash q ≡ erased size) → up e size flash b n ≡ []
erased_up e size flash b zero none = refl
erased_up e size flash b (suc n) none =
    ap (λ (ss : List (ℕ × Seen)). ss ++ up e size flash (suc b) n) (ap (told e (b * size) 0) (none b (omega arith)) ∙ erased_told e (b * size) 0 size)
    ∙ erased_up e size flash (suc b) n (λ q low. none q (omega arith))

erased_clean_up : (e : Endian) (size : ℕ) (flash : ℕ → List ℕ) (b n : ℕ) → ((q : ℕ) → b ≤ q → flash q ≡ erased size) → IsCleanUp e flash b n
erased_clean_up e size flash b zero none = tt
erased_clean_up e size flash b (suc n) none =
    (subst (IsClean e 0) (sym (none b (omega arith))) (erased_clean size e 0 size (omega arith)), erased_clean_up e size flash (suc b) n (λ q low. none q (omega arith)))

walks_none : (e : Endian) (size blocks : ℕ) (flash : ℕ → List ℕ) → Walks e size blocks flash []
walks_none e size blocks flash c d p n at =
    let next : c ≤ suc d * size = omega (arith, at.cursor.at, at.cursor.high) in
    let later : (q : ℕ) → suc d ≤ q → flash q ≡ erased size = λ q low.
    let up : suc d * size ≤ q * size = mul-le-mul_right size low in
    nothing_in size c q (flash q) (omega (arith, next, up)) (at.long q) (at.holds q) in
    let rest : drop p (flash d) ≡ erased (size - p) = nothing_left size c d p (flash d) at.cursor.at (at.long d) (at.holds d) in
    record {
      told = ap (λ (ss : List (ℕ × Seen)). ss ++ up e size flash (suc d) n) (ap (told e (d * size) p) rest ∙ erased_told e (d * size) p (size - p))
          ∙ erased_up e size flash (suc d) n later;
      stand = tt;
      here = subst (IsClean e p) (sym rest) (erased_clean (size - p) e p (size - p) (omega arith));
      up = erased_clean_up e size flash (suc d) n later;
    }

-- ---- one more, in the block of the cursor

cursor_on : (size c d p len : ℕ) → Cursor size c d p → 12 ≤ p → p + len ≤ size → Cursor size (c + pad4_of len) d (p + pad4_of len)
cursor_on size c d p len at behind room =
    let words : pad4_of len % 4 ≡ 0 = pad4_words len in
    let within : pad4_of len ≤ size - p = pad4_least len (size - p) (omega arith) (omega (arith, at.words, at.sized, at.high)) in
    record {
      sized = at.sized;
      large = at.large;
      small = at.small;
      at = omega (arith, at.at);
      words = omega (arith, at.words);
      high = omega (arith, at.high);
      beside = inr (omega arith);
    }

here : (e : Endian) (size blocks : ℕ) (flash : ℕ → List ℕ) (c d p n : ℕ) (x : List ℕ) (xs : List (List ℕ)) → Copy e size x → Walks e size blocks flash xs
    → 12 ≤ p → p + length x ≤ size → Lies e size blocks flash c d p n (x ∷ xs) → Shows e size flash d p n (placed_forms size c (x ∷ xs))
here e size blocks flash c d p n x xs ok walks behind room at =
    let m : ℕ = pad4_of (length x) in
    let some : 0 < length x = omega (arith, ok.least) in
    let words : c % 4 ≡ 0 = cursor_words size c d p at.cursor in
    let low : d * size + 12 ≤ c = omega (arith, at.cursor.at) in
    let high : c + length x ≤ d * size + size = omega (arith, at.cursor.at) in
    let inside : p < size = omega (arith, room, some) in
    let next : List ℕ = output e size (c + m) xs in
    let out_is : output e size c (x ∷ xs) ≡ filled x ++ next = output_here e size c d x xs words low high some in
    let holds : (q : ℕ) → Holds size c (filled x ++ next) (flash q) q = λ q. subst (λ (o : List ℕ). Holds size c o (flash q) q) out_is (at.holds q) in
    let cursor : Cursor size (c + m) d (p + m) = cursor_on size c d p (length x) at.cursor behind room in
    let padded : length (filled x) ≡ m = length-filled x in
    let more : List ℕ = drop (p + m) (flash d) in
    let rest : drop p (flash d) ≡ filled x ++ more =
    piece size c d p (filled x) next (flash d) at.cursor.at (at.long d) (omega (arith, padded, cursor.high)) (holds d)
    ∙ ap (λ (k : ℕ). filled x ++ drop (p + k) (flash d)) padded in
    let fits : IsTrue (fit size blocks (place_after size c (length x) + m) xs) = (and_parts _ _ at.room).1 in
    let on : Lies e size blocks flash (c + m) d (p + m) n xs = record {
      cursor = cursor;
      ends = at.ends;
      room = subst (λ (q : ℕ). IsTrue (fit size blocks (q + m) xs)) (place_here size c d (length x) words low high some) fits;
      long = at.long;
      holds = λ q. moved size c (c + m) q (filled x) next (flash q) (ap (λ (k : ℕ). c + k) padded) (holds q);
    } in
    let later = walks (c + m) d (p + m) n on in
    let which : c / size ≡ d = ap (λ (a : ℕ). a / size) at.cursor.at ∙ div-mul-add d size p inside in
    let place : c % size ≡ p = ap (λ (a : ℕ). a % size) at.cursor.at ∙ mod-mul-add d size p inside in
    let stands : StandsAt size flash (c, x) = (more, ap₂ (λ (k j : ℕ). drop k (flash j)) place which ∙ rest) in
    let placed : placed_forms size c (x ∷ xs) ≡ (c, x) ∷ placed_forms size (c + m) xs = placed_here size c d x xs words low high some in
    let start : d * size + p ≡ c = sym at.cursor.at in
    subst (Shows e size flash d p n) (sym placed) (record {
      told = ap (λ (ss : List (ℕ × Seen)). ss ++ up e size flash (suc d) n) (ap (told e (d * size) p) rest ∙ copy_then e size (d * size) p x more ok)
          ∙ ap₂ (λ (a : ℕ) (ss : List (ℕ × Seen)). form_sighted e (a, x) ∷ ss) start later.told;
      stand = (stands, later.stand);
      here = subst (IsClean e p) (sym rest) (copy_clean e size p x more ok later.here);
      up = later.up;
    })

-- ---- at the front of a block

room_skips : (e : Endian) (size blocks c c' : ℕ) (x : List ℕ) (xs : List (List ℕ)) → place_after size c (length x) ≡ place_after size c' (length x)
    → IsTrue (fit size blocks c (x ∷ xs)) → IsTrue (fit size blocks c' (x ∷ xs))
room_skips e size blocks c c' x xs same room =
    subst (λ (ps : List (ℕ × ℕ)). IsTrue (list_all (λ place. nat_le (place.0 + place.1) (blocks * size)) ps)) (places_skip size c c' x xs same) room

front : (e : Endian) (size blocks : ℕ) (flash : ℕ → List ℕ) (c d n : ℕ) (x : List ℕ) (xs : List (List ℕ)) → Copy e size x → Walks e size blocks flash xs
    → Lies e size blocks flash c d 0 n (x ∷ xs) → Shows e size flash d 0 n (placed_forms size c (x ∷ xs))
front e size blocks flash c d n x xs ok walks at =
    let some : 0 < length x = omega (arith, ok.least) in
    let room : 12 + length x ≤ size = ok.room in
    let sized : size % 4 ≡ 0 = at.cursor.sized in
    let start : c ≡ d * size = omega (arith, at.cursor.at) in
    let behind_it : Cursor size (c + 12) d 12 = record {
      sized = sized;
      large = at.cursor.large;
      small = at.cursor.small;
      at = omega arith;
      words = refl;
      high = omega (arith, at.cursor.large);
      beside = inr (omega arith);
    } in
    let words : (c + 12) % 4 ≡ 0 = cursor_words size (c + 12) d 12 behind_it in
    let here_is : place_after size c (length x) ≡ d * size + 12 = place_front size c d (length x) sized start room some in
    let there_is : place_after size (c + 12) (length x) ≡ c + 12 = place_here size (c + 12) d (length x) words (omega arith) (omega arith) some in
    let same : place_after size c (length x) ≡ place_after size (c + 12) (length x) = omega arith in
    let next : List ℕ = output e size (c + 12) (x ∷ xs) in
    let out_is : output e size c (x ∷ xs) ≡ clean_marker e ++ next = output_front e size c d x xs sized start words room some in
    let marker : length (clean_marker e) ≡ 12 = marker_long e in
    let holds : (q : ℕ) → Holds size c (clean_marker e ++ next) (flash q) q = λ q. subst (λ (o : List ℕ). Holds size c o (flash q) q) out_is (at.holds q) in
    let rest : flash d ≡ clean_marker e ++ drop 12 (flash d) =
    piece size c d 0 (clean_marker e) next (flash d) at.cursor.at (at.long d) (omega (arith, marker, at.cursor.large)) (holds d)
    ∙ ap (λ (k : ℕ). clean_marker e ++ drop (0 + k) (flash d)) marker in
    let on : Lies e size blocks flash (c + 12) d 12 n (x ∷ xs) = record {
      cursor = behind_it;
      ends = at.ends;
      room = room_skips e size blocks c (c + 12) x xs same at.room;
      long = at.long;
      holds = λ q. moved size c (c + 12) q (clean_marker e) next (flash q) (ap (λ (k : ℕ). c + k) marker) (holds q);
    } in
    let later = here e size blocks flash (c + 12) d 12 n x xs ok walks (omega arith) room on in
    subst (Shows e size flash d 0 n) (sym (placed_skip size c (c + 12) x xs same)) (record {
      told = ap (λ (ss : List (ℕ × Seen)). ss ++ up e size flash (suc d) n) (ap (told e (d * size) 0) rest ∙ marker_then e (d * size) (drop 12 (flash d)))
          ∙ later.told;
      stand = later.stand;
      here = subst (IsClean e 0) (sym rest) (marker_clean e (drop 12 (flash d)) later.here);
      up = later.up;
    })

-- ---- into the next block

over : (e : Endian) (size blocks : ℕ) (flash : ℕ → List ℕ) (c d p n : ℕ) (x : List ℕ) (xs : List (List ℕ)) → Copy e size x → Walks e size blocks flash xs
    → 12 ≤ p → size < p + length x → Lies e size blocks flash c d p n (x ∷ xs) → Shows e size flash d p n (placed_forms size c (x ∷ xs))
over e size blocks flash c d p n x xs ok walks behind_marker outside at =
    let some : 0 < length x = omega (arith, ok.least) in
    let room : 12 + length x ≤ size = ok.room in
    let sized : size % 4 ≡ 0 = at.cursor.sized in
    let ends : suc (d + n) ≡ blocks = at.ends in
    let words : c % 4 ≡ 0 = cursor_words size c d p at.cursor in
    let low : d * size + 12 ≤ c = omega (arith, at.cursor.at) in
    let high : c ≤ d * size + size = omega (arith, at.cursor.at, at.cursor.high) in
    let past : d * size + size < c + length x = omega (arith, at.cursor.at) in
    let c' : ℕ = d * size + size in
    let z : ℕ = c' - c in
    let here_is : place_after size c (length x) ≡ suc d * size + 12 = place_over size c d (length x) sized words low high past room some in
    let there_is : place_after size c' (length x) ≡ suc d * size + 12 = place_front size c' (suc d) (length x) sized (omega arith) room some in
    let same : place_after size c (length x) ≡ place_after size c' (length x) = here_is ∙ sym there_is in
    let fits : place_after size c (length x) + length x ≤ blocks * size = leb-true _ _ (and_parts _ _ at.room).0 in
    let more : suc d < blocks = elim (cases_lt (suc d) blocks) [
      | inl less ↦ less
      | inr not ↦ let small : blocks * size ≤ suc d * size = mul-le-mul_right size not in absurd (omega (arith, fits, here_is))
    ] in
    let next : List ℕ = output e size c' (x ∷ xs) in
    let out_is : output e size c (x ∷ xs) ≡ erased z ++ next = output_over e size c d x xs sized words low high past room some in
    let len : length (erased z) ≡ z = length-replicate {A = ℕ} z 0xFF in
    let holds : (q : ℕ) → Holds size c (erased z ++ next) (flash q) q = λ q. subst (λ (o : List ℕ). Holds size c o (flash q) q) out_is (at.holds q) in
    let cursor : Cursor size c' (suc d) 0 = record {
      sized = sized;
      large = at.cursor.large;
      small = at.cursor.small;
      at = omega arith;
      words = refl;
      high = omega arith;
      beside = inl refl;
    } in
    let n' : ℕ = n - 1 in
    let one_more : n ≡ suc n' = omega arith in
    let on : Lies e size blocks flash c' (suc d) 0 n' (x ∷ xs) = record {
      cursor = cursor;
      ends = omega arith;
      room = room_skips e size blocks c c' x xs same at.room;
      long = at.long;
      holds = λ q. moved size c c' q (erased z) next (flash q) (omega (arith, len)) (holds q);
    } in
    let later = front e size blocks flash c' (suc d) n' x xs ok walks on in
    let width : size - p ≡ z = omega (arith, at.cursor.at) in
    let none : drop (p + length (erased z)) (flash d) ≡ [] = drop_all (p + length (erased z)) (flash d) (omega (arith, len, at.long d, at.cursor.at)) in
    let rest : drop p (flash d) ≡ erased (size - p) =
    piece size c d p (erased z) next (flash d) at.cursor.at (at.long d) (omega (arith, len, at.cursor.at, at.cursor.high)) (holds d)
    ∙ (ap (λ (ys : List ℕ). erased z ++ ys) none ∙ (append-nil (erased z) ∙ ap erased (sym width))) in
    subst (λ (k : ℕ). Shows e size flash d p k (placed_forms size c (x ∷ xs))) (sym one_more)
    (subst (Shows e size flash d p (suc n')) (sym (placed_skip size c c' x xs same)) (record {
      told = ap (λ (ss : List (ℕ × Seen)). ss ++ up e size flash (suc d) (suc n')) (ap (told e (d * size) p) rest ∙ erased_told e (d * size) p (size - p))
          ∙ later.told;
      stand = later.stand;
      here = subst (IsClean e p) (sym rest) (erased_clean (size - p) e p (size - p) (omega arith));
      up = (later.here, later.up);
    }))

-- ---- the walk

step : (e : Endian) (size blocks : ℕ) (flash : ℕ → List ℕ) (x : List ℕ) (xs : List (List ℕ)) → Copy e size x → Walks e size blocks flash xs → Walks e size blocks flash (x ∷ xs)
step e size blocks flash x xs ok walks c d p n at = elim at.cursor.beside [
  | inl begins ↦
      subst (λ (q : ℕ). Lies e size blocks flash c d q n (x ∷ xs) → Shows e size flash d q n (placed_forms size c (x ∷ xs))) (sym begins) (front e size blocks flash c d n x xs ok walks) at
  | inr behind_marker ↦ elim (cases_lt size (p + length x)) [
    | inl outside ↦ over e size blocks flash c d p n x xs ok walks behind_marker outside at
    | inr inside ↦ here e size blocks flash c d p n x xs ok walks behind_marker inside at
  ]
]

pub walks_all : (e : Endian) (size blocks : ℕ) (flash : ℕ → List ℕ) (xs : List (List ℕ)) → AllByRecursion (Copy e size) xs → Walks e size blocks flash xs
walks_all e size blocks flash [] ok = walks_none e size blocks flash
walks_all e size blocks flash (x ∷ xs) ok = step e size blocks flash x xs ok.0 (walks_all e size blocks flash xs ok.1)
