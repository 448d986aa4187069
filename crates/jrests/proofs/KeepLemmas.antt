-- What is written to the rest of a block changes no tile in front of it.
use Rattle.std.proofs.Common.{◌≡◌, ℕ, zero, suc, ◌+◌, ◌-◌, ◌%◌, ◌<◌, ◌≤◌, true, List, [], ◌∷◌, ◌++◌, length, drop, take, refl, sym, ap, ap₂, subst, ◌∙◌, arith, inl, inr, length-append, length-drop, length-take-le}
use Rattle.std.specs.List.{AllByRecursion}
use Rattle.std.proofs.lemmas.Bool.{cases_Bool, true≢false}
use Rattle.std.proofs.lemmas.List.{drop-drop}
use Rattle.flashbase.specs.Bytes.{pad4_of}
use Rattle.jnode.specs.Header.{is_good, header_of, totlen_of}
use Rattle.jnode.specs.Reading.{tile_of}
use Rattle.jnode.specs.declared.header.Header.{Header}
use Rattle.jnode.specs.declared.order.Endian.{Endian}
use Rattle.jnode.proofs.HeaderLemmas.{good_found, good_from, header_holds, header_is_twelve_bytes}
use Rattle.jscan.specs.Tiling.{Tile, bytes_of, tile_at, tiling_from, tiling}
use Rattle.jscan.specs.declared.tiles.TileKind.TheVariants.{Node}
use Rattle.jscan.proofs.PaddingLemmas.{pad4_fits}
use Rattle.jscan.proofs.TileLemmas.{tile_good, tile_cases, tile_then_rest}
use Rattle.jrests.specs.Begun.{IsWholeNode}
use Rattle.jrests.specs.BegunLaws.{RestKeepsTiles}

-- ---- a good header in front of a place

take_fewer : (n m : ℕ) (a b : List ℕ) → n ≤ m → take m a ≡ take m b → take n a ≡ take n b
take_fewer zero m a b few same = refl
take_fewer (suc n) zero a b few same = absurd (omega arith)
take_fewer (suc n) (suc m) [] [] few same = refl
take_fewer (suc n) (suc m) [] (y ∷ b) few same = absurd (cc)
take_fewer (suc n) (suc m) (x ∷ a) [] few same = absurd (cc)
take_fewer (suc n) (suc m) (x ∷ a) (y ∷ b) few same =
    let head : x ≡ y = cc in
    let tail : take m a ≡ take m b = cc in
    ap₂ (λ (z : ℕ) (zs : List ℕ). z ∷ zs) head (take_fewer n m a b (omega arith) tail)

drop_both : (n m : ℕ) (a b : List ℕ) → take (n + m) a ≡ take (n + m) b → take m (drop n a) ≡ take m (drop n b)
drop_both zero m a b same = let none : 0 + m ≡ m = omega arith in subst (λ (k : ℕ). take k a ≡ take k b) none same
drop_both (suc n) m [] [] same = refl
drop_both (suc n) m [] (y ∷ b) same =
    let sum : suc n + m ≡ suc (n + m) = omega arith in
    let there : [] ≡ y ∷ take (n + m) b = subst (λ (k : ℕ). take k [] ≡ take k (y ∷ b)) sum same in
    absurd (cc)
drop_both (suc n) m (x ∷ a) [] same =
    let sum : suc n + m ≡ suc (n + m) = omega arith in
    let there : x ∷ take (n + m) a ≡ [] = subst (λ (k : ℕ). take k (x ∷ a) ≡ take k []) sum same in
    absurd (cc)
drop_both (suc n) m (x ∷ a) (y ∷ b) same =
    let sum : suc n + m ≡ suc (n + m) = omega arith in
    let there : x ∷ take (n + m) a ≡ y ∷ take (n + m) b = subst (λ (k : ℕ). take k (x ∷ a) ≡ take k (y ∷ b)) sum same in
    let tail : take (n + m) a ≡ take (n + m) b = cc in
    drop_both n m a b tail

-- lists that begin alike have the same node at their front
record SameFront (e : Endian) (was now : List ℕ) : Type 0 where
  good : is_good e now ≡ true
  header : header_of e now ≡ header_of e was
  tile : tile_of e now ≡ tile_of e was

same_front : (e : Endian) (m : ℕ) (was now : List ℕ) → length now ≡ length was → take m now ≡ take m was → is_good e was ≡ true → 12 ≤ m → pad4_of (totlen_of e was) ≤ m
    → SameFront e was now
same_front e m was now long same good large within =
    let is = good_found e was good in
    let twelve = header_is_twelve_bytes e now was (take_fewer 12 m now was large same) in
    let total : totlen_of e now ≡ totlen_of e was = ap (λ (h : Header). h.totlen) twelve.1 in
    record {
      good = good_from e now (twelve.0 ∙ header_holds e was is.right_magic is.checksum) (omega (arith, is.room, long)) (omega (arith, is.least, total)) (omega (arith, is.within, total, long));
      header = twelve.1;
      tile = ap (λ (n : ℕ). take (pad4_of n) now) total ∙ take_fewer (pad4_of (totlen_of e was)) m now was within same;
    }

-- ---- the tiles in front of it

heads : (x y : Tile) (xs ys : List Tile) → (x ∷ xs) ≡ (y ∷ ys) → (x ≡ y) × (xs ≡ ys)
heads x y xs ys is = (cc, cc)

node_is_good : (e : Endian) (place : ℕ) (rest : List ℕ) (tile : Tile) (header : Header) → tile_at e place rest ≡ tile → tile.kind ≡ Node header → is_good e rest ≡ true
node_is_good e place rest tile header is node = elim (cases_Bool (is_good e rest)) [
  | inl good ↦ good
  | inr bad ↦
      let no : (tile_at e place rest).kind ≡ Node header → ⊥ =
      tile_cases e place rest (λ t. t.kind ≡ Node header → ⊥)
      (λ good. absurd (true≢false (sym good ∙ bad)))
      (λ none long. λ wrong. (cc))
      (λ none short. λ wrong. (cc)) in
      absurd (no (ap (λ (t : Tile). t.kind) is ∙ node))
]

-- the first of them
pub record NodeFirst (e : Endian) (place : ℕ) (was : List ℕ) (t : Tile) (rest : List Tile) : Type 0 where
  pub good : is_good e was ≡ true
  pub tile : t ≡ record { place = place; kind = Node (header_of e was); bytes = tile_of e was }
  pub size : length t.bytes ≡ pad4_of (totlen_of e was)
  pub large : 12 ≤ pad4_of (totlen_of e was)
  pub within : pad4_of (totlen_of e was) ≤ length was
  pub words : pad4_of (totlen_of e was) % 4 ≡ 0
  pub later : tiling_from e (place + pad4_of (totlen_of e was)) 0 (drop (pad4_of (totlen_of e was)) was) ≡ rest

pub node_first : (e : Endian) (place : ℕ) (was : List ℕ) (t : Tile) (rest : List Tile) → length was % 4 ≡ 0 → tiling_from e place 0 was ≡ t ∷ rest → IsWholeNode e t → NodeFirst e place was t rest
node_first e place [] t rest words tiles whole = absurd (cc)
node_first e place (b ∷ bs) t rest words tiles whole =
    let was : List ℕ = b ∷ bs in
    let parts = heads (tile_at e place was) t (tiling_from e (place + length (tile_at e place was).bytes) 0 (drop (length (tile_at e place was).bytes) was)) rest
    (sym (tile_then_rest e place was (omega arith)) ∙ tiles) in
    let good : is_good e was ≡ true = node_is_good e place was t whole.header parts.0 whole.node in
    let is = good_found e was good in
    let fits = pad4_fits (totlen_of e was) (length was) words is.within in
    let n : ℕ = pad4_of (totlen_of e was) in
    let tile : t ≡ record { place = place; kind = Node (header_of e was); bytes = tile_of e was } = sym parts.0 ∙ tile_good e place was good in
    let size : length t.bytes ≡ n = ap (λ (x : Tile). length x.bytes) tile ∙ length-take-le n was fits.0 in
    record {
      good = good;
      tile = tile;
      size = size;
      large = omega (arith, is.least, fits.1);
      within = fits.0;
      words = fits.2;
      later = subst (λ (k : ℕ). tiling_from e (place + k) 0 (drop k was) ≡ rest) (ap (λ (x : Tile). length x.bytes) parts.0 ∙ size) parts.1;
    }

-- they are made of words, and the first of them has a header
pub whole_words : (e : Endian) (place : ℕ) (was : List ℕ) (before after : List Tile) → length was % 4 ≡ 0 → tiling_from e place 0 was ≡ before ++ after → AllByRecursion (IsWholeNode e) before
    → (length (bytes_of before) % 4 ≡ 0) × (0 < length (bytes_of before) → 12 ≤ length (bytes_of before))
whole_words e place was [] after words tiles whole = (refl, λ some. absurd (omega (arith, some)))
whole_words e place was (t ∷ ts) after words tiles whole =
    let it = node_first e place was t (ts ++ after) words tiles whole.0 in
    let n : ℕ = pad4_of (totlen_of e was) in
    let next = whole_words e (place + n) (drop n was) ts after (omega (arith, length-drop n was, words, it.words, it.within)) it.later whole.1 in
    let sum : length (bytes_of (t ∷ ts)) ≡ n + length (bytes_of ts) = length-append t.bytes (bytes_of ts) ∙ ap (λ (k : ℕ). k + length (bytes_of ts)) it.size in
    (omega (arith, sum, next.0, it.words), λ some. omega (arith, sum, it.large))

pub keeps : (e : Endian) (place m : ℕ) (was now : List ℕ) (before after : List Tile) → length was % 4 ≡ 0 → length now ≡ length was → take m now ≡ take m was
    → tiling_from e place 0 was ≡ before ++ after → AllByRecursion (IsWholeNode e) before → length (bytes_of before) ≡ m
    → tiling_from e place 0 now ≡ before ++ tiling_from e (place + m) 0 (drop m now)
keeps e place m was now [] after words long same tiles whole begins =
    let none : m ≡ 0 = sym begins in
    let here : place ≡ place + m = omega (arith, none) in
    ap₂ (λ (p : ℕ) (l : List ℕ). tiling_from e p 0 l) here (ap (λ (n : ℕ). drop n now) (sym none))
keeps e place m was now (t ∷ ts) after words long same tiles whole begins =
    let it = node_first e place was t (ts ++ after) words tiles whole.0 in
    let n : ℕ = pad4_of (totlen_of e was) in
    let left : ℕ = length (bytes_of ts) in
    let m_is : m ≡ n + left = omega (arith, sym begins, length-append t.bytes (bytes_of ts), it.size) in
    let alike : SameFront e was now = same_front e m was now long same it.good (omega (arith, it.large, m_is)) (omega (arith, m_is)) in
    let there : tile_at e place now ≡ t =
    tile_good e place now alike.good
    ∙ (ap₂ (λ (h : Header) (l : List ℕ). (let x : Tile = record { place = place; kind = Node h; bytes = l } in x)) alike.header alike.tile ∙ sym it.tile) in
    let some : 0 < length now = omega (arith, long, it.within, it.large) in
    let now_is : tiling_from e place 0 now ≡ t ∷ tiling_from e (place + n) 0 (drop n now) =
    tile_then_rest e place now some
    ∙ ap₂ (λ (x : Tile) (k : ℕ). x ∷ tiling_from e (place + k) 0 (drop k now)) there (ap (λ (x : Tile). length x.bytes) there ∙ it.size) in
    let short : length (drop n now) ≡ length (drop n was) = length-drop n now ∙ (ap (λ (k : ℕ). k - n) long ∙ sym (length-drop n was)) in
    let next : tiling_from e (place + n) 0 (drop n now) ≡ ts ++ tiling_from e (place + n + left) 0 (drop left (drop n now)) =
    keeps e (place + n) left (drop n was) (drop n now) ts after (omega (arith, length-drop n was, words, it.words, it.within)) short
    (drop_both n left now was (subst (λ (k : ℕ). take k now ≡ take k was) m_is same)) it.later whole.1 refl in
    let at : place + n + left ≡ place + m = omega (arith, m_is) in
    let behind : drop left (drop n now) ≡ drop m now = drop-drop left n now ∙ ap (λ (k : ℕ). drop k now) (sym m_is) in
    now_is ∙ ap (λ (l : List Tile). t ∷ l) (next ∙ ap₂ (λ (p : ℕ) (l : List ℕ). ts ++ tiling_from e p 0 l) at behind)

pub keeps_front : (e : Endian) (m : ℕ) (was now : List ℕ) (before after : List Tile) → length was % 4 ≡ 0 → length now ≡ length was → take m now ≡ take m was
    → tiling e was ≡ before ++ after → AllByRecursion (IsWholeNode e) before → length (bytes_of before) ≡ m → tiling e now ≡ before ++ tiling_from e m 0 (drop m now)
keeps_front e m was now before after words long same tiles whole begins =
    let at : 0 + m ≡ m = omega arith in
    keeps e 0 m was now before after words long same tiles whole begins ∙ ap (λ (p : ℕ). before ++ tiling_from e p 0 (drop m now)) at

pub rest_keeps_tiles : RestKeepsTiles
rest_keeps_tiles e size block written at words rest long same = keeps_front e at block written rest.before rest.after words long same rest.tiles rest.whole rest.begins
