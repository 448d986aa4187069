-- A block has at most one rest, which the function gives.
use Rattle.std.proofs.Common.{◌≡◌, ℕ, zero, suc, ◌+◌, ◌-◌, ◌%◌, ◌<◌, ◌≤◌, true, false, eqb, List, [], ◌∷◌, ◌++◌, length, drop, take, refl, sym, ap, ap₂, subst, ◌∙◌, arith, inl, inr, Some, length-append, length-drop}
use Rattle.std.specs.Prelude.{not}
use Rattle.std.specs.List.{AllByRecursion, list_all}
use Rattle.std.proofs.lemmas.Bool.{cases_lt, le-leb, lt-leb}
use Rattle.std.proofs.lemmas.List.{drop-replicate, take-replicate, drop-drop, length-replicate}
use Rattle.flashbase.specs.Bytes.{erased, pad4_of}
use Rattle.jnode.specs.Header.{header_of, totlen_of}
use Rattle.jnode.specs.Reading.{seen_of, tile_of}
use Rattle.jnode.specs.declared.node.Seen.{Seen}
use Rattle.jnode.specs.declared.order.Endian.{Endian}
use Rattle.jnode.proofs.HeaderLemmas.{erased_is_not_good}
use Rattle.jscan.specs.Extents.{class_of, extent_of, in_front, extents_from}
use Rattle.jscan.specs.Tiling.{Tile, bytes_of, tile_at, tiling_from}
use Rattle.jscan.specs.declared.extent.Extent.{Extent}
use Rattle.jscan.specs.declared.extent.ExtentKind.{ExtentKind}
use Rattle.jscan.specs.declared.extent.ExtentKind.TheVariants.{Tiled, Erased}
use Rattle.jscan.specs.declared.tiles.TileKind.TheVariants.{Node, Word, Rest}
use Rattle.jscan.proofs.ExtentLaws.{front_then_rest, no_extents}
use Rattle.jscan.proofs.ExtentLemmas.{in_front_node}
use Rattle.jscan.proofs.TileLemmas.{tile_good, tile_word, tile_rest}
use Rattle.jrests.specs.Begun.{is_damaged, IsWholeNode, IsRest, is_passed, clear_last, rest_of}
use Rattle.jrests.specs.BegunLaws.{RestIsDecided, RestIsOne}
use Rattle.jrests.proofs.KeepLemmas.{node_first}
use Rattle.jrests.proofs.RestLemmas.{rest_is_found}

-- ---- erased bytes are one extent

all_clear : (n : ℕ) → list_all (λ b. eqb b 255) (erased n) ≡ true
all_clear zero = refl
all_clear (suc n) = all_clear n

erased_class : (e : Endian) (n : ℕ) → class_of e (erased n) ≡ Erased
unfolding class_of
erased_class e n = rw (all_clear n) refl

abbrev clear_extent : ℕ → ℕ → Extent
clear_extent addr n = record { addr = addr; len = n; kind = Erased }

-- an erased tile in front of what is left
clear_front : (e : Endian) (place n : ℕ) (rest bytes : List ℕ) (tile : Tile) (es : List Extent) → 0 < length rest → tile_at e place rest ≡ tile → bytes ≡ erased n
    → extent_of e 0 tile ≡ record { addr = 0 + place; len = length bytes; kind = class_of e bytes }
    → extents_from e 0 (place + length tile.bytes) (drop (length tile.bytes) rest) ≡ es
    → extents_from e 0 place rest ≡ in_front (clear_extent place n) es
clear_front e place n rest bytes tile es some at is extent later =
    let len : length bytes ≡ n = ap length is ∙ length-replicate {A = ℕ} n 0xFF in
    let kind : class_of e bytes ≡ Erased = ap (class_of e) is ∙ erased_class e n in
    let addr : 0 + place ≡ place = omega arith in
    let front : extent_of e 0 tile ≡ clear_extent place n =
    extent
    ∙ (ap₂ (λ (a b : ℕ). (let x : Extent = record { addr = a; len = b; kind = class_of e bytes } in x)) addr len
    ∙ ap (λ (k : ExtentKind). (let x : Extent = record { addr = place; len = n; kind = k } in x)) kind) in
    front_then_rest e 0 place rest some
    ∙ (ap (λ (t : Tile). in_front (extent_of e 0 t) (extents_from e 0 (place + length t.bytes) (drop (length t.bytes) rest))) at
    ∙ ap₂ in_front front later)

clear_alone : (n : ℕ) (e : Endian) (place len : ℕ) → len ≤ n → 0 < len → extents_from e 0 place (erased len) ≡ clear_extent place len ∷ []
clear_alone zero e place len few some = absurd (omega (arith, few, some))
clear_alone (suc n) e place len few some = elim (cases_lt len 12) [
  | inl short ↦
      let rest : List ℕ = erased len in
      let long : length rest ≡ len = length-replicate {A = ℕ} len 0xFF in
      let left : len - len ≡ 0 = omega arith in
      let none : drop (length rest) rest ≡ [] = ap (λ (k : ℕ). drop k rest) long ∙ (drop-replicate len len 0xFF ∙ ap erased left) in
      clear_front e place len rest rest (record { place = place; kind = Rest; bytes = rest }) [] (omega (arith, long, some))
      (tile_rest e place rest (erased_is_not_good e len) (lt-leb 12 (length rest) (omega (arith, long, short)))) refl refl
      (ap (extents_from e 0 (place + length rest)) none ∙ no_extents e 0 (place + length rest))
  | inr more ↦
      let rest : List ℕ = erased len in
      let long : length rest ≡ len = length-replicate {A = ℕ} len 0xFF in
      let word : take 4 rest ≡ erased 4 = take-replicate 4 len 0xFF (omega (arith, more)) in
      let four : length (take 4 rest) ≡ 4 = ap length word in
      let left : drop (length (take 4 rest)) rest ≡ erased (len - 4) = ap (λ (k : ℕ). drop k rest) four ∙ drop-replicate 4 len 0xFF in
      let sum : 4 + (len - 4) ≡ len = omega (arith, more) in
      clear_front e place 4 rest (take 4 rest) (record { place = place; kind = Word; bytes = take 4 rest }) (clear_extent (place + 4) (len - 4) ∷ []) (omega (arith, long, some))
      (tile_word e place rest (erased_is_not_good e len) (le-leb 12 (length rest) (omega (arith, long, more)))) word refl
      (ap₂ (λ (k : ℕ) (l : List ℕ). extents_from e 0 (place + k) l) four left ∙ clear_alone n e (place + 4) (len - 4) (omega (arith, few)) (omega (arith, more)))
      ∙ ap (λ (k : ℕ). clear_extent place k ∷ []) sum
]

-- ---- behind nodes

passes : (e : Endian) (place m : ℕ) (was : List ℕ) (before after : List Tile) → length was % 4 ≡ 0 → tiling_from e place 0 was ≡ before ++ after → AllByRecursion (IsWholeNode e) before
    → length (bytes_of before) ≡ m → drop m was ≡ erased (length was - m) → m < length was → clear_last (extents_from e 0 place was) ≡ Some (place + m)
passes e place m was [] after words tiles whole begins clear within =
    let none : m ≡ 0 = sym begins in
    let all : was ≡ erased (length was) = ap (λ (k : ℕ). drop k was) (sym none) ∙ (clear ∙ ap erased (omega (arith, none))) in
    let here : place ≡ place + m = omega (arith, none) in
    ap (λ (l : List ℕ). clear_last (extents_from e 0 place l)) all
    ∙ (ap clear_last (clear_alone (length was) e place (length was) (omega arith) (omega (arith, within))) ∙ ap (λ (k : ℕ). Some k) here)
passes e place m was (t ∷ ts) after words tiles whole begins clear within =
    let it = node_first e place was t (ts ++ after) words tiles whole.0 in
    let n : ℕ = pad4_of (totlen_of e was) in
    let left : ℕ = length (bytes_of ts) in
    let m_is : m ≡ n + left = omega (arith, sym begins, length-append t.bytes (bytes_of ts), it.size) in
    let some : 0 < length was = omega (arith, within) in
    let what : Seen = seen_of e (tile_of e was) in
    let tile : Tile = record { place = place; kind = Node (header_of e was); bytes = tile_of e was } in
    let at : tile_at e place was ≡ tile = tile_good e place was it.good in
    let size : length tile.bytes ≡ n = sym (ap (λ (x : Tile). length x.bytes) it.tile) ∙ it.size in
    let es : List Extent = extents_from e 0 (place + n) (drop n was) in
    let front : extents_from e 0 place was ≡ extent_of e 0 tile ∷ es =
    front_then_rest e 0 place was some
    ∙ (ap (λ (x : Tile). in_front (extent_of e 0 x) (extents_from e 0 (place + length x.bytes) (drop (length x.bytes) was))) at
    ∙ (ap (λ (k : ℕ). in_front (extent_of e 0 tile) (extents_from e 0 (place + k) (drop k was))) size
    ∙ in_front_node what (0 + place) (length tile.bytes) es)) in
    let sound : is_damaged what ≡ false = subst (λ (x : Tile). is_damaged (seen_of e x.bytes) ≡ false) it.tile whole.0.sound in
    let passed : is_passed (Tiled what) ≡ true = ap not sound in
    let behind : drop left (drop n was) ≡ erased (length (drop n was) - left) =
    drop-drop left n was ∙ (ap (λ (k : ℕ). drop k was) (sym m_is) ∙ (clear ∙ ap erased (omega (arith, length-drop n was, m_is)))) in
    let later : clear_last es ≡ Some (place + n + left) =
    passes e (place + n) left (drop n was) ts after (omega (arith, length-drop n was, words, it.words, it.within)) it.later whole.1 refl behind
    (omega (arith, length-drop n was, m_is, within)) in
    let there : place + n + left ≡ place + m = omega (arith, m_is) in
    ap clear_last front ∙ (rw passed later ∙ ap (λ (k : ℕ). Some k) there)

rest_is_given : (e : Endian) (size : ℕ) (block : List ℕ) (at : ℕ) → length block % 4 ≡ 0 → IsRest e size block at → rest_of e size block ≡ Some at
rest_is_given e size block at words rest =
    let here : 0 + at ≡ at = omega arith in
    rw rest.begun (passes e 0 at block rest.before rest.after words rest.tiles rest.whole rest.begins rest.clear rest.within ∙ ap (λ (k : ℕ). Some k) here)

pub rest_is_decided : RestIsDecided
rest_is_decided e size block at words = (λ is. rest_is_found e size block at is, λ rest. rest_is_given e size block at words rest)

one_some : (a b : ℕ) → Some a ≡ Some b → a ≡ b
one_some a b same = cc

pub rest_is_one : RestIsOne
rest_is_one e size block a b words first second =
    one_some a b (sym (rest_is_given e size block a words first) ∙ rest_is_given e size block b words second)
