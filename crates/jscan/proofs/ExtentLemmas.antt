-- Runs: how they begin, go on and end.
use Rattle.std.proofs.Common.{◌≡◌, ℕ, zero, suc, ◌+◌, ◌-◌, ◌*◌, ◌/◌, ◌%◌, ◌<◌, ◌≤◌, true, false, leb, List, [], ◌∷◌, length, drop, take, map, arith, refl, ap, ap₂, sym, ◌∙◌, subst, min, max, ⊎_elim, inl, inr, ◌⊎◌, slice_index, length-take-le}
use Rattle.std.proofs.lemmas.Bool.{cond-true, cond-false, cases_Bool, leb-true, leb-false}
use Rattle.std.proofs.lemmas.List.{take_rest, drop-drop, get_or-drop}
use Rattle.jnode.specs.declared.order.Endian.{Endian}
use Rattle.jnode.specs.declared.order.Endian.TheVariants.{Little, Big}
use Rattle.jnode.specs.Order.{number_in}
use Rattle.jnode.specs.Header.{IsGood}
use Rattle.jnode.specs.Reading.{seen_of, tile_of}
use Rattle.jnode.specs.declared.header.Header.{Header}
use Rattle.jnode.specs.declared.node.Seen.{Seen}
use Rattle.jscan.specs.Tiling.{Tile}
use Rattle.jscan.specs.Extents.{class_of, extent_kind_of, extent_of, is_one_run, in_front, runs_joined, extents_from}
use Rattle.jscan.specs.Runs.{BeginsRun, IsExtent, EndsRun}
use Rattle.jscan.specs.declared.tiles.TileKind.{TileKind}
use Rattle.jscan.specs.declared.tiles.TileKind.TheVariants.{Node, Word, Rest}
use Rattle.jscan.specs.declared.extent.ExtentKind.{ExtentKind}
use Rattle.jscan.specs.declared.extent.ExtentKind.TheVariants.{Tiled, Erased, OtherOrder, Dirt}
use Rattle.jscan.specs.declared.extent.Extent.{Extent}
use Rattle.jscan.proofs.FrontLemmas.{IsFront, tiling_front, word_front}
use Rattle.jnode.proofs.HeaderLemmas.{good_again}
use Rattle.jscan.proofs.TileLemmas.{tile_good}

-- an extent of n bytes
abbrev pub at : ℕ → ℕ → ExtentKind → Extent
at addr n kind = record { addr = addr; len = n; kind = kind }

pub one_run_same : (a b : ExtentKind) → is_one_run a b ≡ true → a ≡ b
one_run_same Erased Erased h = refl
one_run_same OtherOrder OtherOrder h = refl
one_run_same Dirt Dirt h = refl
one_run_same a b h = cc

pub no_run_node : (kind : ExtentKind) (seen : Seen) → is_one_run kind (Tiled seen) ≡ false
no_run_node (Tiled s) seen = refl
no_run_node Erased seen = refl
no_run_node OtherOrder seen = refl
no_run_node Dirt seen = refl

-- two extents of one run in front of others are one
pub in_front_twice : (kind : ExtentKind) → is_one_run kind kind ≡ true → (addr there n m : ℕ) (ss : List Extent)
    → in_front (at addr n kind) (in_front (at there m kind) ss) ≡ in_front (at addr (n + m) kind) ss
in_front_twice kind same addr there n m [] = cond-true (is_one_run kind kind) _ _ same
in_front_twice kind same addr there n m (u ∷ us) =
    ⊎_elim
    (λ joined.
    ap (in_front (at addr n kind)) (cond-true (is_one_run kind u.kind) (at there (m + u.len) kind ∷ us) (at there m kind ∷ u ∷ us) joined)
    ∙ cond-true (is_one_run kind kind) (at addr (n + (m + u.len)) kind ∷ us) (at addr n kind ∷ at there (m + u.len) kind ∷ us) same
    ∙ ap (λ (k : ℕ). at addr k kind ∷ us) (omega arith)
    ∙ sym (cond-true (is_one_run kind u.kind) (at addr ((n + m) + u.len) kind ∷ us) (at addr (n + m) kind ∷ u ∷ us) joined))
    (λ apart.
    ap (in_front (at addr n kind)) (cond-false (is_one_run kind u.kind) (at there (m + u.len) kind ∷ us) (at there m kind ∷ u ∷ us) apart)
    ∙ cond-true (is_one_run kind kind) (at addr (n + m) kind ∷ u ∷ us) (at addr n kind ∷ at there m kind ∷ u ∷ us) same
    ∙ sym (cond-false (is_one_run kind u.kind) (at addr ((n + m) + u.len) kind ∷ us) (at addr (n + m) kind ∷ u ∷ us) apart))
    (cases_Bool (is_one_run kind u.kind))

-- two extents that are no run stay two
pub in_front_apart : (kind other : ExtentKind) → is_one_run kind other ≡ false → (addr there n m : ℕ) (ss : List Extent)
    → in_front (at addr n kind) (in_front (at there m other) ss) ≡ at addr n kind ∷ in_front (at there m other) ss
in_front_apart kind other apart addr there n m [] = cond-false (is_one_run kind other) _ _ apart
in_front_apart kind other apart addr there n m (u ∷ us) =
    ⊎_elim
    (λ joined.
    let inner = cond-true (is_one_run other u.kind) (at there (m + u.len) other ∷ us) (at there m other ∷ u ∷ us) joined in
    ap (in_front (at addr n kind)) inner
    ∙ cond-false (is_one_run kind other) (at addr (n + (m + u.len)) kind ∷ us) (at addr n kind ∷ at there (m + u.len) other ∷ us) apart
    ∙ ap (λ (l : List Extent). at addr n kind ∷ l) (sym inner))
    (λ split.
    let inner = cond-false (is_one_run other u.kind) (at there (m + u.len) other ∷ us) (at there m other ∷ u ∷ us) split in
    ap (in_front (at addr n kind)) inner
    ∙ cond-false (is_one_run kind other) (at addr (n + m) kind ∷ u ∷ us) (at addr n kind ∷ at there m other ∷ u ∷ us) apart
    ∙ ap (λ (l : List Extent). at addr n kind ∷ l) (sym inner))
    (cases_Bool (is_one_run other u.kind))

-- a node's tile is no part of a run
pub in_front_node : (seen : Seen) (addr n : ℕ) (ss : List Extent) → in_front (at addr n (Tiled seen)) ss ≡ at addr n (Tiled seen) ∷ ss
in_front_node seen addr n [] = refl
in_front_node seen addr n (u ∷ us) = refl

-- the first tile begins a run, if it is no node
pub begins_front : (e : Endian) (rest : List ℕ) (kind : TileKind) (n : ℕ) → IsFront e rest kind n → 0 < length rest → n ≤ length rest
    → BeginsRun e rest n (extent_kind_of e kind (take n rest))
unfolding BeginsRun extents_from
begins_front e rest kind n front some within start place =
    ap (λ (ts : List Tile). runs_joined (map (extent_of e start) ts)) (tiling_front e rest place n kind front some within)
    ∙ ap (λ (m : ℕ). in_front (at (start + place) m (extent_kind_of e kind (take n rest))) (extents_from e start (place + n) (drop n rest))) (length-take-le n rest within)

pub begins_word : (e : Endian) (rest : List ℕ) (kind : TileKind) (n : ℕ) → IsFront e rest kind n → 0 < length rest → n ≤ length rest
    → (kind ≡ Word) ⊎ (kind ≡ Rest) → BeginsRun e rest n (class_of e (take n rest))
begins_word e rest kind n front some within (inl word) =
    begins_front e rest Word n (subst (λ (k : TileKind). IsFront e rest k n) word front) some within
begins_word e rest kind n front some within (inr last) =
    begins_front e rest Rest n (subst (λ (k : TileKind). IsFront e rest k n) last front) some within

-- and with a node it is the first extent
pub node_extent : (e : Endian) (rest : List ℕ) (n : ℕ) (seen : Seen) → BeginsRun e rest n (Tiled seen) → IsExtent e rest n (Tiled seen)
unfolding BeginsRun IsExtent
node_extent e rest n seen begins start place =
    begins start place ∙ in_front_node seen (start + place) n (extents_from e start (place + n) (drop n rest))

-- a run goes on where what follows begins one of the same kind
pub goes_on : (e : Endian) (rest : List ℕ) (n m : ℕ) (kind : ExtentKind) → is_one_run kind kind ≡ true
    → BeginsRun e rest n kind → BeginsRun e (drop n rest) m kind → BeginsRun e rest (n + m) kind
unfolding BeginsRun
goes_on e rest n m kind same first next start place =
    let left : drop m (drop n rest) ≡ drop (n + m) rest = drop-drop m n rest in
    first start place
    ∙ ap (in_front (at (start + place) n kind)) (next start (place + n))
    ∙ in_front_twice kind same (start + place) (start + (place + n)) n m (extents_from e start ((place + n) + m) (drop m (drop n rest)))
    ∙ ap₂ (λ (p : ℕ) (l : List ℕ). in_front (at (start + place) (n + m) kind) (extents_from e start p l)) (omega arith) left

-- and is an extent where what follows ends it
pub run_extent : (e : Endian) (rest : List ℕ) (n : ℕ) (kind : ExtentKind) → BeginsRun e rest n kind → EndsRun e (drop n rest) kind → IsExtent e rest n kind
unfolding BeginsRun IsExtent EndsRun
run_extent e rest n kind begins ends start place = begins start place ∙ ends start (place + n) (start + place) n

pub ends_empty : (e : Endian) (kind : ExtentKind) (rest : List ℕ) → length rest ≡ 0 → EndsRun e rest kind
unfolding EndsRun extents_from
ends_empty e kind [] h = λ start place addr n. refl
ends_empty e kind (b ∷ bs) h = absurd (omega arith)

-- a tile of another kind ends a run
pub ends_front : (e : Endian) (rest : List ℕ) (n : ℕ) (kind other : ExtentKind) → BeginsRun e rest n other → is_one_run kind other ≡ false → EndsRun e rest kind
unfolding BeginsRun EndsRun
ends_front e rest n kind other begins apart start place addr m =
    let is = begins start place in
    ap (in_front (at addr m kind)) is
    ∙ in_front_apart kind other apart addr (start + place) m n (extents_from e start (place + n) (drop n rest))
    ∙ ap (λ (l : List Extent). at addr m kind ∷ l) (sym is)

-- one step of the iterator, which gives the extent of the next n bytes and leaves the others
pub extents_step : (e : Endian) (start place : ℕ) (rest left : List ℕ) (n m : ℕ) (kind : ExtentKind) → IsExtent e rest n kind
    → m ≡ length rest → left ≡ take (m - n) (drop n rest)
    → extents_from e start place rest ≡ at (start + place) n kind ∷ extents_from e start (place + n) left
unfolding IsExtent
extents_step e start place rest left n m kind extent size is =
    extent start place
    ∙ ap (λ (l : List ℕ). at (start + place) n kind ∷ extents_from e start (place + n) l)
    (sym (is ∙ ap (λ (k : ℕ). take (k - n) (drop n rest)) size ∙ take_rest rest n))

pub extents_end : (e : Endian) (start place : ℕ) (rest : List ℕ) → length rest ≡ 0 → extents_from e start place rest ≡ []
unfolding extents_from
extents_end e start place [] empty = refl
extents_end e start place (b ∷ rest) empty = absurd (omega arith)

-- where there is a node, the tile at the front is the node's whole tile
pub node_kind : (e : Endian) (rest : List ℕ) (header : Header) (n : ℕ) → IsGood e rest → IsFront e rest (Node header) n
    → seen_of e (tile_of e rest) ≡ seen_of e (take n rest)
node_kind e rest header n good front =
    ap (λ (t : Tile). seen_of e t.bytes) (sym (tile_good e 0 rest (good_again e rest good)) ∙ front 0)

-- ---- erased words

-- what begins with erased bytes has no good header
pub erased_no_header : (e : Endian) (xs : List ℕ) → ¬ IsGood e (255 ∷ 255 ∷ xs)
unfolding number_in
erased_no_header Little xs good = let bad : 65535 ≡ 0x1985 = good.right_magic in absurd (omega arith)
erased_no_header Big xs good = let bad : 65535 ≡ 0x1985 = good.right_magic in absurd (omega arith)

one_erased : (e : Endian) (a b c d : ℕ) (xs : List ℕ) → a ≡ 255 → b ≡ 255 → c ≡ 255 → d ≡ 255 → 8 ≤ length xs
    → BeginsRun e (a ∷ b ∷ c ∷ d ∷ xs) 4 Erased
unfolding class_of
one_erased e a b c d xs p q r s long =
    let rest : List ℕ = 255 ∷ 255 ∷ 255 ∷ 255 ∷ xs in
    let is : rest ≡ a ∷ b ∷ c ∷ d ∷ xs = cc in
    let begins : BeginsRun e rest 4 Erased =
    begins_front e rest Word 4 (word_front e rest (erased_no_header e (255 ∷ 255 ∷ xs)) (omega arith)) (omega arith) (omega arith) in
    subst (λ (l : List ℕ). BeginsRun e l 4 Erased) is begins

-- words of 0xFF, with eight bytes or more after them, begin an erased run
pub words_erased : (e : Endian) (k : ℕ) (rest : List ℕ) → 4 * suc k + 8 ≤ length rest
    → ((i : ℕ) → i < 4 * suc k → slice_index rest i ≡ 255) → BeginsRun e rest (4 * suc k) Erased
words_erased e zero (a ∷ b ∷ c ∷ d ∷ xs) long all =
    one_erased e a b c d xs (all 0 (omega arith)) (all 1 (omega arith)) (all 2 (omega arith)) (all 3 (omega arith)) (omega arith)
words_erased e (suc k) (a ∷ b ∷ c ∷ d ∷ xs) long all =
    let first = one_erased e a b c d xs (all 0 (omega arith)) (all 1 (omega arith)) (all 2 (omega arith)) (all 3 (omega arith)) (omega arith) in
    let next : BeginsRun e xs (4 * suc k) Erased = words_erased e k xs (omega arith)
    (λ i h. get_or-drop 4 (a ∷ b ∷ c ∷ d ∷ xs) i 0 ∙ all (4 + i) (omega arith)) in
    subst (λ (n : ℕ). BeginsRun e (a ∷ b ∷ c ∷ d ∷ xs) n Erased) (omega arith) (goes_on e (a ∷ b ∷ c ∷ d ∷ xs) 4 (4 * suc k) Erased refl first next)
words_erased e k [] long all = absurd (omega arith)
words_erased e k (a ∷ []) long all = absurd (omega arith)
words_erased e k (a ∷ b ∷ []) long all = absurd (omega arith)
words_erased e k (a ∷ b ∷ c ∷ []) long all = absurd (omega arith)

-- so does any number of bytes that is a multiple of 4
pub erased_begins : (e : Endian) (n : ℕ) (rest : List ℕ) → 0 < n → n % 4 ≡ 0 → n + 8 ≤ length rest
    → ((i : ℕ) → i < n → slice_index rest i ≡ 255) → BeginsRun e rest n Erased
erased_begins e n rest some words long all =
    let k = n / 4 - 1 in
    let is : 4 * suc k ≡ n = omega arith in
    subst (λ (m : ℕ). BeginsRun e rest m Erased) is (words_erased e k rest (omega arith) (λ i h. all i (omega arith)))

-- The words that the code takes: as many as run and room allow, and at least those that were known.
pub erased_most : (e : Endian) (rest : List ℕ) (begun run most n : ℕ) → length rest % 4 ≡ 0 → begun % 4 ≡ 0 → BeginsRun e rest begun Erased
    → ((i : ℕ) → i < run → slice_index rest i ≡ 255) → most ≡ length rest - 8 → n ≡ max (min (run / 4 * 4) most) begun → BeginsRun e rest n Erased
erased_most e rest begun run most n size words begins all room chosen =
    ⊎_elim
    (λ small.
    let least : min (run / 4 * 4) most ≤ begun = leb-true _ begun small in
    subst (λ (m : ℕ). BeginsRun e rest m Erased) (omega arith) begins)
    (λ large.
    let more : begun < min (run / 4 * 4) most = leb-false _ begun large in
    erased_begins e n rest (omega arith) (omega arith) (omega arith) (λ i h. all i (omega arith)))
    (cases_Bool (leb (min (run / 4 * 4) most) begun))
