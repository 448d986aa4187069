-- What the extents of a block are together.
use Rattle.std.proofs.Common.{◌≡◌, ℕ, zero, suc, ◌+◌, ◌-◌, ◌*◌, ◌%◌, ◌<◌, ◌≤◌, Bool, true, false, List, [], ◌∷◌, ◌++◌, length, drop, take, map, arith, refl, ap, sym, ◌∙◌, subst, ⊎_elim, length-drop, length-take, length-take-le}
use Rattle.std.specs.Prelude.{sum_by, ◌==◌, if◌then◌else◌}
use Rattle.std.specs.List.{list_all}
use Rattle.std.proofs.lemmas.Bool.{cond-true, cond-false, cases_Bool, cond_both, leb-true}
use Rattle.std.proofs.lemmas.List.{drop-drop}
use Rattle.std.proofs.lemmas.List.Sums.{sum_by-cons}
use Rattle.jnode.specs.declared.order.Endian.{Endian}
use Rattle.jnode.specs.declared.node.Seen.{Seen}
use Rattle.jnode.specs.declared.node.Seen.TheVariants as seen
use Rattle.jnode.specs.declared.node.Dirent.{Dirent}
use Rattle.jnode.specs.Header.{magic_of, totlen_of}
use Rattle.jnode.specs.Reading.{tile_of, name_of, nsize_of}
use Rattle.jnode.proofs.HeaderLemmas.{good_found}
use Rattle.jnode.proofs.ReadingLemmas.{read_entry}
use Rattle.flashbase.specs.Bytes.{pad4_of}
use Rattle.jscan.specs.Tiling.{Tile, tile_at, tiling_from, tiling}
use Rattle.jscan.specs.Extents.{class_of, other_magic, extent_of, is_one_run, in_front, runs_joined, extents_from, extents}
use Rattle.jscan.specs.Laws.{MakeUp, IsNodeAt}
use Rattle.jscan.specs.declared.extent.ExtentKind.{ExtentKind}
use Rattle.jscan.specs.declared.extent.ExtentKind.TheVariants.{Tiled, Erased, OtherOrder, Dirt}
use Rattle.jscan.specs.declared.extent.Extent.{Extent}
use Rattle.jscan.proofs.PaddingLemmas.{pad4_fits}
use Rattle.jscan.proofs.ExtentLemmas.{one_run_same}
use Rattle.jscan.proofs.TileLemmas.{tile_cases, tile_place, tile_some, tile_then_rest}

abbrev len_sum : List Extent → ℕ
len_sum = sum_by (λ s. s.len)

heads : (x y : Extent) (xs ys : List Extent) → (x ∷ xs) ≡ (y ∷ ys) → (x ≡ y) × (xs ≡ ys)
heads x y xs ys e = (cc, cc)

abbrev joined : Extent → Extent → Extent
joined s t = record { addr = s.addr; len = s.len + t.len; kind = s.kind }

-- ---- extents one after the other

-- the first of these does not go on with the run before it
pub Apart : ExtentKind → List Extent → Type 0
Apart kind [] = Unit {0}
Apart kind (t ∷ ts) = is_one_run kind t.kind ≡ false

-- The extents fall into place from an address on, make up what is left, and no two go on as one.
unfoldable pub Falls : ℕ → ℕ → List Extent → Type 0
Falls addr left [] = left ≡ 0
Falls addr left (s ∷ ss) = (s.addr ≡ addr) × (0 < s.len) × (s.len ≤ left) × Apart s.kind ss × Falls (addr + s.len) (left - s.len) ss

in_front_falls : (s : Extent) (addr left : ℕ) (ss : List Extent) → s.addr ≡ addr → 0 < s.len → s.len ≤ left
    → Falls (addr + s.len) (left - s.len) ss → Falls addr left (in_front s ss)
unfolding Falls Apart
in_front_falls s addr left [] here some within falls = (here, some, within, tt, falls)
in_front_falls s addr left (t ∷ ts) here some within falls =
    ⊎_elim
    (λ one. subst (Falls addr left) (sym (cond-true (is_one_run s.kind t.kind) (joined s t ∷ ts) (s ∷ t ∷ ts) one)) (
      here,
      omega arith,
      omega (arith, falls.2),
      subst (λ (kind : ExtentKind). Apart kind ts) (sym (one_run_same s.kind t.kind one)) falls.3,
      subst (λ (n : ℕ). Falls (addr + (s.len + t.len)) n ts) (omega arith)
          (subst (λ (n : ℕ). Falls n ((left - s.len) - t.len) ts) (omega arith) falls.4),
    ))
    (λ two. subst (Falls addr left) (sym (cond-false (is_one_run s.kind t.kind) (joined s t ∷ ts) (s ∷ t ∷ ts) two))
    (here, some, within, two, falls))
    (cases_Bool (is_one_run s.kind t.kind))

-- the first tile's extent in front of the extents after it
pub front_then_rest : (e : Endian) (start place : ℕ) (rest : List ℕ) → 0 < length rest
    → extents_from e start place rest ≡ in_front (extent_of e start (tile_at e place rest))
    (extents_from e start (place + length (tile_at e place rest).bytes) (drop (length (tile_at e place rest).bytes) rest))
unfolding extents_from
front_then_rest e start place rest some = ap (λ (ts : List Tile). runs_joined (map (extent_of e start) ts)) (tile_then_rest e place rest some)

pub no_extents : (e : Endian) (start place : ℕ) → extents_from e start place [] ≡ []
unfolding extents_from
no_extents e start place = refl

pub tile_within : (e : Endian) (place : ℕ) (rest : List ℕ) → length (tile_at e place rest).bytes ≤ length rest
tile_within e place rest =
    tile_cases e place rest (λ tile. length tile.bytes ≤ length rest)
    (λ good. omega (arith, length-take (pad4_of (totlen_of e rest)) rest))
    (λ bad long. omega (arith, length-take 4 rest))
    (λ bad short. omega arith)

pub falls_from : (n : ℕ) (e : Endian) (start place : ℕ) (rest : List ℕ) → length rest ≤ n
    → Falls (start + place) (length rest) (extents_from e start place rest)
unfolding Falls
falls_from n e start place [] h = subst (Falls (start + place) 0) (sym (no_extents e start place)) refl
falls_from zero e start place (b ∷ bs) h = absurd (omega arith)
falls_from (suc n) e start place (b ∷ bs) h =
    let rest : List ℕ = b ∷ bs in
    let tile = tile_at e place rest in
    let some : 0 < length tile.bytes = tile_some e place rest (omega arith) in
    let within = tile_within e place rest in
    let left = length-drop (length tile.bytes) rest in
    let next = falls_from n e start (place + length tile.bytes) (drop (length tile.bytes) rest) (omega (arith, left)) in
    subst (Falls (start + place) (length rest)) (sym (front_then_rest e start place rest (omega arith)))
    (in_front_falls (extent_of e start tile) (start + place) (length rest)
    (extents_from e start (place + length tile.bytes) (drop (length tile.bytes) rest))
    (ap (λ (p : ℕ). start + p) (tile_place e place rest)) some within
    (subst (λ (k : ℕ). Falls ((start + place) + length tile.bytes) k (extents_from e start (place + length tile.bytes) (drop (length tile.bytes) rest))) left
    (subst (λ (k : ℕ). Falls k (length (drop (length tile.bytes) rest)) (extents_from e start (place + length tile.bytes) (drop (length tile.bytes) rest))) (omega arith) next)))

apart_from : (addr left : ℕ) (ss before after : List Extent) (s t : Extent) → Falls addr left ss → ss ≡ before ++ s ∷ t ∷ after → is_one_run s.kind t.kind ≡ false
unfolding Falls Apart
apart_from addr left [] [] after s t falls same = cc
apart_from addr left [] (b ∷ bs) after s t falls same = cc
apart_from addr left (u ∷ us) [] after s t falls same =
    let parts = heads _ _ _ _ same in
    subst (λ (x : Extent). is_one_run x.kind t.kind ≡ false) parts.0 (subst (Apart u.kind) parts.1 falls.3)
apart_from addr left (u ∷ us) (b ∷ bs) after s t falls same =
    apart_from (addr + u.len) (left - u.len) us bs after s t falls.4 (heads _ _ _ _ same).1

pub runs_are_longest : (e : Endian) (start : ℕ) (block : List ℕ) (before after : List Extent) (s t : Extent)
    → extents e start block ≡ before ++ s ∷ t ∷ after → is_one_run s.kind t.kind ≡ false
runs_are_longest e start block before after s t same =
    apart_from (start + 0) (length block) (extents e start block) before after s t (falls_from (length block) e start 0 block (omega arith)) same

placed_from : (addr left : ℕ) (ss before after : List Extent) (s : Extent) → Falls addr left ss → ss ≡ before ++ s ∷ after
    → (s.addr ≡ addr + len_sum before) × (0 < s.len)
unfolding Falls
placed_from addr left [] [] after s falls same = absurd (cc)
placed_from addr left [] (b ∷ bs) after s falls same = absurd (cc)
placed_from addr left (u ∷ us) [] after s falls same =
    let parts = heads _ _ _ _ same in
    let is = ap (λ (x : Extent). x.addr) parts.0 in
    let size = ap (λ (x : Extent). x.len) parts.0 in
    (omega (arith, falls.0), omega (arith, falls.1))
placed_from addr left (u ∷ us) (b ∷ bs) after s falls same =
    let parts = heads _ _ _ _ same in
    let size = ap (λ (x : Extent). x.len) parts.0 in
    let next = placed_from (addr + u.len) (left - u.len) us bs after s falls.4 parts.1 in
    (omega (arith, next.0, sum_by-cons (λ (x : Extent). x.len) b bs), next.1)

sum_from : (addr left : ℕ) (ss : List Extent) → Falls addr left ss → len_sum ss ≡ left
unfolding Falls
sum_from addr left [] falls = sym falls
sum_from addr left (s ∷ ss) falls =
    omega (arith, falls.2, sum_by-cons (λ (x : Extent). x.len) s ss, sum_from (addr + s.len) (left - s.len) ss falls.4)

pub extents_make_up : (e : Endian) (start : ℕ) (block : List ℕ) → MakeUp start block (extents e start block)
extents_make_up e start block =
    let falls = falls_from (length block) e start 0 block (omega arith) in
    record {
      each = λ before after s same.
          let placed = placed_from (start + 0) (length block) (extents e start block) before after s falls same in
          (omega (arith, placed.0), placed.1);
      whole = sum_from (start + 0) (length block) (extents e start block) falls;
    }

-- ---- each has a word or more

pub tile_words : (e : Endian) (place : ℕ) (rest : List ℕ) → length rest % 4 ≡ 0 → 0 < length rest
    → (4 ≤ length (tile_at e place rest).bytes) × (length (tile_at e place rest).bytes % 4 ≡ 0)
tile_words e place rest words some =
    tile_cases e place rest (λ tile. (4 ≤ length tile.bytes) × (length tile.bytes % 4 ≡ 0))
    (λ good.
    let is = good_found e rest good in
    let fits = pad4_fits (totlen_of e rest) (length rest) words is.within in
    let taken = length-take-le (pad4_of (totlen_of e rest)) rest fits.0 in
    (omega (arith, is.least, fits.1, taken), omega (arith, fits.2, taken)))
    (λ bad long.
    let taken = length-take-le 4 rest (omega (arith, leb-true 12 (length rest) long)) in
    (omega (arith, taken), omega (arith, taken)))
    (λ bad short. (omega arith, words))

tiles_few_from : (n : ℕ) (e : Endian) (place : ℕ) (rest : List ℕ) → length rest ≤ n → length rest % 4 ≡ 0 → 4 * length (tiling_from e place 0 rest) ≤ length rest
tiles_few_from n e place [] h words = omega arith
tiles_few_from zero e place (b ∷ bs) h words = absurd (omega arith)
tiles_few_from (suc n) e place (b ∷ bs) h words =
    let rest : List ℕ = b ∷ bs in
    let tile = tile_at e place rest in
    let size = tile_words e place rest words (omega arith) in
    let within = tile_within e place rest in
    let left = length-drop (length tile.bytes) rest in
    let tiles = tiling_from e (place + length tile.bytes) 0 (drop (length tile.bytes) rest) in
    let next : 4 * length tiles ≤ length (drop (length tile.bytes) rest) =
    tiles_few_from n e (place + length tile.bytes) (drop (length tile.bytes) rest) (omega (arith, left, size.0)) (omega (arith, left, size.1, within)) in
    let more : length (tiling_from e place 0 rest) ≡ suc (length tiles) = ap length (tile_then_rest e place rest (omega arith)) in
    omega (arith, next, left, within, size.0, more)

pub tiles_are_few : (e : Endian) (block : List ℕ) → length block % 4 ≡ 0 → 4 * length (tiling e block) ≤ length block
tiles_are_few e block words = tiles_few_from (length block) e 0 block (omega arith) words

in_front_more : (s : Extent) (ss : List Extent) → length (in_front s ss) ≤ length ss + 1
in_front_more s [] = omega arith
in_front_more s (t ∷ ts) =
    ⊎_elim
    (λ one. subst (λ (l : List Extent). length l ≤ length (t ∷ ts) + 1) (sym (cond-true (is_one_run s.kind t.kind) (joined s t ∷ ts) (s ∷ t ∷ ts) one)) (omega arith))
    (λ two. subst (λ (l : List Extent). length l ≤ length (t ∷ ts) + 1) (sym (cond-false (is_one_run s.kind t.kind) (joined s t ∷ ts) (s ∷ t ∷ ts) two)) (omega arith))
    (cases_Bool (is_one_run s.kind t.kind))

few_from : (n : ℕ) (e : Endian) (start place : ℕ) (rest : List ℕ) → length rest ≤ n → length rest % 4 ≡ 0
    → 4 * length (extents_from e start place rest) ≤ length rest
few_from n e start place [] h words = omega (arith, ap length (no_extents e start place))
few_from zero e start place (b ∷ bs) h words = absurd (omega arith)
few_from (suc n) e start place (b ∷ bs) h words =
    let rest : List ℕ = b ∷ bs in
    let tile = tile_at e place rest in
    let size = tile_words e place rest words (omega arith) in
    let within = tile_within e place rest in
    let left = length-drop (length tile.bytes) rest in
    let ss = extents_from e start (place + length tile.bytes) (drop (length tile.bytes) rest) in
    let next : 4 * length ss ≤ length (drop (length tile.bytes) rest) =
    few_from n e start (place + length tile.bytes) (drop (length tile.bytes) rest) (omega (arith, left, size.0)) (omega (arith, left, size.1, within)) in
    omega (arith, next, left, within, size.0, in_front_more (extent_of e start tile) ss, ap length (front_then_rest e start place rest (omega arith)))

pub extents_are_few : (e : Endian) (start : ℕ) (block : List ℕ) → length block % 4 ≡ 0 → 4 * length (extents e start block) ≤ length block
extents_are_few e start block words = few_from (length block) e start 0 block (omega arith) words

-- ---- a node among them

-- each node's extent is the tile of a good header there
Reads : Endian → List ℕ → List Extent → Type 0
Reads e rest [] = Unit {0}
Reads e rest (s ∷ ss) = ((what : Seen) → s.kind ≡ Tiled what → IsNodeAt e rest s what) × Reads e (drop s.len rest) ss

node_no_run : (what : Seen) (kind : ExtentKind) → is_one_run (Tiled what) kind ≡ false
node_no_run what kind = refl

in_front_reads : (e : Endian) (rest : List ℕ) (s : Extent) (ss : List Extent) → ((what : Seen) → s.kind ≡ Tiled what → IsNodeAt e rest s what)
    → Reads e (drop s.len rest) ss → Reads e rest (in_front s ss)
unfolding Reads
in_front_reads e rest s [] node reads = (node, reads)
in_front_reads e rest s (t ∷ ts) node reads =
    ⊎_elim
    (λ one. subst (Reads e rest) (sym (cond-true (is_one_run s.kind t.kind) (joined s t ∷ ts) (s ∷ t ∷ ts) one)) (
      (λ what same.
          let bad : false ≡ true = sym (node_no_run what t.kind) ∙ ap (λ (l : ExtentKind). is_one_run l t.kind) (sym same) ∙ one in
          absurd (cc)),
      subst (λ (l : List ℕ). Reads e l ts) (drop-drop t.len s.len rest) reads.1,
    ))
    (λ two. subst (Reads e rest) (sym (cond-false (is_one_run s.kind t.kind) (joined s t ∷ ts) (s ∷ t ∷ ts) two)) (node, reads))
    (cases_Bool (is_one_run s.kind t.kind))

is_node : ExtentKind → Bool
is_node (Tiled what) = true
is_node Erased = false
is_node OtherOrder = false
is_node Dirt = false

class_no_node : (e : Endian) (bytes : List ℕ) (what : Seen) → ¬ (class_of e bytes ≡ Tiled what)
unfolding class_of is_node
class_no_node e bytes what same =
    let no_node : is_node (class_of e bytes) ≡ false =
    cond_both (list_all (λ b. b == 0xFF) bytes) Erased (if magic_of e bytes == other_magic then OtherOrder else Dirt) (λ (kind : ExtentKind). is_node kind ≡ false)
    (λ h. refl)
    (λ h. cond_both (magic_of e bytes == other_magic) OtherOrder Dirt (λ (kind : ExtentKind). is_node kind ≡ false) (λ i. refl) (λ i. refl)) in
    let bad : true ≡ false = ap is_node (sym same) ∙ no_node in cc

front_node : (e : Endian) (start place : ℕ) (rest : List ℕ) → length rest % 4 ≡ 0
    → (what : Seen) → (extent_of e start (tile_at e place rest)).kind ≡ Tiled what → IsNodeAt e rest (extent_of e start (tile_at e place rest)) what
front_node e start place rest words =
    tile_cases e place rest (λ tile. (what : Seen) → (extent_of e start tile).kind ≡ Tiled what → IsNodeAt e rest (extent_of e start tile) what)
    (λ good what same. record { good = good_found e rest good; words = words; long = refl; seen = cc })
    (λ bad long what same. absurd (class_no_node e (take 4 rest) what same))
    (λ bad short what same. absurd (class_no_node e rest what same))

reads_from : (n : ℕ) (e : Endian) (start place : ℕ) (rest : List ℕ) → length rest ≤ n → length rest % 4 ≡ 0 → Reads e rest (extents_from e start place rest)
unfolding Reads
reads_from n e start place [] h words = subst (Reads e []) (sym (no_extents e start place)) tt
reads_from zero e start place (b ∷ bs) h words = absurd (omega arith)
reads_from (suc n) e start place (b ∷ bs) h words =
    let rest : List ℕ = b ∷ bs in
    let tile = tile_at e place rest in
    let size = tile_words e place rest words (omega arith) in
    let within = tile_within e place rest in
    let left = length-drop (length tile.bytes) rest in
    let ss = extents_from e start (place + length tile.bytes) (drop (length tile.bytes) rest) in
    let next : Reads e (drop (length tile.bytes) rest) ss =
    reads_from n e start (place + length tile.bytes) (drop (length tile.bytes) rest) (omega (arith, left, size.0)) (omega (arith, left, size.1, within)) in
    subst (Reads e rest) (sym (front_then_rest e start place rest (omega arith)))
    (in_front_reads e rest (extent_of e start tile) ss (front_node e start place rest words) next)

reads_at : (e : Endian) (rest : List ℕ) (ss before after : List Extent) (s : Extent) (what : Seen) → Reads e rest ss → ss ≡ before ++ s ∷ after
    → s.kind ≡ Tiled what → IsNodeAt e (drop (len_sum before) rest) s what
unfolding Reads
reads_at e rest [] [] after s what reads same kind = absurd (cc)
reads_at e rest [] (b ∷ bs) after s what reads same kind = absurd (cc)
reads_at e rest (u ∷ us) [] after s what reads same kind =
    let is = (heads _ _ _ _ same).0 in
    subst (λ (x : Extent). IsNodeAt e rest x what) is (reads.0 what (ap (λ (x : Extent). x.kind) is ∙ kind))
reads_at e rest (u ∷ us) (b ∷ bs) after s what reads same kind =
    let parts = heads _ _ _ _ same in
    let next = reads_at e (drop u.len rest) us bs after s what reads.1 parts.1 kind in
    let far : drop (len_sum bs) (drop u.len rest) ≡ drop (len_sum (b ∷ bs)) rest =
    drop-drop (len_sum bs) u.len rest ∙ ap (λ (n : ℕ). drop n rest)
    (ap (λ (x : Extent). x.len + len_sum bs) parts.0 ∙ sym (sum_by-cons (λ (x : Extent). x.len) b bs)) in
    subst (λ (l : List ℕ). IsNodeAt e l s what) far next

pub nodes_are_seen : (e : Endian) (start : ℕ) (block : List ℕ) (before after : List Extent) (s : Extent) (what : Seen) → length block % 4 ≡ 0
    → extents e start block ≡ before ++ s ∷ after → s.kind ≡ Tiled what → IsNodeAt e (drop (len_sum before) block) s what
nodes_are_seen e start block before after s what words same kind =
    reads_at e block (extents e start block) before after s what (reads_from (length block) e start 0 block (omega arith) words) same kind

pub names_are_short : (e : Endian) (start : ℕ) (block : List ℕ) (before after : List Extent) (s : Extent) (entry : Dirent) → length block % 4 ≡ 0
    → extents e start block ≡ before ++ s ∷ after → s.kind ≡ Tiled (seen.Entry entry) → length entry.name ≤ 254
names_are_short e start block before after s entry words same kind =
    let node = nodes_are_seen e start block before after s (seen.Entry entry) words same kind in
    let rest = drop (len_sum before) block in
    let reads = (read_entry e rest (seen.Entry entry) node.good node.words node.seen entry).0 refl in
    let name : entry.name ≡ name_of (tile_of e rest) = ap (λ (d : Dirent). d.name) reads.fields in
    omega (arith, reads.name_most, ap length name, length-take (nsize_of (tile_of e rest)) (drop 40 (tile_of e rest)))
