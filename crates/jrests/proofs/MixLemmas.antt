-- An image some of whose blocks were written: it has what was in each, and what was written there.
use Rattle.std.proofs.Common.{◌≡◌, ℕ, zero, suc, ◌+◌, ◌*◌, ◌<◌, ◌≤◌, Bool, List, [], ◌∷◌, ◌++◌, length, map, filter_map, refl, sym, ap, ap₂, subst, ◌∙◌, arith, inl, inr, is_some, Contains, append_assoc, ⊎_elim}
use Rattle.std.specs.Prelude.{flat_map, IsTrue, ◌||◌}
use Rattle.std.specs.List.{AllByRecursion, cons_option, list_any}
use Rattle.std.proofs.lemmas.Bool.{cases_lt}
use Rattle.std.proofs.lemmas.List.Elements.{filter-append}
use Rattle.flashbase.specs.Lists.{below}
use Rattle.flashbase.proofs.MemberLemmas.{Contains-none, Contains-cases}
use Rattle.jnode.specs.declared.node.CompressedNode.{CompressedNode}
use Rattle.jnode.specs.declared.node.Seen.{Seen}
use Rattle.jnode.specs.declared.node.Seen.TheVariants as seen
use Rattle.jnode.specs.declared.order.Endian.{Endian}
use Rattle.jscan.specs.Image.{is_block_size, block_of}
use Rattle.jscan.specs.Scans.{is_read_only}
use Rattle.jexpand.specs.Expanded.{expanded_nodes, unpacked_bytes}
use Rattle.jview.specs.Through.{first_fault}
use Rattle.jrow.specs.Merging.{Interleaves}
use Rattle.jrow.proofs.BlockLemmas.{glimpses_of, image_glimpsed}
use Rattle.jrow.proofs.GlimpseLemmas.{Glimpse, block_glimpses, node_glimpsed, content_glimpsed, is_refused, is_ban}
use Rattle.jrow.proofs.MergeLemmas.{merged_left, merged_right}
use Rattle.jrests.proofs.RunLemmas.{run, below_run}
use Rattle.jrests.proofs.OpenedLemmas.{is_fine, fine_of, fine_glimpses, block_fine}

-- ---- what is not fine gives nothing

record FineGives (size : ℕ) (gs : List Glimpse) : Type 0 where
  nodes : filter_map node_glimpsed gs ≡ filter_map node_glimpsed (fine_of gs)
  contents : flat_map content_glimpsed gs ≡ flat_map content_glimpsed (fine_of gs)
  refused : list_any (is_refused size) gs ≡ list_any (is_refused size) (fine_of gs)
  bans : list_any is_ban gs ≡ list_any is_ban (fine_of gs)

one_gives : (size : ℕ) (s : Seen) (c : CompressedNode) (gs : List Glimpse) → FineGives size gs → FineGives size ((s, c) ∷ gs)
one_gives size seen.Marker c gs later = record { nodes = later.nodes; contents = later.contents; refused = later.refused; bans = later.bans }
one_gives size (seen.Damaged which) c gs later = record { nodes = later.nodes; contents = later.contents; refused = later.refused; bans = later.bans }
one_gives size s c gs later =
    let g : Glimpse = (s, c) in
    record {
      nodes = ap (cons_option (node_glimpsed g)) later.nodes;
      contents = ap (λ (xs : List ℕ). content_glimpsed g ++ xs) later.contents;
      refused = ap (λ (b : Bool). is_refused size g || b) later.refused;
      bans = ap (λ (b : Bool). is_ban g || b) later.bans;
    }

fine_gives : (size : ℕ) (gs : List Glimpse) → FineGives size gs
fine_gives size [] = record { nodes = refl; contents = refl; refused = refl; bans = refl }
fine_gives size (g ∷ gs) = one_gives size g.0 g.1 gs (fine_gives size gs)

-- ---- an image, block by block

abbrev pub fine_in : Endian → ℕ → List ℕ → ℕ → List Glimpse
fine_in e size image b = fine_glimpses e (block_of size image b)

fine_blocks : (e : Endian) (size : ℕ) (image : List ℕ) (bs : List ℕ) → fine_of (glimpses_of e size image bs) ≡ flat_map (fine_in e size image) bs
fine_blocks e size image [] = refl
fine_blocks e size image (b ∷ bs) =
    filter-append is_fine (block_glimpses e (block_of size image b)) (glimpses_of e size image bs)
    ∙ ap₂ (λ (xs ys : List Glimpse). xs ++ ys) (block_fine e (block_of size image b)) (fine_blocks e size image bs)

-- what is seen of an image is seen of these
pub record IsSeenIn (e : Endian) (size : ℕ) (image : List ℕ) (gs : List Glimpse) : Type 0 where
  pub nodes : expanded_nodes e size image ≡ filter_map node_glimpsed gs
  pub contents : unpacked_bytes e size image ≡ flat_map content_glimpsed gs
  pub refused : is_some (first_fault e size image) ≡ list_any (is_refused size) gs
  pub bans : is_read_only e size image ≡ list_any is_ban gs

pub image_fine : (e : Endian) (size blocks : ℕ) (image : List ℕ) → IsTrue (is_block_size size) → length image ≤ blocks * size
    → IsSeenIn e size image (flat_map (fine_in e size image) (run 0 blocks))
image_fine e size blocks image size_is within =
    let all = image_glimpsed e size blocks image size_is within in
    let gs : List Glimpse = glimpses_of e size image (below blocks) in
    let gives = fine_gives size gs in
    let is : fine_of gs ≡ flat_map (fine_in e size image) (run 0 blocks) =
    fine_blocks e size image (below blocks) ∙ ap (flat_map (fine_in e size image)) (below_run blocks) in
    record {
      nodes = all.nodes ∙ (gives.nodes ∙ ap (filter_map node_glimpsed) is);
      contents = all.contents ∙ (gives.contents ∙ ap (flat_map content_glimpsed) is);
      refused = all.refused ∙ (gives.refused ∙ ap (list_any (is_refused size)) is);
      bans = all.bans ∙ (gives.bans ∙ ap (list_any is_ban) is);
    }

-- ---- blocks with more in some of them

-- what came to some blocks
abbrev pub News : Type 0
News = List (ℕ × List Glimpse)

abbrev pub AreNewUp : ℕ → ℕ → News → Type 0
AreNewUp lo hi [] = Unit {0}
AreNewUp lo hi (x ∷ news) = (lo ≤ x.0) × (x.0 < hi) × AreNewUp (x.0 + 1) hi news

abbrev pub AreAdded : (ℕ → List Glimpse) → (ℕ → List Glimpse) → News → Type 0
AreAdded was now news = AllByRecursion (λ (x : ℕ × List Glimpse). now x.0 ≡ was x.0 ++ x.1) news

not_below : (lo hi b : ℕ) (news : News) → AreNewUp lo hi news → b < lo → Contains (map (λ x. x.0) news) b → ⊥
not_below lo hi b [] up less has = Contains-none b has
not_below lo hi b (x ∷ news) up less has =
    ⊎_elim
    (λ (here : x.0 ≡ b). omega (arith, here, up.0, less))
    (λ later. not_below (x.0 + 1) hi b news up.2 (omega (arith, up.0, less)) later)
    (Contains-cases x.0 (map (λ y. y.0) news) b has)

up_from : (lo hi : ℕ) (x : ℕ × List Glimpse) (news : News) → lo < x.0 → AreNewUp lo hi (x ∷ news) → AreNewUp (suc lo) hi (x ∷ news)
up_from lo hi x news less up = (omega (arith, less), up.1, up.2)

pub mixed : (was now : ℕ → List Glimpse) (lo n hi : ℕ) (news : News) → lo + n ≡ hi → AreNewUp lo hi news → AreAdded was now news
    → ((b : ℕ) → lo ≤ b → (Contains (map (λ x. x.0) news) b → ⊥) → now b ≡ was b)
    → Interleaves (flat_map was (run lo n)) (flat_map (λ x. x.1) news) (flat_map now (run lo n))
mixed was now lo zero hi [] sum up added same = (refl, refl)
mixed was now lo zero hi (x ∷ news) sum up added same = absurd (omega (arith, sum, up.0, up.1))
mixed was now lo (suc n) hi [] sum up added same =
    let here : now lo ≡ was lo = same lo (omega arith) (λ has. Contains-none lo has) in
    let later = mixed was now (suc lo) n hi [] (omega (arith, sum)) tt tt (λ b low out. same b (omega (arith, low)) out) in
    subst (λ (l : List Glimpse). Interleaves (was lo ++ flat_map was (run (suc lo) n)) [] (l ++ flat_map now (run (suc lo) n))) (sym here)
    (merged_left (was lo) (flat_map was (run (suc lo) n)) [] (flat_map now (run (suc lo) n)) later)
mixed was now lo (suc n) hi (x ∷ news) sum up added same = elim (cases_lt lo x.0) [
  | inl above ↦
      let fs : List Glimpse = flat_map (λ y. y.1) (x ∷ news) in
      let here : now lo ≡ was lo = same lo (omega arith) (λ has. not_below (suc lo) hi lo (x ∷ news) (up_from lo hi x news above up) (omega arith) has) in
      let later = mixed was now (suc lo) n hi (x ∷ news) (omega (arith, sum)) (up_from lo hi x news above up) added (λ b low out. same b (omega (arith, low)) out) in
      subst (λ (l : List Glimpse). Interleaves (was lo ++ flat_map was (run (suc lo) n)) fs (l ++ flat_map now (run (suc lo) n))) (sym here)
      (merged_left (was lo) (flat_map was (run (suc lo) n)) fs (flat_map now (run (suc lo) n)) later)
  | inr not ↦
      let at : x.0 ≡ lo = omega (arith, not, up.0) in
      let ws : List Glimpse = flat_map was (run (suc lo) n) in
      let ns : List Glimpse = flat_map now (run (suc lo) n) in
      let fs : List Glimpse = flat_map (λ y. y.1) news in
      let here : now lo ≡ was lo ++ x.1 = subst (λ (b : ℕ). now b ≡ was b ++ x.1) at added.0 in
      let from : x.0 + 1 ≡ suc lo = omega (arith, at) in
      let later : Interleaves ws fs ns =
      mixed was now (suc lo) n hi news (omega (arith, sum)) (subst (λ (b : ℕ). AreNewUp b hi news) from up.2) added.1
      (λ b low out. same b (omega (arith, low)) (λ has.
      ⊎_elim (λ (it : x.0 ≡ b). omega (arith, it, at, low)) (λ more. out more) (Contains-cases x.0 (map (λ y. y.0) news) b has))) in
      let all : now lo ++ ns ≡ was lo ++ (x.1 ++ ns) = ap (λ (l : List Glimpse). l ++ ns) here ∙ append_assoc (was lo) x.1 ns in
      subst (λ (l : List Glimpse). Interleaves (was lo ++ ws) (x.1 ++ fs) l) (sym all)
      (merged_left (was lo) ws (x.1 ++ fs) (x.1 ++ ns) (merged_right x.1 ws fs ns later))
]
