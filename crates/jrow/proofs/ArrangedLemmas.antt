-- A flash with its blank blocks last: what it holds, and where writing goes on.
use Rattle.std.proofs.Common.{◌≡◌, ℕ, suc, ◌+◌, ◌-◌, ◌*◌, ◌<◌, ◌≤◌, Bool, true, false, cond, List, [], ◌∷◌, ◌++◌, length, get_or, filter_map, refl, sym, ap, subst, ◌∙◌, arith, inl, inr, Contains, is_some, length-append}
use Rattle.std.specs.Prelude.{filter, flat_map, not, IsTrue}
use Rattle.std.specs.List.{list_any}
use Rattle.std.proofs.lemmas.Bool.{cases_lt, true≢false}
use Rattle.std.proofs.lemmas.Grind.{flat_map-append}
use Rattle.std.proofs.lemmas.List.{get_or-append-add, get_or_append_left}
use Rattle.std.proofs.lemmas.List.Elements.{filter_map-append, Contains-get_or}
use Rattle.std.proofs.lemmas.List.Folds.{list_any-append}
use Rattle.flashbase.specs.Lists.{below}
use Rattle.flashbase.proofs.ListLemmas.{length-below}
use Rattle.flashbase.proofs.MemberLemmas.{Contains-filter_from}
use Rattle.jnode.specs.declared.node.NodeRef.{NodeRef}
use Rattle.jnode.specs.declared.order.Endian.{Endian}
use Rattle.jscan.specs.Blank.{is_blank, blank_from, AreBlankFrom}
use Rattle.jscan.specs.Image.{is_block_size, block_of}
use Rattle.jscan.proofs.BlankLemmas.{blank_from_is_least}
use Rattle.jmount.specs.Laws.{SameElements}
use Rattle.jexpand.specs.Expanded.{expanded_nodes, unpacked_bytes}
use Rattle.jview.specs.Through.{first_fault}
use Rattle.jrow.specs.Arranged.{taken_blocks, blank_last, arranged}
use Rattle.jrow.specs.Merging.{Interleaves}
use Rattle.jrow.specs.Row.{blank_blocks}
use Rattle.jrow.proofs.BlockLemmas.{glimpses_of, image_glimpsed, row_glimpsed}
use Rattle.jrow.proofs.GlimpseLemmas.{Glimpse, block_glimpses, node_glimpsed, content_glimpsed, is_refused}
use Rattle.jrow.proofs.MergeLemmas.{merged_left, merged_right, merged_taken, merged_length, merged_any}
use Rattle.jrow.proofs.OrderLemmas.{merged_same}
use Rattle.jrow.proofs.SideLemmas.{side_long, side_block}

-- ---- a list in two parts, by a test

pub parts_merge : {X : Type 0} (p : ℕ → Bool) (f : ℕ → List X) (ks : List ℕ)
    → Interleaves (flat_map f (filter (λ k. not (p k)) ks)) (flat_map f (filter p ks)) (flat_map f ks)
parts_merge p f [] = (refl, refl)
parts_merge {X} p f (k ∷ ks) = by_case (p k) (parts_merge p f ks)
  where
    by_case : (b : Bool) → Interleaves (flat_map f (filter (λ k. not (p k)) ks)) (flat_map f (filter p ks)) (flat_map f ks)
        → Interleaves (flat_map f (cond (not b) (k ∷ filter (λ k. not (p k)) ks) (filter (λ k. not (p k)) ks))) (flat_map f (cond b (k ∷ filter p ks) (filter p ks))) (f k ++ flat_map f ks)
    by_case true later = merged_right (f k) (flat_map f (filter (λ k. not (p k)) ks)) (flat_map f (filter p ks)) (flat_map f ks) later
    by_case false later = merged_left (f k) (flat_map f (filter (λ k. not (p k)) ks)) (flat_map f (filter p ks)) (flat_map f ks) later

parts_long : (p : ℕ → Bool) (ks : List ℕ) → length (filter (λ k. not (p k)) ks) + length (filter p ks) ≡ length ks
parts_long p [] = refl
parts_long p (k ∷ ks) = by_case (p k) (parts_long p ks)
  where
    by_case : (b : Bool) → length (filter (λ k. not (p k)) ks) + length (filter p ks) ≡ length ks
        → length (cond (not b) (k ∷ filter (λ k. not (p k)) ks) (filter (λ k. not (p k)) ks)) + length (cond b (k ∷ filter p ks) (filter p ks)) ≡ suc (length ks)
    by_case true later = omega (arith, later)
    by_case false later = omega (arith, later)

pub blocks_parted : (e : Endian) (size blocks : ℕ) (base : List ℕ) → length (taken_blocks e size blocks base) + length (blank_blocks e size blocks base) ≡ blocks
blocks_parted e size blocks base = parts_long (λ b. is_blank e size (block_of size base b)) (below blocks) ∙ length-below blocks

pub arranged_long : (e : Endian) (size blocks : ℕ) (base image : List ℕ) → length (arranged e size blocks base image) ≡ blocks * size
arranged_long e size blocks base image =
    let taken : List ℕ = taken_blocks e size blocks base in
    let row : List ℕ = blank_blocks e size blocks base in
    let all : length (taken ++ row) ≡ blocks = length-append taken row ∙ blocks_parted e size blocks base in
    side_long size (taken ++ row) image ∙ ap (λ (n : ℕ). n * size) all

-- ---- the same nodes

-- two images of which the same is seen
pub record AreSeenSame (e : Endian) (size : ℕ) (image other : List ℕ) : Type 0 where
  pub nodes : SameElements (expanded_nodes e size image) (expanded_nodes e size other)
  pub contents : length (unpacked_bytes e size image) ≡ length (unpacked_bytes e size other)
  pub refused : is_some (first_fault e size image) ≡ is_some (first_fault e size other)

pub arranged_seen : (e : Endian) (size blocks : ℕ) (base image : List ℕ) → IsTrue (is_block_size size) → length image ≤ blocks * size
    → AreSeenSame e size (arranged e size blocks base image) image
arranged_seen e size blocks base image size_is within =
    let p : ℕ → Bool = λ b. is_blank e size (block_of size base b) in
    let f : ℕ → List Glimpse = λ b. block_glimpses e (block_of size image b) in
    let taken : List ℕ = taken_blocks e size blocks base in
    let row : List ℕ = blank_blocks e size blocks base in
    let first : List Glimpse = glimpses_of e size image taken in
    let last : List Glimpse = glimpses_of e size image row in
    let all : List Glimpse = glimpses_of e size image (below blocks) in
    let merged : Interleaves first last all = parts_merge (λ b. is_blank e size (block_of size base b)) (λ b. block_glimpses e (block_of size image b)) (below blocks) in
    let joined : glimpses_of e size image (taken ++ row) ≡ first ++ last = flat_map-append (λ b. block_glimpses e (block_of size image b)) taken row in
    let is = image_glimpsed e size blocks image size_is within in
    let put = row_glimpsed e size (taken ++ row) image size_is in
    let nodes : expanded_nodes e size (arranged e size blocks base image) ≡ filter_map node_glimpsed first ++ filter_map node_glimpsed last =
    put.nodes ∙ (ap (filter_map node_glimpsed) joined ∙ filter_map-append node_glimpsed first last) in
    let same : SameElements (filter_map node_glimpsed first ++ filter_map node_glimpsed last) (filter_map node_glimpsed all) =
    merged_same (filter_map node_glimpsed first) (filter_map node_glimpsed last) (filter_map node_glimpsed all) (merged_taken node_glimpsed first last all merged) in
    let sum : length (flat_map content_glimpsed (first ++ last)) ≡ length (flat_map content_glimpsed first) + length (flat_map content_glimpsed last) =
    ap length (flat_map-append content_glimpsed first last) ∙ length-append (flat_map content_glimpsed first) (flat_map content_glimpsed last) in
    record {
      nodes = subst (λ (l : List NodeRef). SameElements l (expanded_nodes e size image)) (sym nodes)
          (subst (λ (l : List NodeRef). SameElements (filter_map node_glimpsed first ++ filter_map node_glimpsed last) l) (sym is.nodes) same);
      contents = ap length put.contents
          ∙ (ap (λ (gs : List Glimpse). length (flat_map content_glimpsed gs)) joined
          ∙ (sum ∙ (sym (merged_length content_glimpsed first last all merged) ∙ ap length (sym is.contents))));
      refused = put.refused
          ∙ (ap (list_any (is_refused size)) joined
          ∙ (list_any-append (is_refused size) first last ∙ (sym (merged_any (is_refused size) first last all merged) ∙ sym is.refused)));
    }

-- ---- where it is blank

pub taken_is_not_blank : (e : Endian) (size blocks : ℕ) (base : List ℕ) (b : ℕ) → Contains (taken_blocks e size blocks base) b → is_blank e size (block_of size base b) ≡ false
taken_is_not_blank e size blocks base b has =
    was_true (is_blank e size (block_of size base b)) (Contains-filter_from (λ c. not (is_blank e size (block_of size base c))) (below blocks) b has).1
  where
    was_true : (t : Bool) → not t ≡ true → t ≡ false
    was_true true is = sym is
    was_true false is = refl

pub row_is_blank : (e : Endian) (size blocks : ℕ) (base : List ℕ) (b : ℕ) → Contains (blank_blocks e size blocks base) b → is_blank e size (block_of size base b) ≡ true
row_is_blank e size blocks base b has = (Contains-filter_from (λ c. is_blank e size (block_of size base c)) (below blocks) b has).1

-- a block of the arranged flash
block_there : (e : Endian) (size blocks : ℕ) (base image : List ℕ) (k : ℕ) → k < blocks
    → block_of size (arranged e size blocks base image) k ≡ block_of size image (get_or (blank_last e size blocks base) k 0)
block_there e size blocks base image k inside =
    let taken : List ℕ = taken_blocks e size blocks base in
    let row : List ℕ = blank_blocks e size blocks base in
    side_block size (taken ++ row) image k (omega (arith, inside, length-append taken row, blocks_parted e size blocks base))

pub block_in_front : (e : Endian) (size blocks : ℕ) (base image : List ℕ) (k : ℕ) → k < length (taken_blocks e size blocks base)
    → block_of size (arranged e size blocks base image) k ≡ block_of size image (get_or (taken_blocks e size blocks base) k 0)
block_in_front e size blocks base image k inside =
    let taken : List ℕ = taken_blocks e size blocks base in
    let row : List ℕ = blank_blocks e size blocks base in
    block_there e size blocks base image k (omega (arith, inside, blocks_parted e size blocks base))
    ∙ ap (block_of size image) (get_or_append_left taken row 0 k inside)

pub block_behind : (e : Endian) (size blocks : ℕ) (base image : List ℕ) (j : ℕ) → j < length (blank_blocks e size blocks base)
    → block_of size (arranged e size blocks base image) (length (taken_blocks e size blocks base) + j) ≡ block_of size image (get_or (blank_blocks e size blocks base) j 0)
block_behind e size blocks base image j inside =
    let taken : List ℕ = taken_blocks e size blocks base in
    let row : List ℕ = blank_blocks e size blocks base in
    block_there e size blocks base image (length taken + j) (omega (arith, inside, blocks_parted e size blocks base))
    ∙ ap (block_of size image) (get_or-append-add taken row j 0)

-- writing goes on where the blank blocks begin
pub arranged_blank_from : (e : Endian) (size blocks : ℕ) (base : List ℕ) → blank_from e size (arranged e size blocks base base) blocks ≡ length (taken_blocks e size blocks base)
arranged_blank_from e size blocks base =
    let taken : List ℕ = taken_blocks e size blocks base in
    let row : List ℕ = blank_blocks e size blocks base in
    let flash : List ℕ = arranged e size blocks base base in
    let n : ℕ = length taken in
    let parted : n + length row ≡ blocks = blocks_parted e size blocks base in
    let from = blank_from_is_least e size flash blocks in
    let b : ℕ = blank_from e size flash blocks in
    let behind : AreBlankFrom e size flash blocks n = record {
      within = omega (arith, parted);
      blank = λ k low inside.
          let j : ℕ = k - n in
          let at : n + j ≡ k = omega (arith, low) in
          let small : j < length row = omega (arith, low, inside, parted) in
          ap (λ (d : ℕ). is_blank e size (block_of size flash d)) (sym at)
          ∙ (ap (is_blank e size) (block_behind e size blocks base base j small) ∙ row_is_blank e size blocks base (get_or row j 0) (Contains-get_or row j 0 small));
    } in
    let most : b ≤ n = from.least n behind in
    elim (cases_lt b n) [
      | inl less ↦
          let k : ℕ = n - 1 in
          let small : k < n = omega (arith, less) in
          let blank : is_blank e size (block_of size flash k) ≡ true = from.blank.blank k (omega (arith, less)) (omega (arith, small, parted)) in
          let full : is_blank e size (block_of size flash k) ≡ false =
          ap (is_blank e size) (block_in_front e size blocks base base k small) ∙ taken_is_not_blank e size blocks base (get_or taken k 0) (Contains-get_or taken k 0 small) in
          absurd (true≢false (sym blank ∙ full))
      | inr not_less ↦ omega (arith, most, not_less)
    ]
