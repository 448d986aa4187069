-- An image's nodes are those of its blocks.
use Rattle.std.proofs.Common.{◌≡◌, ℕ, ◌+◌, ◌-◌, ◌*◌, ◌<◌, ◌≤◌, List, [], ◌∷◌, ◌++◌, length, take, refl, sym, ap, ◌∙◌, arith, Option}
use Rattle.std.specs.Prelude.{flat_map, filter_map}
use Rattle.std.proofs.lemmas.Grind.{div_ceil_times}
use Rattle.std.proofs.lemmas.List.{drop_all, take-replicate}
use Rattle.std.proofs.lemmas.List.Elements.{filter_map-append}
use Rattle.flashbase.specs.Bytes.{erased}
use Rattle.flashbase.specs.Lists.{below}
use Rattle.jnode.specs.declared.order.Endian.{Endian}
use Rattle.jscan.specs.Image.{block_of, block_count, sightings_in, node_sighted, nodes}
use Rattle.jscan.specs.Laws.{nodes_in_block}
use Rattle.jscan.proofs.HeaderlessLemmas.{erased_has_no_nodes}
use Rattle.flashbase.proofs.ListLemmas.{flat_map-below}

pub filter_map-flat_map : {A B C : Type 0} (h : B → Option C) (g : A → List B) (xs : List A) → filter_map h (flat_map g xs) ≡ flat_map (λ x. filter_map h (g x)) xs
filter_map-flat_map h g [] = refl
filter_map-flat_map h g (x ∷ xs) = filter_map-append h (g x) (flat_map g xs) ∙ ap (λ ys. filter_map h (g x) ++ ys) (filter_map-flat_map h g xs)

-- a block past the image's end is erased
pub block_past : (size : ℕ) (image : List ℕ) (k : ℕ) → length image ≤ k * size → block_of size image k ≡ erased size
block_past size image k h =
    ap (λ (xs : List ℕ). take size (xs ++ erased size)) (drop_all (k * size) image h) ∙ take-replicate size size 0xFF (omega arith)

pub past_count : (size : ℕ) (image : List ℕ) (k : ℕ) → 0 < size → block_count size image ≤ k → length image ≤ k * size
past_count size image k p h = grind (arith, div_ceil_times (length image) size p)

pub count_within : (size blocks : ℕ) (image : List ℕ) → 0 < size → length image ≤ blocks * size → block_count size image ≤ blocks
count_within size blocks image p h = grind (arith, div_ceil_times (length image) size p)

pub nodes_are_of_blocks : (e : Endian) (size blocks : ℕ) (image : List ℕ) → 0 < size → length image ≤ blocks * size
    → nodes e size image ≡ flat_map (λ k. nodes_in_block e (k * size) (block_of size image k)) (below blocks)
nodes_are_of_blocks e size blocks image p h =
    let n : ℕ = block_count size image in
    let le : n ≤ blocks = count_within size blocks image p h in
    let sum : (blocks - n) + n ≡ blocks = omega arith in
    filter_map-flat_map node_sighted (λ k. sightings_in e (k * size) (block_of size image k)) (below n)
    ∙ (sym (flat_map-below (λ k. nodes_in_block e (k * size) (block_of size image k)) n (blocks - n)
    (λ k q. ap (nodes_in_block e (k * size)) (block_past size image k (past_count size image k p q))
    ∙ ap (filter_map node_sighted) (erased_has_no_nodes e (k * size) size)))
    ∙ ap (λ (m : ℕ). flat_map (λ k. nodes_in_block e (k * size) (block_of size image k)) (below m)) sum)
