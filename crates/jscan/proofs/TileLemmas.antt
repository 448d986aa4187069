-- The tile at the front of the rest of a block, and the tiles after it.
use Rattle.std.proofs.Common.{◌≡◌, ℕ, zero, suc, ◌+◌, ◌-◌, ◌<◌, true, false, leb, List, [], ◌∷◌, ◌++◌, length, drop, take, arith, refl, ap, sym, ◌∙◌, subst, ⊎_elim, length-take, take-append-drop}
use Rattle.std.proofs.lemmas.Bool.{cond-true, cond-false, cases_Bool}
use Rattle.std.proofs.lemmas.List.{take_all}
use Rattle.std.proofs.Math.Seq.{drop-append_seam}
use Rattle.flashbase.specs.Bytes.{pad4_of}
use Rattle.jnode.specs.declared.order.Endian.{Endian}
use Rattle.jnode.specs.Header.{is_good, header_of, totlen_of}
use Rattle.jnode.specs.Reading.{tile_of}
use Rattle.jscan.specs.Tiling.{Tile, tile_at, tiling_from}
use Rattle.jscan.specs.declared.tiles.TileKind.TheVariants.{Node, Word, Rest}
use Rattle.jnode.proofs.HeaderLemmas.{good_found}
use Rattle.jscan.proofs.PaddingLemmas.{pad4_up}

pub tile_good : (e : Endian) (place : ℕ) (rest : List ℕ) → is_good e rest ≡ true
    → tile_at e place rest ≡ record { place = place; kind = Node (header_of e rest); bytes = tile_of e rest }
unfolding tile_at
tile_good e place rest h = cond-true (is_good e rest) _ _ h

pub tile_word : (e : Endian) (place : ℕ) (rest : List ℕ) → is_good e rest ≡ false → leb 12 (length rest) ≡ true
    → tile_at e place rest ≡ record { place = place; kind = Word; bytes = take 4 rest }
unfolding tile_at
tile_word e place rest h k = cond-false (is_good e rest) _ _ h ∙ cond-true (leb 12 (length rest)) _ _ k

pub tile_rest : (e : Endian) (place : ℕ) (rest : List ℕ) → is_good e rest ≡ false → leb 12 (length rest) ≡ false
    → tile_at e place rest ≡ record { place = place; kind = Rest; bytes = rest }
unfolding tile_at
tile_rest e place rest h k = cond-false (is_good e rest) _ _ h ∙ cond-false (leb 12 (length rest)) _ _ k

-- What each of the three tiles has, each has.
pub tile_cases : (e : Endian) (place : ℕ) (rest : List ℕ) (P : Tile → Type 0)
    → (is_good e rest ≡ true → P (record { place = place; kind = Node (header_of e rest); bytes = tile_of e rest }))
    → (is_good e rest ≡ false → leb 12 (length rest) ≡ true → P (record { place = place; kind = Word; bytes = take 4 rest }))
    → (is_good e rest ≡ false → leb 12 (length rest) ≡ false → P (record { place = place; kind = Rest; bytes = rest }))
    → P (tile_at e place rest)
tile_cases e place rest P node word last =
    ⊎_elim
    (λ good. subst P (sym (tile_good e place rest good)) (node good))
    (λ bad. ⊎_elim
    (λ long. subst P (sym (tile_word e place rest bad long)) (word bad long))
    (λ short. subst P (sym (tile_rest e place rest bad short)) (last bad short))
    (cases_Bool (leb 12 (length rest))))
    (cases_Bool (is_good e rest))

min_positive : (n : ℕ) (xs : List ℕ) → 0 < n → 0 < length xs → 0 < length (take n xs)
min_positive n xs p q = omega (arith, length-take n xs)

-- where bytes are left a tile has some
pub tile_some : (e : Endian) (place : ℕ) (rest : List ℕ) → 0 < length rest → 0 < length (tile_at e place rest).bytes
tile_some e place rest some =
    tile_cases e place rest (λ tile. 0 < length tile.bytes)
    (λ good. min_positive (pad4_of (totlen_of e rest)) rest (omega (arith, (good_found e rest good).least, (pad4_up (totlen_of e rest)).0)) some)
    (λ bad long. min_positive 4 rest (omega arith) some)
    (λ bad short. some)

pub tile_place : (e : Endian) (place : ℕ) (rest : List ℕ) → (tile_at e place rest).place ≡ place
tile_place e place rest = tile_cases e place rest (λ tile. tile.place ≡ place) (λ good. refl) (λ bad long. refl) (λ bad short. refl)

split_at : (k : ℕ) (rest : List ℕ) → take k rest ++ drop (length (take k rest)) rest ≡ rest
split_at k rest =
    let whole = take-append-drop k rest in
    ap (λ l. take k rest ++ l) (ap (drop (length (take k rest))) (sym whole) ∙ drop-append_seam (take k rest) (drop k rest)) ∙ whole

-- a tile's bytes and what is left after it are all
pub tile_splits : (e : Endian) (place : ℕ) (rest : List ℕ)
    → (tile_at e place rest).bytes ++ drop (length (tile_at e place rest).bytes) rest ≡ rest
tile_splits e place rest =
    tile_cases e place rest (λ tile. tile.bytes ++ drop (length tile.bytes) rest ≡ rest)
    (λ good. split_at (pad4_of (totlen_of e rest)) rest)
    (λ bad long. split_at 4 rest)
    (λ bad short. subst (λ (l : List ℕ). l ++ drop (length l) rest ≡ rest) (take_all (length rest) rest (omega arith)) (split_at (length rest) rest))

-- the bytes that lie in a tile that began before are passed over
pub skipped : (e : Endian) (place inside : ℕ) (rest : List ℕ) → tiling_from e place inside rest ≡ tiling_from e (place + inside) 0 (drop inside rest)
skipped e place zero [] = refl
skipped e place (suc inside) [] = refl
skipped e place zero (b ∷ rest) = ap (λ (p : ℕ). tiling_from e p 0 (b ∷ rest)) (omega arith)
skipped e place (suc inside) (b ∷ rest) = skipped e (place + 1) inside rest ∙ ap (λ (p : ℕ). tiling_from e p 0 (drop inside rest)) (omega arith)

after_first : (e : Endian) (place len b : ℕ) (xs : List ℕ) → 0 < len
    → tiling_from e (place + 1) (len - 1) xs ≡ tiling_from e (place + len) 0 (drop len (b ∷ xs))
after_first e place zero b xs h = absurd (omega arith)
after_first e place (suc len) b xs h =
    ap (λ (n : ℕ). tiling_from e (place + 1) n xs) (omega arith)
    ∙ (skipped e (place + 1) len xs ∙ ap (λ (p : ℕ). tiling_from e p 0 (drop len xs)) (omega arith))

-- the first tile, and then those of what is left after it
pub tile_then_rest : (e : Endian) (place : ℕ) (rest : List ℕ) → 0 < length rest
    → tiling_from e place 0 rest ≡ tile_at e place rest
    ∷ tiling_from e (place + length (tile_at e place rest).bytes) 0 (drop (length (tile_at e place rest).bytes) rest)
tile_then_rest e place [] h = absurd (omega arith)
tile_then_rest e place (b ∷ xs) h =
    ap (λ (ts : List Tile). tile_at e place (b ∷ xs) ∷ ts)
    (after_first e place (length (tile_at e place (b ∷ xs)).bytes) b xs (tile_some e place (b ∷ xs) h))
