-- What the bytes in front of a compressed node's data say is what the node has.
use Rattle.std.proofs.Common.{◌≡◌, ℕ, zero, suc, ◌+◌, ◌*◌, ◌/◌, ◌%◌, ◌<◌, ◌≤◌, IsTrue, List, [], ◌∷◌, ◌++◌, length, take, drop, get_or, refl, ap, sym, ◌∙◌, arith, length-append, length-drop, length-take}
use Rattle.std.specs.Prelude.{Contains}
use Rattle.std.proofs.lemmas.Nat.{div-add-mod'}
use Rattle.std.proofs.lemmas.List.{get_or-drop, get_or-take, length-replicate}
use Rattle.flashbase.specs.Bytes.{erased, pad4_of}
use Rattle.jnode.specs.declared.node.Seen.TheVariants as seen
use Rattle.jnode.specs.declared.order.Endian.{Endian}
use Rattle.jnode.specs.Order.{number_at}
use Rattle.jnode.specs.Reading.{ReadsCompressed, tile_of}
use Rattle.jnode.specs.Header.{totlen_of}
use Rattle.jnode.proofs.OrderLemmas.{take_of_take}
use Rattle.jnode.proofs.ReadingLemmas.{read_compressed}
use Rattle.jnode.proofs.StoredLemmas.{same_number}
use Rattle.jscan.specs.Image.{is_block_size, block_of, sightings}
use Rattle.jscan.proofs.PaddingLemmas.{pad4_up}
use Rattle.jscan.proofs.PartLemmas.{block_length}
use Rattle.jexpand.specs.Expanded.{rest_at}
use Rattle.jexpand.proofs.SightedLemmas.{sighted_at, size_words}
use Rattle.jgaps.specs.Fields.{node_front}

-- ---- bytes, where those that are missing count as erased

erased_at : (n i : ℕ) → get_or (erased n) i 0xFF ≡ 0xFF
erased_at zero i = refl
erased_at (suc n) zero = refl
erased_at (suc n) (suc i) = erased_at n i

end_erased : (xs : List ℕ) (n i : ℕ) → get_or (xs ++ erased n) i 0xFF ≡ get_or xs i 0xFF
end_erased [] n i = erased_at n i
end_erased (x ∷ xs) n zero = refl
end_erased (x ∷ xs) n (suc i) = end_erased xs n i

same_front : (n : ℕ) (a b : List ℕ) → n ≤ length a → n ≤ length b → ((k : ℕ) → k < n → get_or a k 0xFF ≡ get_or b k 0xFF) → take n a ≡ take n b
same_front zero a b long also each = refl
same_front (suc n) [] b long also each = absurd (omega arith)
same_front (suc n) (x ∷ a) [] long also each = absurd (omega arith)
same_front (suc n) (x ∷ a) (y ∷ b) long also each =
    let first : x ≡ y = each 0 (omega arith) in
    ap (λ (z : ℕ). z ∷ take n a) first
    ∙ ap (λ (l : List ℕ). y ∷ l) (same_front n a b (omega arith) (omega arith) (λ k less. each (suc k) (omega arith)))

module _ (e : Endian) (size : ℕ) (image : List ℕ) (addr : ℕ) where
  abbrev place : ℕ
  place = addr % size

  abbrev rest : List ℕ
  rest = rest_at size image addr

  abbrev tile : List ℕ
  tile = tile_of e rest

  block_at : (k : ℕ) → place + k < size → get_or rest k 0xFF ≡ get_or image (addr + k) 0xFF
  block_at k within =
      let begins = addr / size * size in
      let split : begins + place ≡ addr = div-add-mod' addr size in
      get_or-drop place (block_of size image (addr / size)) k 0xFF
      ∙ get_or-take size (drop begins image ++ erased size) (place + k) 0xFF within
      ∙ end_erased (drop begins image) size (place + k)
      ∙ get_or-drop begins image (place + k) 0xFF
      ∙ ap (λ (n : ℕ). get_or image n 0xFF) (omega (arith, split))

  front_at : (k : ℕ) → k < 68 → get_or (node_front image addr) k 0xFF ≡ get_or image (addr + k) 0xFF
  unfolding node_front
  front_at k within =
      get_or-take 68 (drop addr image ++ erased 68) k 0xFF within
      ∙ end_erased (drop addr image) 68 k
      ∙ get_or-drop addr image k 0xFF

  front_long : length (node_front image addr) ≡ 68
  unfolding node_front
  front_long =
      length-take 68 (drop addr image ++ erased 68) ∙ omega (arith, length-append (drop addr image) (erased 68), length-replicate {A = ℕ} 68 0xFF)

  -- the tile of a compressed node that is sighted begins with them
  pub same_fields : (compr : ℕ) → IsTrue (is_block_size size) → Contains (sightings e size image) (addr, seen.Compressed compr)
      → (p : ℕ) → p + 4 ≤ 68 → number_at e 4 p (node_front image addr) ≡ number_at e 4 p tile
  same_fields compr readable has p within =
      let at = sighted_at e size image addr (seen.Compressed compr) (size_words size readable) has in
      let reads : ReadsCompressed e tile compr = (read_compressed e rest (seen.Compressed compr) at.good at.words at.seen compr).0 refl in
      let total : ℕ = pad4_of (totlen_of e rest) in
      let long : 68 ≤ length tile = omega (arith, reads.sound.is_tile.whole, reads.sound.least, (pad4_up (totlen_of e tile)).0) in
      let taken = length-take total rest in
      let left = length-drop place (block_of size image (addr / size)) in
      let room : place + 68 ≤ size = omega (arith, long, taken, left, block_length size image (addr / size), at.within) in
      same_number e 4 p 68 (node_front image addr) tile
      (same_front 68 (node_front image addr) tile (omega (arith, front_long)) long
      (λ k less. front_at k less ∙ sym (get_or-take total rest k 0xFF (omega (arith, long, taken)) ∙ block_at k (omega (arith, room)))))
      within
