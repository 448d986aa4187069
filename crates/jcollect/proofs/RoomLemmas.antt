-- What is known of nodes while they are counted.
use Rattle.std.proofs.Common.{◌≡◌, ◌≢◌, ℕ, ◌+◌, ◌*◌, ◌/◌, ◌%◌, ◌<◌, ◌≤◌, Bool, true, false, max, List, [], ◌∷◌, length, refl, sym, ap, ap₂, subst, ◌∙◌, arith, Option, None, Some, option_map, ⊎_elim}
use Rattle.std.specs.Prelude.{IsTrue, nat_le, nat_lt, ◌&&◌}
use Rattle.std.specs.List.{AllByRecursion}
use Rattle.std.specs.Option.{option_or}
use Rattle.std.proofs.lemmas.Bool.{leb-true, le-leb, lt-leb, cases_Bool, cond_both, cond-true, cond-false, and_parts, false≢true}
use Rattle.std.proofs.lemmas.List.Sums.{sum_by-cons}
use Rattle.flashbase.specs.Bytes.{pad4_of}
use Rattle.flashbase.proofs.BytesLemmas.{le_pad4, pad4_words, pad4_least}
use Rattle.jnode.specs.Header.{header_len}
use Rattle.jnode.specs.declared.order.Endian.{Endian}
use Rattle.jscan.specs.Image.{is_block_size, greatest_image}
use Rattle.jmount.specs.Mount.{Mount}
use Rattle.jlog.specs.Output.{output}
use Rattle.jlog.specs.Places.{place_after, end_after, place_within, end_of_all, fit, needed, free, is_writable_flash}
use Rattle.jlog.proofs.ImageLemmas.{block_size}
use Rattle.jlog.proofs.IntactLemmas.{output_is_long}
use Rattle.jlog.proofs.PlaceLemmas.{times_words, pad4_behind, block_floor}
use Rattle.jcompact.specs.Matters.{Placed}
use Rattle.jcollect.specs.Collecting.{FitBlocks}
use Rattle.jcollect.specs.Planning.{IsSoundNodeAt, IsWriteCursor, IsRoomBehind, IsFound, IsNoPlan, long_fault, room_fault, tiles_fault}
use Rattle.jcollect.specs.Tiles.{tile_in, tiles_at, copied_image}
use Rattle.jcollect.specs.declared.fault.CollectFault.{CollectFault}
use Rattle.jcollect.specs.declared.fault.CollectFault.TheVariants as fault
use Rattle.jcollect.proofs.NodeLemmas.{nodes_storable}
use Rattle.jcollect.proofs.TileLemmas.{tiles_fit}

-- ---- places

-- a place is made of words
place_words : (size from len : ℕ) → size % 4 ≡ 0 → place_after size from len % 4 ≡ 0
place_words size from len words =
    let start : ℕ = pad4_of from / size * size in
    let sw : start % 4 ≡ 0 = times_words (pad4_of from / size) size words in
    let pw : pad4_of from % 4 ≡ 0 = pad4_words from in
    cond_both (nat_le (max (pad4_of from) (start + 12) + len) (start + size)) (max (pad4_of from) (start + 12)) (start + size + 12) (λ (x : ℕ). x % 4 ≡ 0)
    (λ _. omega arith) (λ _. omega arith)

-- it is not before the address
pub place_up : (size from len : ℕ) → 0 < size → from ≤ place_after size from len
place_up size from len some =
    let start : ℕ = pad4_of from / size * size in
    let up : from ≤ pad4_of from = le_pad4 from in
    let floor = block_floor (pad4_of from) size some in
    cond_both (nat_le (max (pad4_of from) (start + 12) + len) (start + size)) (max (pad4_of from) (start + 12)) (start + size + 12) (λ (x : ℕ). from ≤ x)
    (λ _. omega arith) (λ _. omega arith)

-- a flash that is written
pub flash_readable : (size blocks : ℕ) → IsTrue (is_writable_flash size blocks) → IsTrue (is_block_size size)
flash_readable size blocks ok =
    let last = and_parts (is_block_size size && nat_le 8192 size && nat_lt 0 blocks) (nat_le (blocks * size) greatest_image) ok in
    let some = and_parts (is_block_size size && nat_le 8192 size) (nat_lt 0 blocks) last.0 in
    (and_parts (is_block_size size) (nat_le 8192 size) some.0).0

pub flash_words : (size blocks : ℕ) → IsTrue (is_writable_flash size blocks) → size % 4 ≡ 0
flash_words size blocks ok = (block_size size (flash_readable size blocks ok)).words

-- where the next one may begin
pub next_cursor : (size blocks from len : ℕ) → size % 4 ≡ 0 → place_after size from len + len ≤ blocks * size → IsWriteCursor size blocks (end_after size from len)
next_cursor size blocks from len words ends =
    let at : ℕ = place_after size from len in
    let aligned : at % 4 ≡ 0 = place_words size from len words in
    let whole : (blocks * size) % 4 ≡ 0 = times_words blocks size words in
    let behind : pad4_of (at + len) ≡ at + pad4_of len = pad4_behind at len aligned in
    let most : pad4_of (at + len) ≤ blocks * size = pad4_least (at + len) (blocks * size) ends whole in
    let word : pad4_of len % 4 ≡ 0 = pad4_words len in
    (subst (λ (n : ℕ). n ≤ blocks * size) behind most, omega arith)

pub within_some : (size blocks from len at : ℕ) → place_within size blocks from len ≡ Some at → (at ≡ place_after size from len) × (nat_le (place_after size from len + len) (blocks * size) ≡ true)
within_some size blocks from len at h =
    let place : ℕ = place_after size from len in
    ⊎_elim
    (λ inside.
    let is : Some place ≡ Some at = sym (cond-true (nat_le (place + len) (blocks * size)) (Some place) None inside) ∙ h in
    let same : at ≡ place = cc in (same, inside))
    (λ outside. let none : None ≡ Some at = sym (cond-false (nat_le (place + len) (blocks * size)) (Some place) None outside) ∙ h in absurd (cc))
    (cases_Bool (nat_le (place + len) (blocks * size)))

within_none : (size blocks from len : ℕ) → place_within size blocks from len ≡ None → nat_le (place_after size from len + len) (blocks * size) ≡ false
within_none size blocks from len h =
    let place : ℕ = place_after size from len in
    ⊎_elim
    (λ inside. let some : Some place ≡ None = sym (cond-true (nat_le (place + len) (blocks * size)) (Some place) None inside) ∙ h in absurd (cc))
    (λ outside. outside)
    (cases_Bool (nat_le (place + len) (blocks * size)))

pub next_small : (size blocks from len at : ℕ) → size % 4 ≡ 0 → place_within size blocks from len ≡ Some at → at + pad4_of len ≤ blocks * size
next_small size blocks from len at words found =
    let some = within_some size blocks from len at found in
    let next = next_cursor size blocks from len words (leb-true _ _ some.1) in
    subst (λ (n : ℕ). n + pad4_of len ≤ blocks * size) (sym some.0) next.0

-- ---- the room, by what is left

abbrev RoomBefore : ℕ → ℕ → List (List ℕ) → Option ℕ → List (List ℕ) → Type 0
RoomBefore size blocks all None left = fit size blocks 0 all ≡ false
RoomBefore size blocks all (Some from) left =
    (fit size blocks 0 all ≡ fit size blocks from left) × (end_of_all size 0 all ≡ end_of_all size from left) × IsWriteCursor size blocks from

mapped_none : {A B : Type 0} (f : A → B) (o : Option A) → None ≡ option_map f o → o ≡ None
mapped_none f None h = refl
mapped_none f (Some x) h = absurd (cc)

mapped_to : {A B : Type 0} (f : A → B) (o : Option A) (y : B) → Some y ≡ option_map f o → (x : A) × (o ≡ Some x) × (y ≡ f x)
mapped_to f None y h = absurd (cc)
mapped_to f (Some x) y h = (x, refl, cc)

room_next : (size blocks : ℕ) (all : List (List ℕ)) (old new : Option ℕ) (tile : List ℕ) (rest : List (List ℕ)) → size % 4 ≡ 0 → RoomBefore size blocks all old (tile ∷ rest)
    → IsRoomBehind size blocks old (length tile) new → RoomBefore size blocks all new rest
room_next size blocks all None new tile rest words before after = subst (λ (o : Option ℕ). RoomBefore size blocks all o rest) (sym after) before
room_next size blocks all (Some from) None tile rest words before after =
    let none : place_within size blocks from (length tile) ≡ None = mapped_none (λ (at : ℕ). at + pad4_of (length tile)) (place_within size blocks from (length tile)) after in
    before.0 ∙ ap (λ (b : Bool). b && fit size blocks (end_after size from (length tile)) rest) (within_none size blocks from (length tile) none)
room_next size blocks all (Some from) (Some next) tile rest words before after =
    let found = mapped_to (λ (at : ℕ). at + pad4_of (length tile)) (place_within size blocks from (length tile)) next after in
    let some = within_some size blocks from (length tile) found.0 found.1 in
    let is : next ≡ end_after size from (length tile) = found.2 ∙ ap (λ (at : ℕ). at + pad4_of (length tile)) some.0 in
    subst (λ (n : ℕ). RoomBefore size blocks all (Some n) rest) (sym is) (
      before.0 ∙ ap (λ (b : Bool). b && fit size blocks (end_after size from (length tile)) rest) some.1,
      before.1,
      next_cursor size blocks from (length tile) words (leb-true _ _ some.1),
    )

-- ---- the nodes that are left

pub record Counting (e : Endian) (size blocks : ℕ) (image all left : List ℕ) (so_far : ℕ) (room : Option ℕ) : Type 0 where
  pub among : AllByRecursion (IsSoundNodeAt e size image) left
  pub long : long_fault e size image all ≡ long_fault e size image left
  pub needs : needed (tiles_at e size image all) ≡ so_far + needed (tiles_at e size image left)
  pub room_is : RoomBefore size blocks (tiles_at e size image all) room (tiles_at e size image left)

pub counting_start : (e : Endian) (size blocks : ℕ) (image all : List ℕ) → AllByRecursion (IsSoundNodeAt e size image) all → Counting e size blocks image all all 0 (Some 0)
counting_start e size blocks image all nodes = record { among = nodes; long = refl; needs = omega arith; room_is = (refl, refl, (omega arith, refl)) }

pub counting_at : (e : Endian) (size blocks : ℕ) (image all left rest : List ℕ) (addr so_far : ℕ) (room : Option ℕ) → Counting e size blocks image all left so_far room → left ≡ addr ∷ rest
    → IsSoundNodeAt e size image addr
counting_at e size blocks image all left rest addr so_far room it is =
    (subst (λ (l : List ℕ). Counting e size blocks image all l so_far room) is it).among.0

-- where the next one may begin
pub counting_cursor : (e : Endian) (size blocks : ℕ) (image all left : List ℕ) (so_far from : ℕ) → Counting e size blocks image all left so_far (Some from) → IsWriteCursor size blocks from
counting_cursor e size blocks image all left so_far from it = it.room_is.2

pub counting_next : (e : Endian) (size blocks : ℕ) (image all left rest : List ℕ) (addr len so_far more : ℕ) (room after : Option ℕ) → size % 4 ≡ 0
    → Counting e size blocks image all left so_far room → left ≡ addr ∷ rest → len ≡ length (tile_in e size image addr) → header_len + len ≤ size
    → more ≡ so_far + pad4_of len → IsRoomBehind size blocks room len after → Counting e size blocks image all rest more after
counting_next e size blocks image all left rest addr len so_far more room after words before is long within sum roomy =
    let it : Counting e size blocks image all (addr ∷ rest) so_far room = subst (λ (l : List ℕ). Counting e size blocks image all l so_far room) is before in
    let tile : List ℕ = tile_in e size image addr in
    let others : List (List ℕ) = tiles_at e size image rest in
    let fits : 12 + length tile ≤ size = omega (arith, long, within) in
    let cons : needed (tile ∷ others) ≡ pad4_of (length tile) + needed others = sum_by-cons (λ (t : List ℕ). pad4_of (length t)) tile others in
    let padded : pad4_of len ≡ pad4_of (length tile) = ap pad4_of long in
    record {
      among = it.among.1;
      long = it.long ∙ cond-true (nat_le (12 + length tile) size) (long_fault e size image rest) (Some (fault.TooLong addr)) (le-leb _ _ fits);
      needs = omega (arith, it.needs, cons, padded, sum);
      room_is = room_next size blocks (tiles_at e size image all) room after tile others words it.room_is (subst (λ (n : ℕ). IsRoomBehind size blocks room n after) long roomy);
    }

-- ---- what refuses them

or_first : (o : Option CollectFault) (f : CollectFault) (p : Option CollectFault) → o ≡ Some f → option_or o p ≡ Some f
or_first o f p is = ap (λ (q : Option CollectFault). option_or q p) is

pub counting_long : (e : Endian) (size blocks : ℕ) (image all left rest : List ℕ) (addr len so_far : ℕ) (room : Option ℕ)
    → Counting e size blocks image all left so_far room → left ≡ addr ∷ rest → len ≡ length (tile_in e size image addr) → size < header_len + len
    → tiles_fault e size blocks image all ≡ Some (fault.TooLong addr)
counting_long e size blocks image all left rest addr len so_far room before is long past =
    let it : Counting e size blocks image all (addr ∷ rest) so_far room = subst (λ (l : List ℕ). Counting e size blocks image all l so_far room) is before in
    let tile : List ℕ = tile_in e size image addr in
    let over : size < 12 + length tile = omega (arith, long, past) in
    or_first (long_fault e size image all) (fault.TooLong addr) (room_fault size blocks (tiles_at e size image all))
    (it.long ∙ cond-false (nat_le (12 + length tile) size) (long_fault e size image rest) (Some (fault.TooLong addr)) (lt-leb _ _ over))

pub counting_full : (e : Endian) (size blocks : ℕ) (image all left : List ℕ) (so_far spare : ℕ) → Counting e size blocks image all left so_far None → left ≡ []
    → spare ≡ free size blocks 0 → tiles_fault e size blocks image all ≡ Some (fault.Full so_far spare)
counting_full e size blocks image all left so_far spare before is left_is =
    let it : Counting e size blocks image all [] so_far None = subst (λ (l : List ℕ). Counting e size blocks image all l so_far None) is before in
    let tiles : List (List ℕ) = tiles_at e size image all in
    let full : Option CollectFault = Some (fault.Full (needed tiles) (free size blocks 0)) in
    let none : needed [] ≡ 0 = refl in
    let sum : needed tiles ≡ so_far = omega (arith, it.needs, none) in
    ap (λ (o : Option CollectFault). option_or o (room_fault size blocks tiles)) it.long
    ∙ (cond-false (fit size blocks 0 tiles) None full it.room_is ∙ ap₂ (λ (n s : ℕ). Some (fault.Full n s)) sum (sym left_is))

-- ---- or there is room

each_fits : (e : Endian) (size : ℕ) (image addresses : List ℕ) → long_fault e size image addresses ≡ None
    → AllByRecursion (λ (addr : ℕ). header_len + length (tile_in e size image addr) ≤ size) addresses
each_fits e size image [] none = tt
each_fits e size image (addr ∷ addresses) none =
    let tile : List ℕ = tile_in e size image addr in
    ⊎_elim
    (λ inside. (
      leb-true _ _ inside,
      each_fits e size image addresses (sym (cond-true (nat_le (12 + length tile) size) (long_fault e size image addresses) (Some (fault.TooLong addr)) inside) ∙ none),
    ))
    (λ outside.
    let some : Some (fault.TooLong addr) ≡ None = sym (cond-false (nat_le (12 + length tile) size) (long_fault e size image addresses) (Some (fault.TooLong addr)) outside) ∙ none in absurd (cc))
    (cases_Bool (nat_le (12 + length tile) size))

pub counting_done : (e : Endian) (size blocks : ℕ) (image all left : List ℕ) (so_far end : ℕ) → Counting e size blocks image all left so_far (Some end) → left ≡ []
    → FitBlocks e size blocks image all
counting_done e size blocks image all left so_far end before is =
    let it : Counting e size blocks image all [] so_far (Some end) = subst (λ (l : List ℕ). Counting e size blocks image all l so_far (Some end)) is before in
    record { each = each_fits e size image all it.long; room = it.room_is.0 }

pub counting_bytes : (e : Endian) (size blocks : ℕ) (image all left : List ℕ) (so_far end : ℕ) → IsTrue (is_block_size size) → AllByRecursion (IsSoundNodeAt e size image) all
    → Counting e size blocks image all left so_far (Some end) → left ≡ [] → end ≡ length (copied_image e size image all)
counting_bytes e size blocks image all left so_far end size_is nodes before is =
    let it : Counting e size blocks image all [] so_far (Some end) = subst (λ (l : List ℕ). Counting e size blocks image all l so_far (Some end)) is before in
    let tiles : List (List ℕ) = tiles_at e size image all in
    let ok = tiles_fit e size tiles (nodes_storable e size image all size_is nodes (each_fits e size image all it.long)) in
    let long : 0 + length (output e size 0 tiles) ≡ end_of_all size 0 tiles = output_is_long e size 0 tiles (block_size size size_is).words ok in
    omega (arith, long, it.room_is.1)

-- ---- a refusal is for want of room

abbrev wants_room : CollectFault → Bool
wants_room (fault.TooLong addr) = true
wants_room (fault.Full needed free) = true
wants_room _ = false

long_wants : (e : Endian) (size : ℕ) (image addresses : List ℕ) (f : CollectFault) → long_fault e size image addresses ≡ Some f → wants_room f ≡ true
long_wants e size image [] f is = absurd (cc)
long_wants e size image (addr ∷ addresses) f is =
    let tile : List ℕ = tile_in e size image addr in
    ⊎_elim
    (λ inside. long_wants e size image addresses f (sym (cond-true (nat_le (12 + length tile) size) (long_fault e size image addresses) (Some (fault.TooLong addr)) inside) ∙ is))
    (λ outside.
    let some : Some (fault.TooLong addr) ≡ Some f = sym (cond-false (nat_le (12 + length tile) size) (long_fault e size image addresses) (Some (fault.TooLong addr)) outside) ∙ is in
    let same : fault.TooLong addr ≡ f = cc in ap wants_room (sym same))
    (cases_Bool (nat_le (12 + length tile) size))

room_wants : (size blocks : ℕ) (tiles : List (List ℕ)) (f : CollectFault) → room_fault size blocks tiles ≡ Some f → wants_room f ≡ true
room_wants size blocks tiles f is =
    let full : CollectFault = fault.Full (needed tiles) (free size blocks 0) in
    ⊎_elim
    (λ fits. let none : None ≡ Some f = sym (cond-true (fit size blocks 0 tiles) None (Some full) fits) ∙ is in absurd (cc))
    (λ not.
    let some : Some full ≡ Some f = sym (cond-false (fit size blocks 0 tiles) None (Some full) not) ∙ is in
    let same : full ≡ f = cc in ap wants_room (sym same))
    (cases_Bool (fit size blocks 0 tiles))

or_wants : (o p : Option CollectFault) (f : CollectFault) → ((f : CollectFault) → o ≡ Some f → wants_room f ≡ true) → ((f : CollectFault) → p ≡ Some f → wants_room f ≡ true)
    → option_or o p ≡ Some f → wants_room f ≡ true
or_wants None p f first second is = second f is
or_wants (Some x) p f first second is = first f is

tiles_want : (e : Endian) (size blocks : ℕ) (image addresses : List ℕ) (f : CollectFault) → tiles_fault e size blocks image addresses ≡ Some f → wants_room f ≡ true
tiles_want e size blocks image addresses f is =
    or_wants (long_fault e size image addresses) (room_fault size blocks (tiles_at e size image addresses)) f
    (long_wants e size image addresses) (room_wants size blocks (tiles_at e size image addresses)) is

pub unplanned : (ns : List Placed) (e : Endian) (size blocks : ℕ) (m : Mount) (addresses : List ℕ) (count : ℕ) (f : CollectFault) → IsFound ns addresses count → m.read_only ≡ false
    → IsTrue (is_writable_flash size blocks) → (f ≢ fault.OutOfMemory → tiles_fault e size blocks m.image addresses ≡ Some f) → IsNoPlan ns e size blocks m f
unplanned ns e size blocks m addresses count fault.ReadOnly found writable flash refused =
    absurd (false≢true (tiles_want e size blocks m.image addresses fault.ReadOnly (refused (λ same. absurd (cc)))))
unplanned ns e size blocks m addresses count fault.Geometry found writable flash refused =
    absurd (false≢true (tiles_want e size blocks m.image addresses fault.Geometry (refused (λ same. absurd (cc)))))
unplanned ns e size blocks m addresses count (fault.TooLong addr) found writable flash refused =
    record { addresses = addresses; count = count; found = found; writable = writable; flash = flash; refused = refused (λ same. absurd (cc)) }
unplanned ns e size blocks m addresses count (fault.Full needed free) found writable flash refused =
    record { addresses = addresses; count = count; found = found; writable = writable; flash = flash; refused = refused (λ same. absurd (cc)) }
unplanned ns e size blocks m addresses count fault.Sink found writable flash refused =
    absurd (false≢true (tiles_want e size blocks m.image addresses fault.Sink (refused (λ same. absurd (cc)))))
unplanned ns e size blocks m addresses count fault.OutOfMemory found writable flash refused = tt
