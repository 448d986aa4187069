-- Whether a header is good is computed, and from its twelve bytes.
use Rattle.std.proofs.Common.{◌≡◌, ◌↔◌, ◌≤◌, ◌<◌, ℕ, zero, suc, ◌-◌, ◌&&◌, ◌==◌, Bool, true, false, cond, IsTrue, IsSome, IfSome, Option, Some, None, List, [], ◌∷◌, ◌++◌, length, take, drop, bit_or, refl, sym, ap, ap₂, ◌∙◌, arith}
use Rattle.std.proofs.lemmas.Bool.{leb-true, le-leb, lt-leb, eqb-true, eq-eqb, and_parts, and_from, and_left, and_right}
use Rattle.flashbase.specs.Crc.{crc_of}
use Rattle.flashbase.specs.Bytes.{erased}
use Rattle.jnode.specs.Order.{number_in, bytes_in}
use Rattle.jnode.specs.declared.order.Endian.TheVariants.{Little, Big}
use Rattle.jnode.specs.Header.{IsGood, magic, magic_of, nodetype_of, totlen_of, hdr_crc_of, header_crc_of, header_of, has_header, is_good, is_good_front, header_by_front, header_at}
use Rattle.jnode.specs.declared.order.Endian.{Endian}
use Rattle.jnode.specs.declared.header.Header.{Header}
use Rattle.jnode.proofs.OrderLemmas.{number_at-take, take_of_take, drop_of_take}

pub good_found : (e : Endian) (rest : List ℕ) → is_good e rest ≡ true → IsGood e rest
unfolding is_good is_good_front has_header
good_found e rest h =
    let parts = and_parts _ _ h in
    let front = and_parts _ _ parts.1 in
    let sizes = and_parts _ _ front.0 in
    let words = and_parts _ _ sizes.0 in
    record {
      room = leb-true _ _ parts.0;
      right_magic = eqb-true _ _ words.0;
      checksum = eqb-true _ _ words.1;
      least = leb-true _ _ sizes.1;
      within = leb-true _ _ front.1;
    }

pub good_again : (e : Endian) (rest : List ℕ) → IsGood e rest → is_good e rest ≡ true
unfolding is_good is_good_front has_header
good_again e rest good =
    and_from _ _ (le-leb _ _ good.room)
    (and_from _ _ (and_from _ _ (and_from _ _ (eq-eqb _ _ good.right_magic) (eq-eqb _ _ good.checksum)) (le-leb _ _ good.least)) (le-leb _ _ good.within))

pub good_is_computed : (e : Endian) (rest : List ℕ) → IsTrue (is_good e rest) ↔ IsGood e rest
good_is_computed e rest = (good_found e rest, good_again e rest)

found_if : {P : Type 0} (b : Bool) (h : Header) → IsTrue b ↔ P → IsSome (cond b (Some h) None) ↔ P
found_if true h both = both
found_if false h both = both

fields_if : (b : Bool) (h : Header) → IfSome (cond b (Some h) None) (λ header. header ≡ h)
fields_if true h = refl
fields_if false h = tt

-- ---- a header is its twelve bytes

pub header_crc_of-take : (e : Endian) (m : ℕ) (xs : List ℕ) → 8 ≤ m → header_crc_of e (take m xs) ≡ header_crc_of e xs
unfolding header_crc_of
header_crc_of-take e m xs h =
    let front : take 2 (take m xs) ≡ take 2 xs = take_of_take 2 m xs (omega arith) in
    let kind : nodetype_of e (take m xs) ≡ nodetype_of e xs = number_at-take e 2 2 m xs (omega arith) in
    let size : take 4 (drop 4 (take m xs)) ≡ take 4 (drop 4 xs) =
    ap (take 4) (drop_of_take 4 m xs (omega arith)) ∙ take_of_take 4 (m - 4) (drop 4 xs) (omega arith) in
    ap₂ (λ (x y : List ℕ). crc_of (x ++ y))
    (ap₂ (λ (x : List ℕ) (t : ℕ). x ++ bytes_in e 2 (bit_or t 0x2000)) front kind) size

pub has_header-take : (e : Endian) (m : ℕ) (xs : List ℕ) → 12 ≤ m → has_header e (take m xs) ≡ has_header e xs
unfolding has_header
has_header-take e m xs h =
    ap₂ (λ (a : ℕ) (b : Bool). (a == magic) && b) (number_at-take e 2 0 m xs (omega arith))
    (ap₂ (λ (a b : ℕ). a == b) (number_at-take e 4 8 m xs (omega arith)) (header_crc_of-take e m xs (omega arith)))

pub header_of-take : (e : Endian) (m : ℕ) (xs : List ℕ) → 12 ≤ m → header_of e (take m xs) ≡ header_of e xs
header_of-take e m xs h =
    rw (number_at-take e 2 2 m xs (omega arith), number_at-take e 4 4 m xs (omega arith)) refl

pub header_by_front-take : (e : Endian) (m len : ℕ) (xs : List ℕ) → 12 ≤ m → header_by_front e (take m xs) len ≡ header_by_front e xs len
unfolding is_good_front
header_by_front-take e m len xs h =
    rw (has_header-take e m xs h, number_at-take e 2 2 m xs (omega arith), number_at-take e 4 4 m xs (omega arith)) refl

pub header_is_twelve_bytes : (e : Endian) (a b : List ℕ) → take 12 a ≡ take 12 b → (has_header e a ≡ has_header e b) × (header_of e a ≡ header_of e b)
header_is_twelve_bytes e a b same = (
  sym (has_header-take e 12 a (omega arith)) ∙ ap (has_header e) same ∙ has_header-take e 12 b (omega arith),
  sym (header_of-take e 12 a (omega arith)) ∙ ap (header_of e) same ∙ header_of-take e 12 b (omega arith),
)

pub header_holds : (e : Endian) (bytes : List ℕ) → magic_of e bytes ≡ magic → hdr_crc_of e bytes ≡ header_crc_of e bytes → has_header e bytes ≡ true
unfolding has_header
header_holds e bytes right_magic checksum = and_from _ _ (eq-eqb _ _ right_magic) (eq-eqb _ _ checksum)

pub good_from : (e : Endian) (rest : List ℕ) → has_header e rest ≡ true → 12 ≤ length rest → 12 ≤ totlen_of e rest → totlen_of e rest ≤ length rest
    → is_good e rest ≡ true
unfolding is_good is_good_front
good_from e rest header room least within =
    and_from _ _ (le-leb _ _ room) (and_from _ _ (and_from _ _ header (le-leb _ _ least)) (le-leb _ _ within))

-- ---- where there is no good header

-- without the magic there is none
pub no_magic : (e : Endian) (rest : List ℕ) → (magic_of e rest == magic) ≡ false → is_good e rest ≡ false
unfolding is_good is_good_front has_header
no_magic e rest none = and_right _ _ (and_left _ _ (and_left _ _ (and_left _ _ none)))

-- nor without a header
pub no_header : (e : Endian) (rest : List ℕ) → has_header e rest ≡ false → is_good e rest ≡ false
unfolding is_good is_good_front
no_header e rest none = and_right _ _ (and_left _ _ (and_left _ _ none))

-- nor in fewer than twelve bytes
pub too_short : (e : Endian) (rest : List ℕ) → length rest < 12 → is_good e rest ≡ false
unfolding is_good
too_short e rest short = and_left _ _ (lt-leb 12 (length rest) short)

-- nor where the node would pass the block's end
pub too_long : (e : Endian) (rest : List ℕ) → length rest < totlen_of e rest → is_good e rest ≡ false
unfolding is_good is_good_front
too_long e rest long = and_right _ _ (and_right _ _ (lt-leb (totlen_of e rest) (length rest) long))

pub erased_is_not_good : (e : Endian) (n : ℕ) → is_good e (erased n) ≡ false
unfolding number_in
erased_is_not_good e zero = too_short e [] (omega arith)
erased_is_not_good e (suc zero) = too_short e (0xFF ∷ []) (omega arith)
erased_is_not_good Little (suc (suc n)) = no_magic Little (erased (suc (suc n))) refl
erased_is_not_good Big (suc (suc n)) = no_magic Big (erased (suc (suc n))) refl

-- ---- the header at the start of the rest of a block

pub header_at-short : (e : Endian) (rest : List ℕ) → length rest < 12 → None ≡ header_at e rest
unfolding is_good
header_at-short e rest short = rw (lt-leb 12 (length rest) short) refl

pub header_at-front : (e : Endian) (rest : List ℕ) → 12 ≤ length rest → header_by_front e rest (length rest) ≡ header_at e rest
unfolding is_good
header_at-front e rest room = rw (le-leb 12 (length rest) room) refl

pub header_in-front : (e : Endian) (rest front : List ℕ) → 12 ≤ length rest → front ≡ take 12 rest → header_by_front e front (length rest) ≡ header_at e rest
header_in-front e rest front room same =
    ap (λ (xs : List ℕ). header_by_front e xs (length rest)) same ∙ header_by_front-take e 12 (length rest) rest (omega arith) ∙ header_at-front e rest room

pub header_found : (e : Endian) (rest : List ℕ) (found : Option Header) → found ≡ header_at e rest → IsSome found ↔ IsGood e rest
header_found e rest found same = rw same (found_if (is_good e rest) (header_of e rest) (good_is_computed e rest))

pub header_fields : (e : Endian) (rest : List ℕ) (found : Option Header) → found ≡ header_at e rest → IfSome found (λ header. header ≡ header_of e rest)
header_fields e rest found same = rw same (fields_if (is_good e rest) (header_of e rest))
