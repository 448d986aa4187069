-- What an image that is counted is judged to be.
use Rattle.std.proofs.Common.{◌≡◌, ℕ, ◌+◌, ◌-◌, ◌*◌, ◌/◌, ◌%◌, ◌<◌, ◌≤◌, Bool, true, false, not, cond, List, length, map, count_by, refl, sym, ap, subst, ◌∙◌, arith, Option, None, Some, nat_le, nat_lt, IsTrue, ⊎_elim}
use Rattle.std.specs.Option.{option_or}
use Rattle.std.proofs.lemmas.Bool.{leb-true, le-leb, ltb-true, lt-ltb, leb-false, eqb-true, cases_Bool, and_from, and_parts, cond-true, cond-false}
use Rattle.std.proofs.lemmas.Nat.{le-div, div-add-mod'}
use Rattle.jnode.specs.declared.order.Endian.{Endian}
use Rattle.jscan.specs.Image.{is_block_size, greatest_image, sightings}
use Rattle.jscan.specs.Scans.{IsScannable, is_read_only}
use Rattle.jlog.specs.Places.{fit, needed, free, end_of_all, is_writable_flash}
use Rattle.jlog.specs.Output.{output}
use Rattle.jexpand.specs.Expanded.{expanded_nodes}
use Rattle.jexpand.specs.Refused.{nodes_fault}
use Rattle.jexpand.specs.declared.fault.ConvertFault.{ConvertFault}
use Rattle.jexpand.specs.declared.fault.ConvertFault.TheVariants as fault
use Rattle.jconvert.specs.Converting.{least_written, greatest_blocks, expanded_forms, converted_image, flash_fault, convert_fault}

-- ---- choices

if_true : {X : Type 0} (b : Bool) (x y : X) → b ≡ true → cond b x y ≡ x
if_true b x y h = cond-true b x y h

pub if_false : {X : Type 0} (b : Bool) (x y : X) → b ≡ false → cond b x y ≡ y
if_false b x y h = cond-false b x y h

pub unless_none : (b : Bool) (f : ConvertFault) (o : Option ConvertFault) → cond b (Some f) o ≡ None → (b ≡ false) × (o ≡ None)
unless_none true f o h = absurd (cc)
unless_none false f o h = (refl, h)

where_none : (b : Bool) (f : ConvertFault) → cond b None (Some f) ≡ None → b ≡ true
where_none true f h = refl
where_none false f h = absurd (cc)

pub both_none : (o p : Option ConvertFault) → option_or o p ≡ None → (o ≡ None) × (p ≡ None)
both_none None p h = (refl, h)
both_none (Some f) p h = absurd (cc)

pub not_true : (b : Bool) → not b ≡ false → b ≡ true
not_true true h = refl
not_true false h = absurd (cc)

pub not_less : (a b : ℕ) → nat_lt a b ≡ false → b ≤ a
not_less a b h = ⊎_elim (λ inside. let it : b ≤ a = leb-true _ _ inside in it) (λ outside. let above : a < b = leb-false _ _ outside in let t : nat_lt a b ≡ true = lt-ltb a b above in let clash : true ≡ false = sym t ∙ h in absurd (cc)) (cases_Bool (nat_le b a))

pub no_less : (a b : ℕ) → b ≤ a → nat_lt a b ≡ false
no_less a b h = ⊎_elim (λ inside. let up : a < b = ltb-true _ _ inside in absurd (omega arith)) (λ outside. outside) (cases_Bool (nat_lt a b))

-- ---- what is not refused

pub record Accepted (e : Endian) (size : ℕ) (image : List ℕ) : Type 0 where
  pub size_is : IsTrue (is_block_size size)
  pub small : length image ≤ greatest_image
  pub none : nodes_fault e size image ≡ None
  pub writable : is_read_only e size image ≡ false
  pub least : least_written ≤ size
  pub fits : IsTrue (fit size (greatest_blocks size) 0 (expanded_forms e size image))

pub accepted : (e : Endian) (size : ℕ) (image : List ℕ) → convert_fault e size image ≡ None → Accepted e size image
accepted e size image h =
    let sized = unless_none (not (is_block_size size)) fault.BlockSize _ h in
    let long = unless_none (nat_lt greatest_image (length image)) fault.TooLarge _ sized.1 in
    let both = both_none (nodes_fault e size image) (flash_fault e size image) long.1 in
    let forbids = unless_none (is_read_only e size image) fault.ReadOnly _ both.1 in
    let least = unless_none (nat_lt size least_written) fault.Geometry _ forbids.1 in
    record {
      size_is = not_true (is_block_size size) sized.0;
      small = not_less greatest_image (length image) long.0;
      none = both.0;
      writable = forbids.0;
      least = not_less size least_written least.0;
      fits = where_none (fit size (greatest_blocks size) 0 (expanded_forms e size image)) _ least.1;
    }

-- ---- why it is refused

pub wrong_size : (e : Endian) (size : ℕ) (image : List ℕ) → is_block_size size ≡ false → convert_fault e size image ≡ Some fault.BlockSize
wrong_size e size image h = if_true (not (is_block_size size)) (Some fault.BlockSize) _ (ap not h)

pub too_large : (e : Endian) (size : ℕ) (image : List ℕ) → is_block_size size ≡ true → greatest_image < length image → convert_fault e size image ≡ Some fault.TooLarge
too_large e size image is above =
    if_false (not (is_block_size size)) (Some fault.BlockSize) _ (ap not is)
    ∙ if_true (nat_lt greatest_image (length image)) (Some fault.TooLarge) _ (lt-ltb _ _ above)

-- of an image that can be scanned its nodes decide, and then the flash
pub scanned_fault : (e : Endian) (size : ℕ) (image : List ℕ) → IsScannable size image
    → convert_fault e size image ≡ option_or (nodes_fault e size image) (flash_fault e size image)
scanned_fault e size image is =
    if_false (not (is_block_size size)) (Some fault.BlockSize) _ (ap not is.0)
    ∙ if_false (nat_lt greatest_image (length image)) (Some fault.TooLarge) _ (no_less greatest_image (length image) is.1)

pub node_refused : (e : Endian) (size : ℕ) (image : List ℕ) (f : ConvertFault) → IsScannable size image → nodes_fault e size image ≡ Some f → convert_fault e size image ≡ Some f
node_refused e size image f is some = scanned_fault e size image is ∙ ap (λ (o : Option ConvertFault). option_or o (flash_fault e size image)) some

pub flash_decides : (e : Endian) (size : ℕ) (image : List ℕ) → IsScannable size image → nodes_fault e size image ≡ None → convert_fault e size image ≡ flash_fault e size image
flash_decides e size image is none = scanned_fault e size image is ∙ ap (λ (o : Option ConvertFault). option_or o (flash_fault e size image)) none

pub forbids : (e : Endian) (size : ℕ) (image : List ℕ) → IsScannable size image → nodes_fault e size image ≡ None → is_read_only e size image ≡ true
    → convert_fault e size image ≡ Some fault.ReadOnly
forbids e size image is none inside = flash_decides e size image is none ∙ if_true (is_read_only e size image) (Some fault.ReadOnly) _ inside

pub small_blocks : (e : Endian) (size : ℕ) (image : List ℕ) → IsScannable size image → nodes_fault e size image ≡ None → is_read_only e size image ≡ false
    → size < least_written → convert_fault e size image ≡ Some fault.Geometry
small_blocks e size image is none outside below =
    flash_decides e size image is none ∙ (if_false (is_read_only e size image) (Some fault.ReadOnly) _ outside
    ∙ if_true (nat_lt size least_written) (Some fault.Geometry) _ (lt-ltb _ _ below))

room_decides : (e : Endian) (size : ℕ) (image : List ℕ) → IsScannable size image → nodes_fault e size image ≡ None → is_read_only e size image ≡ false
    → least_written ≤ size → convert_fault e size image
    ≡ cond (fit size (greatest_blocks size) 0 (expanded_forms e size image)) None
    (Some (fault.Full (needed (expanded_forms e size image)) (free size (greatest_blocks size) 0)))
room_decides e size image is none outside least =
    flash_decides e size image is none ∙ (if_false (is_read_only e size image) (Some fault.ReadOnly) _ outside
    ∙ if_false (nat_lt size least_written) (Some fault.Geometry) _ (no_less size least_written least))

pub full : (e : Endian) (size : ℕ) (image : List ℕ) → IsScannable size image → nodes_fault e size image ≡ None → is_read_only e size image ≡ false
    → least_written ≤ size → fit size (greatest_blocks size) 0 (expanded_forms e size image) ≡ false
    → convert_fault e size image ≡ Some (fault.Full (needed (expanded_forms e size image)) (free size (greatest_blocks size) 0))
full e size image is none outside least out = room_decides e size image is none outside least ∙ if_false _ None _ out

pub fitting : (e : Endian) (size : ℕ) (image : List ℕ) → IsScannable size image → nodes_fault e size image ≡ None → is_read_only e size image ≡ false
    → least_written ≤ size → IsTrue (fit size (greatest_blocks size) 0 (expanded_forms e size image)) → convert_fault e size image ≡ None
fitting e size image is none outside least room = room_decides e size image is none outside least ∙ if_true _ None _ room

-- ---- the greatest flash

-- it may be written, where blocks are
pub flash_is : (size : ℕ) → IsTrue (is_block_size size) → least_written ≤ size → IsTrue (is_writable_flash size (greatest_blocks size))
flash_is size is least =
    let parts = and_parts _ _ is in
    let both = and_parts _ _ parts.0 in
    let most : size ≤ 4194304 = leb-true _ _ both.1 in
    let some : 64 ≤ greatest_blocks size = le-div 64 greatest_image size (omega arith) (omega arith) in
    let within : greatest_blocks size * size ≤ greatest_image = omega (arith, div-add-mod' greatest_image size) in
    and_from _ _ (and_from _ _ (and_from _ _ is (le-leb 8192 size least)) (lt-ltb 0 (greatest_blocks size) (omega arith))) (le-leb _ _ within)
