-- The bytes of a new object: those that its node has, but none of a device.
use Rattle.std.proofs.Common.{◌≡◌, ℕ, ◌+◌, ◌-◌, ◌<◌, ◌≤◌, Bool, true, false, cond, List, [], length, get_or, Option, Some, None, refl, ap, ◌∙◌, ltb, leb, arith}
use Rattle.std.specs.Prelude.{◌&&◌, ◌||◌, ◌==◌, unwrap_or, option_and_then}
use Rattle.std.proofs.lemmas.Bool.{cond-true, cond-false, and_from, le-leb, lt-ltb, eqb-true, false≢true}
use Rattle.jmount.specs.Tree.{ObjectOf, Outline, object, type_bits, is_device, has_bits, character_bits, block_bits, directory_bits, regular_bits}
use Rattle.jsteps.specs.Device.{device_mode}
use Rattle.jsteps.specs.Steps.{own_bytes}
use Rattle.jsteps.specs.Ready.{has_device}
use Rattle.jsteps.specs.Refusals.{fifo_bits, socket_bits, takes_attributes}
use Rattle.jsteps.specs.declared.device.DeviceKind.{DeviceKind}
use Rattle.jsteps.specs.declared.device.DeviceKind.TheVariants.{Character, Block}

pub own_short : (mode : ℕ) (held : List ℕ) → length (own_bytes mode held) ≤ length held
unfolding own_bytes
own_short mode held = short (is_device mode)
  where
    short : (b : Bool) → length (cond b [] held) ≤ length held
    short true = omega arith
    short false = omega arith

pub own_of : (mode : ℕ) (held : List ℕ) → is_device mode ≡ false → own_bytes mode held ≡ held
unfolding own_bytes
own_of mode held plain = cond-false (is_device mode) [] held plain

-- a byte of a new object, whose node's data begin at its beginning
pub own_byte : (mode : ℕ) (held : List ℕ) (i other : ℕ) → i < length (own_bytes mode held)
    → cond (leb 0 i && ltb i (0 + length held)) (get_or held (i - 0) 0) other ≡ get_or (own_bytes mode held) i 0
unfolding own_bytes
own_byte mode held i other = by (is_device mode)
  where
    by : (b : Bool) → i < length (cond b [] held) → cond (leb 0 i && ltb i (0 + length held)) (get_or held (i - 0) 0) other ≡ get_or (cond b [] held) i 0
    by true within = absurd (omega arith)
    by false within =
        let place : i - 0 ≡ i = omega arith in
        cond-true (leb 0 i && ltb i (0 + length held)) (get_or held (i - 0) 0) other
        (and_from (leb 0 i) (ltb i (0 + length held)) (le-leb 0 i (omega arith)) (lt-ltb i (0 + length held) (omega arith)))
        ∙ ap (λ k. get_or held k 0) place

-- a regular file is no device
pub regular_is_plain : (mode : ℕ) → mode ≤ 0o7777 → is_device (0o100000 + mode) ≡ false
regular_is_plain mode bits =
    let is : type_bits (0o100000 + mode) ≡ 8 = omega arith in
    ap (λ (n : ℕ). (n == 2) || (n == 6)) is

pub device_mode_small : (kind : DeviceKind) → device_mode kind ≤ 0o060000
device_mode_small Character = omega arith
device_mode_small Block = omega arith

-- ---- what is no device

pub is_plain : (bits : ℕ) → ((bits == character_bits) || (bits == block_bits)) ≡ false → (o : Option (ObjectOf ℕ)) → has_bits bits o ≡ true → has_device o ≡ false
is_plain bits other None h = refl
is_plain bits other (Some o) h = ap (λ (n : ℕ). (n == 2) || (n == 6)) (eqb-true (type_bits o.mode) bits h) ∙ other

one_of_four : (P : Type 0) (a b c d : Bool) → (a || b || c || d) ≡ true → (a ≡ true → P) → (b ≡ true → P) → (c ≡ true → P) → (d ≡ true → P) → P
one_of_four P true b c d h in_a in_b in_c in_d = in_a refl
one_of_four P false true c d h in_a in_b in_c in_d = in_b refl
one_of_four P false false true d h in_a in_b in_c in_d = in_c refl
one_of_four P false false false d h in_a in_b in_c in_d = in_d h

-- what takes attributes
takes_plain : (o : Option (ObjectOf ℕ)) → takes_attributes o ≡ true → has_device o ≡ false
takes_plain o h =
    one_of_four (has_device o ≡ false) (has_bits directory_bits o) (has_bits regular_bits o) (has_bits fifo_bits o) (has_bits socket_bits o) h
    (is_plain directory_bits refl o) (is_plain regular_bits refl o) (is_plain fifo_bits refl o) (is_plain socket_bits refl o)

pub reached_plain : (t : Outline) (n : Option ℕ) → takes_attributes (option_and_then (object t) n) ≡ true → has_device (object t (unwrap_or n 0)) ≡ false
reached_plain t None h = absurd (false≢true h)
reached_plain t (Some i) h = takes_plain (object t i) h
