-- The number of a device and its bytes.
use Rattle.std.proofs.Common.{◌≡◌, ℕ, ◌+◌, ◌*◌, ◌/◌, ◌%◌, ◌^◌, ◌<◌, ◌≤◌, cond, List, [], ◌++◌, length, Option, Some, None, refl, ap, sym, ◌∙◌, arith}
use Rattle.std.specs.Prelude.{◌&&◌, ◌==◌, nat_le, option_map}
use Rattle.std.proofs.lemmas.Bool.{and_parts, cond_both, leb-true}
use Rattle.std.proofs.lemmas.List.{append-nil}
use Rattle.jnode.specs.Order.{bytes_in, number_in}
use Rattle.jnode.specs.declared.order.Endian.{Endian}
use Rattle.jnode.specs.declared.order.Endian.TheVariants.{Little, Big}
use Rattle.jnode.proofs.OrderLemmas.{number_in-bytes_in}
use Rattle.jmount.specs.Device.{number_held, major_and_minor}
use Rattle.jmount.specs.declared.object.DeviceBytes.{DeviceBytes}
use Rattle.jmount.specs.declared.object.DeviceBytes.TheVariants.{Two, Four}
use Rattle.jsteps.specs.Device.{device_number, old_number, new_number}
use Rattle.jsteps.specs.Laws as law

two_long : (e : Endian) (x : ℕ) → length (bytes_in e 2 x) ≡ 2
unfolding bytes_in
two_long Little x = refl
two_long Big x = refl

four_long : (e : Endian) (x : ℕ) → length (bytes_in e 4 x) ≡ 4
unfolding bytes_in
four_long Little x = refl
four_long Big x = refl

held_by_length : List ℕ → ℕ → Option DeviceBytes
held_by_length bytes n = cond (n == 2) (Some (Two bytes)) (cond (n == 4) (Some (Four bytes)) None)

two_held : (bytes : List ℕ) → length bytes ≡ 2 → number_held bytes ≡ Some (Two bytes)
unfolding held_by_length
two_held bytes long = ap (held_by_length bytes) long

four_held : (bytes : List ℕ) → length bytes ≡ 4 → number_held bytes ≡ Some (Four bytes)
unfolding held_by_length
four_held bytes long = ap (held_by_length bytes) long

reads_back : (e : Endian) (n x : ℕ) → x < 256 ^ n → number_in e n (bytes_in e n x) ≡ x
reads_back e n x small = ap (number_in e n) (sym (append-nil (bytes_in e n x))) ∙ number_in-bytes_in e n x [] small

pair : (a b c d : ℕ) → a ≡ c → b ≡ d → ◌≡◌ {A = Option (ℕ × ℕ)} (Some (a, b)) (Some (c, d))
pair a b c d same other = λ i. Some (same i, other i)

-- ---- two bytes

old_major : (major minor : ℕ) → minor ≤ 255 → (major * 256 + minor) / 256 ≡ major
old_major major minor small = omega arith

old_minor : (major minor : ℕ) → minor ≤ 255 → (major * 256 + minor) % 256 ≡ minor
old_minor major minor small = omega arith

old_reads : (e : Endian) (major minor : ℕ) → major ≤ 255 → minor ≤ 255
    → option_map (major_and_minor e) (number_held (bytes_in e 2 (old_number major minor))) ≡ Some (major, minor)
old_reads e major minor small_major small_minor =
    let x = old_number major minor in
    let n : number_in e 2 (bytes_in e 2 x) ≡ major * 256 + minor = reads_back e 2 x (omega arith) in
    ap (option_map (major_and_minor e)) (two_held (bytes_in e 2 x) (two_long e x))
    ∙ pair (number_in e 2 (bytes_in e 2 x) / 256) (number_in e 2 (bytes_in e 2 x) % 256) major minor
    (ap (λ (k : ℕ). k / 256) n ∙ old_major major minor small_minor) (ap (λ (k : ℕ). k % 256) n ∙ old_minor major minor small_minor)

-- ---- four bytes

new_is : (major minor : ℕ) → major ≤ 4095 → minor ≤ 1048575 → new_number major minor ≡ minor % 256 + major * 256 + minor / 256 * 1048576
new_is major minor small_major small_minor =
    let high : minor / 256 ≤ 4095 = omega arith in
    let same : minor / 256 % 4096 ≡ minor / 256 = omega arith in
    let kept : major % 4096 ≡ major = omega arith in
    omega arith

new_major : (low major high : ℕ) → low < 256 → major ≤ 4095 → (low + major * 256 + high * 1048576) / 256 % 4096 ≡ major
new_major low major high small within =
    let front : (low + major * 256 + high * 1048576) / 256 ≡ major + high * 4096 = omega arith in
    ap (λ (k : ℕ). k % 4096) front ∙ omega arith

new_minor : (low major high : ℕ) → low < 256 → major ≤ 4095
    → (low + major * 256 + high * 1048576) % 256 + (low + major * 256 + high * 1048576) / 1048576 * 256 ≡ low + high * 256
new_minor low major high small within =
    let lowest : (low + major * 256 + high * 1048576) % 256 ≡ low = omega arith in
    let highest : (low + major * 256 + high * 1048576) / 1048576 ≡ high = omega arith in
    omega arith

new_reads : (e : Endian) (major minor : ℕ) → major ≤ 4095 → minor ≤ 1048575
    → option_map (major_and_minor e) (number_held (bytes_in e 4 (new_number major minor))) ≡ Some (major, minor)
new_reads e major minor small_major small_minor =
    let x = new_number major minor in
    let low = minor % 256 in
    let high = minor / 256 in
    let is : x ≡ low + major * 256 + high * 1048576 = new_is major minor small_major small_minor in
    let below : low < 256 = omega arith in
    let most : high ≤ 4095 = omega arith in
    let n : number_in e 4 (bytes_in e 4 x) ≡ low + major * 256 + high * 1048576 = reads_back e 4 x (omega arith) ∙ is in
    let whole : low + high * 256 ≡ minor = omega arith in
    ap (option_map (major_and_minor e)) (four_held (bytes_in e 4 x) (four_long e x))
    ∙ pair (number_in e 4 (bytes_in e 4 x) / 256 % 4096) (number_in e 4 (bytes_in e 4 x) % 256 + number_in e 4 (bytes_in e 4 x) / 1048576 * 256) major minor
    (ap (λ (k : ℕ). k / 256 % 4096) n ∙ new_major low major high below small_major)
    (ap (λ (k : ℕ). k % 256 + k / 1048576 * 256) n ∙ new_minor low major high below small_major ∙ whole)

pub device_number_reads_back : law.DeviceNumberReadsBack
unfolding device_number
device_number_reads_back e major minor small_major small_minor =
    cond_both (nat_le major 255 && nat_le minor 255) (bytes_in e 2 (old_number major minor)) (bytes_in e 4 (new_number major minor))
    (λ (l : List ℕ). option_map (major_and_minor e) (number_held l) ≡ Some (major, minor))
    (λ old.
    let both = and_parts (nat_le major 255) (nat_le minor 255) old in
    old_reads e major minor (leb-true major 255 both.0) (leb-true minor 255 both.1))
    (λ new. new_reads e major minor small_major small_minor)
