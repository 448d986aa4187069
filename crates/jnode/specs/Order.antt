-- The two byte orders, and numbers in a list of bytes.
use Rattle.std.specs.Prelude.{◌≡◌, ℕ, List, drop, refl}
use Rattle.byteorder.specs.Endian.{big_bytes, big_number, little_bytes, little_number}
use Rattle.jnode.specs.declared.order.Endian.{Endian}
use Rattle.jnode.specs.declared.order.Endian.TheVariants.{Little, Big}

-- the number in the first n bytes
unfoldable pub number_in : Endian → ℕ → List ℕ → ℕ
number_in Little n bytes = little_number n bytes
number_in Big n bytes = big_number n bytes

-- the n bytes of a number
unfoldable pub bytes_in : Endian → ℕ → ℕ → List ℕ
bytes_in Little n x = little_bytes n x
bytes_in Big n x = big_bytes n x

-- rule: Bytes and nodes: All numbers are in one byte order.
--   definitions: jnode.Order.number_at, jnode.Order.bytes_in
--   code: jnode::order::Order
--   laws: jnode::laws::number_reads_back, jnode::laws::number_is_spelled
-- the number in the n bytes from a place on
abbrev pub number_at : Endian → ℕ → ℕ → List ℕ → ℕ
number_at e n place bytes = number_in e n (drop place bytes)

-- what `byteorder` says of its two orders
pub little_numbers : (n : ℕ) (bytes : List ℕ) → little_number n bytes ≡ number_in Little n bytes
unfolding number_in
little_numbers n bytes = refl

pub big_numbers : (n : ℕ) (bytes : List ℕ) → big_number n bytes ≡ number_in Big n bytes
unfolding number_in
big_numbers n bytes = refl

pub little_spelled : (n x : ℕ) → little_bytes n x ≡ bytes_in Little n x
unfolding bytes_in
little_spelled n x = refl

pub big_spelled : (n x : ℕ) → big_bytes n x ≡ bytes_in Big n x
unfolding bytes_in
big_spelled n x = refl
