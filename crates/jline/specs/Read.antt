-- The bytes that a word of text stands for.
use Rattle.std.specs.Prelude.{◌≡◌, Result, Ok, Err, ℕ, ◌+◌, ◌-◌, ◌*◌, ◌==◌, ◌&&◌, Bool, nat_le, List, [], ◌∷◌, Option, Some, None, option_map, option_and_then, if◌then◌else◌}
use Rattle.jline.specs.declared.fault.WordFault.{WordFault}
use Rattle.jline.specs.declared.fault.WordFault.TheVariants.{Invalid, OutOfMemory}

-- one reading after another, where each may find nothing
infixl 10 ◌>>=◌
abbrev pub ◌>>=◌ : {A B : Type 0} → Option A → (A → Option B) → Option B
o >>= f = option_and_then f o

abbrev pub is_within : ℕ → ℕ → ℕ → Bool
is_within low b high = nat_le low b && nat_le b high

-- what a hexadecimal digit stands for, in either case
abbrev pub digit_of : ℕ → Option ℕ
digit_of b =
    if is_within 48 b 57 then Some (b - 48)
    else if is_within 97 b 102 then Some (b - 87)
    else if is_within 65 b 70 then Some (b - 55)
    else None

-- the byte that two hexadecimal digits are
abbrev pub byte_of_digits : ℕ → ℕ → Option ℕ
byte_of_digits high low =
    option_and_then (λ h. option_map (λ l. 16 * h + l) (digit_of low)) (digit_of high)

abbrev pub and_byte : Option ℕ → Option (List ℕ) → Option (List ℕ)
and_byte byte bytes = option_and_then (λ b. option_map (λ bs. b ∷ bs) bytes) byte

-- the bytes of pairs of hexadecimal digits
abbrev pub pairs_of : List ℕ → Option (List ℕ)
pairs_of [] = Some []
pairs_of (high ∷ low ∷ word) = and_byte (byte_of_digits high low) (pairs_of word)
pairs_of (b ∷ []) = None

-- rule: Listings: Escapes in words.
--   definitions: jline.Read.unescaped
--   code: jline::words::unescape
--   laws: jreport::path_laws::escaped_is_read_back
-- `\x` and two hexadecimal digits are one byte, and there is no other use of `\`
abbrev pub unescaped : List ℕ → Option (List ℕ)
unescaped [] = Some []
unescaped (a ∷ b ∷ c ∷ d ∷ word) =
    if a == 92 then (if b == 120 then and_byte (byte_of_digits c d) (unescaped word) else None)
    else and_byte (Some a) (unescaped (b ∷ c ∷ d ∷ word))
unescaped (a ∷ word) = if a == 92 then None else and_byte (Some a) (unescaped word)

-- why a word is not read: it stands for nothing, or memory runs out
abbrev pub IsFaultOf : {X : Type 0} → Option X → WordFault → Type 0
IsFaultOf o Invalid = o ≡ None
IsFaultOf o OutOfMemory = Unit {0}

-- what a call answers that reads a word
abbrev pub IsRead : {X : Type 0} → Option X → Result X WordFault → Type 0
IsRead o (Ok x) = o ≡ Some x
IsRead o (Err fault) = IsFaultOf o fault
