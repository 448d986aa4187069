-- Which bytes the words of a listing have.
use Rattle.std.proofs.Common.{◌≡◌, ℕ, zero, suc, ◌+◌, ◌/◌, ◌%◌, ◌^◌, ◌<◌, ◌≤◌, ◌==◌, Bool, true, false, cond, ◌&&◌, nat_lt, List, [], ◌∷◌, sym, subst, refl, arith}
use Rattle.std.specs.List.{All, flat_map}
use Rattle.std.proofs.lemmas.List.Elements.{All-nil, All-cons, All-append, All-from_recursion, All-weaker}
use Rattle.std.proofs.lemmas.Bool.Decides.{nat_tests}
use Rattle.std.proofs.lemmas.Bool.{cases_lt, ltb-true, ne_eqb}
use Rattle.std.proofs.Math.Logic.{⊎_elim}
use Rattle.std.proofs.Math.Utf8.{encode, encodes, scalar, scalars, scalar_cases, next}
use Rattle.std.specs.Str.{IsUtf8}
use Rattle.std.specs.Str.Parse.{AllDigits}
use Rattle.std.specs.Fmt.{decimal}
use Rattle.std.proofs.lemmas.Fmt.{decimal_is_IsNumeral}
use Rattle.jline.specs.Words.{escaped_byte, hex_digit, is_plain, octal, word_byte, word_of}
use Rattle.jline.proofs.WordLemmas.{octal_one_digit, octal_more}

-- a word: neither a space nor a line feed
pub record IsPlain (w : List ℕ) : Type 0 where
  pub spaces : All (λ b. (b == 32) ≡ false) w
  pub feeds : All (λ b. (b == 10) ≡ false) w

-- bytes that are seen, each past the space
abbrev pub IsSeen : ℕ → Type 0
IsSeen b = 33 ≤ b

abbrev pub Seen : List ℕ → Type 0
Seen w = All IsSeen w

pub seen_plain : (w : List ℕ) → Seen w → IsPlain w
seen_plain w all = record {
  spaces = All-weaker IsSeen (λ b. (b == 32) ≡ false) (λ b seen. ne_eqb b 32 (λ e. omega arith)) w all;
  feeds = All-weaker IsSeen (λ b. (b == 10) ≡ false) (λ b seen. ne_eqb b 10 (λ e. omega arith)) w all;
}

-- ---- digits

digits_seen : (ds : List ℕ) → AllDigits 10 ds → Seen ds
digits_seen [] all = All-nil IsSeen
digits_seen (d ∷ ds) all =
    let seen : IsSeen d = grind (arith, nat_tests, all.0) in
    All-cons IsSeen d ds seen (digits_seen ds all.1)

pub decimal_seen : (n : ℕ) → n < 2 ^ 64 → Seen (decimal n)
decimal_seen n small = digits_seen (decimal n) (decimal_is_IsNumeral n small).0.1

hex_digit_seen : (d : ℕ) → IsSeen (hex_digit d)
hex_digit_seen d = grind (arith, nat_tests)

one_seen : (b : ℕ) → IsSeen b → Seen (b ∷ [])
one_seen b seen = All-cons IsSeen b [] seen (All-nil IsSeen)

octal_seen_within : (k n : ℕ) → n < 8 ^ suc k → n < 2 ^ 32 → Seen (octal n)
octal_seen_within zero n within small = subst Seen (sym (octal_one_digit n (omega arith))) (one_seen (hex_digit (n % 8)) (hex_digit_seen (n % 8)))
octal_seen_within (suc k) n within small = ⊎_elim
    (λ one. subst Seen (sym (octal_one_digit n one)) (one_seen (hex_digit (n % 8)) (hex_digit_seen (n % 8))))
    (λ large. subst Seen (sym (octal_more n large small)) (All-append IsSeen (octal (n / 8)) (hex_digit (n % 8) ∷ [])
    (octal_seen_within k (n / 8) (omega arith) (omega arith)) (one_seen (hex_digit (n % 8)) (hex_digit_seen (n % 8)))))
    (cases_lt n 8)

pub octal_seen : (n : ℕ) → n < 2 ^ 32 → Seen (octal n)
octal_seen n small = octal_seen_within 10 n (omega arith) small

-- ---- bytes

flat_map_seen : (f : ℕ → List ℕ) → ((b : ℕ) → Seen (f b)) → (bytes : List ℕ) → Seen (flat_map f bytes)
flat_map_seen f each [] = All-nil IsSeen
flat_map_seen f each (b ∷ bytes) = All-append IsSeen (f b) (flat_map f bytes) (each b) (flat_map_seen f each bytes)

escape_seen : (b : ℕ) → Seen (92 ∷ 120 ∷ hex_digit (b / 16) ∷ hex_digit (b % 16) ∷ [])
escape_seen b =
    let last = one_seen (hex_digit (b % 16)) (hex_digit_seen (b % 16)) in
    let both = All-cons IsSeen (hex_digit (b / 16)) (hex_digit (b % 16) ∷ []) (hex_digit_seen (b / 16)) last in
    let three = All-cons IsSeen 120 (hex_digit (b / 16) ∷ hex_digit (b % 16) ∷ []) (omega arith) both in
    All-cons IsSeen 92 (120 ∷ hex_digit (b / 16) ∷ hex_digit (b % 16) ∷ []) (omega arith) three

plain_seen : (b : ℕ) → is_plain b ≡ true → IsSeen b
plain_seen b is = grind (arith, nat_tests)

escaped_byte_seen : (b : ℕ) → Seen (escaped_byte b)
escaped_byte_seen b = by (is_plain b) refl
  where
    by : (plain : Bool) → is_plain b ≡ plain → Seen (cond plain (b ∷ []) (92 ∷ 120 ∷ hex_digit (b / 16) ∷ hex_digit (b % 16) ∷ []))
    by true is = one_seen b (plain_seen b is)
    by false is = escape_seen b

word_byte_seen : (b : ℕ) → Seen (word_byte b)
word_byte_seen b = by (b == 47) refl
  where
    by : (slash : Bool) → (b == 47) ≡ slash → Seen (cond slash (b ∷ []) (escaped_byte b))
    by true is = one_seen b (grind (arith, nat_tests))
    by false is = escaped_byte_seen b

pub word_of_seen : (bytes : List ℕ) → Seen (word_of bytes)
word_of_seen bytes = flat_map_seen word_byte word_byte_seen bytes

-- ---- text

abbrev pub IsByte : ℕ → Type 0
IsByte b = b < 256

next_byte : (n : ℕ) → next n < 256
next_byte n = omega arith

encode_bytes : (c : ℕ) → c < 1114112 → All IsByte (encode c)
unfolding encode
encode_bytes c small = by (nat_lt c 128) (nat_lt c 2048) (nat_lt c 65536) refl refl refl
  where
    one : c < 128 → All IsByte (c ∷ [])
    one low = All-from_recursion IsByte (c ∷ []) (omega arith, tt)

    two : c < 2048 → All IsByte ((192 + c / 64) ∷ next c ∷ [])
    two low = All-from_recursion IsByte ((192 + c / 64) ∷ next c ∷ []) (omega arith, (next_byte c, tt))

    three : c < 65536 → All IsByte ((224 + c / 4096) ∷ next (c / 64) ∷ next c ∷ [])
    three low = All-from_recursion IsByte ((224 + c / 4096) ∷ next (c / 64) ∷ next c ∷ []) (omega arith, (next_byte (c / 64), (next_byte c, tt)))

    four : All IsByte ((240 + c / 262144) ∷ next (c / 4096) ∷ next (c / 64) ∷ next c ∷ [])
    four = All-from_recursion IsByte ((240 + c / 262144) ∷ next (c / 4096) ∷ next (c / 64) ∷ next c ∷ []) (omega arith, (next_byte (c / 4096), (next_byte (c / 64), (next_byte c, tt))))

    by : (x y z : Bool) → nat_lt c 128 ≡ x → nat_lt c 2048 ≡ y → nat_lt c 65536 ≡ z
        → All IsByte (cond x (c ∷ []) (cond y ((192 + c / 64) ∷ next c ∷ []) (cond z ((224 + c / 4096) ∷ next (c / 64) ∷ next c ∷ []) ((240 + c / 262144) ∷ next (c / 4096) ∷ next (c / 64) ∷ next c ∷ []))))
    by true y z e f g = one (omega (arith, ltb-true _ _ e))
    by false true z e f g = two (omega (arith, ltb-true _ _ f))
    by false false true e f g = three (omega (arith, ltb-true _ _ g))
    by false false false e f g = four

encodes_bytes : (cs : List ℕ) → scalars cs ≡ true → All IsByte (encodes cs)
encodes_bytes [] is = All-nil IsByte
encodes_bytes (c ∷ cs) is =
    let both = and_true (scalar c) (scalars cs) is in
    All-append IsByte (encode c) (encodes cs) (encode_bytes c (scalar_low c both.0)) (encodes_bytes cs both.1)
  where
    and_true : (a b : Bool) → (a && b) ≡ true → (a ≡ true) × (b ≡ true)
    and_true true b e = (refl, e)
    and_true false b e = cc

    scalar_low : (c : ℕ) → scalar c ≡ true → c < 1114112
    scalar_low c e = ⊎_elim (λ low. omega arith) (λ high. high.1) (scalar_cases c e)

pub text_bytes : (bytes : List ℕ) → IsUtf8 bytes → All IsByte bytes
text_bytes bytes is = subst (All IsByte) is.1.1 (encodes_bytes is.0 is.1.0)
