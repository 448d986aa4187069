-- How strings are spelled.
use Rattle.std.proofs.Common.{◌≡◌, ℕ, zero, suc, ◌/◌, ◌%◌, ◌<◌, Bool, true, false, List, [], ◌∷◌, ◌++◌, ap, sym, refl, ◌∙◌, append_assoc, codes, arith}
use Rattle.std.specs.Prelude.{IsUtf8, nat_lt, ◌&&◌, if◌then◌else◌}
use Rattle.std.specs.List.{list_all}
use Rattle.std.proofs.lemmas.Bool.{ltb-true}
use Rattle.std.specs.Str.{IsAscii, is_utf8}
use Rattle.std.proofs.lemmas.Str.{is_utf8-from_IsUtf8, IsUtf8-from_ascii, IsUtf8-from_is_utf8}
use Rattle.jline.specs.Words.{hex, hex_digit}
use Rattle.jjson.specs.Json.{hex_pair, member, string_of, text_member}
use Rattle.jjson.specs.declared.spelling.Spelling.TheVariants as spelling

pub hex_pair_of : (b : ℕ) → b < 256 → hex 2 b ≡ hex_pair b
unfolding hex
hex_pair_of b small =
    let high : b / 16 % 16 ≡ b / 16 = omega arith in
    ap (λ (d : ℕ). hex_digit d ∷ hex_digit (b % 16) ∷ []) high

-- a text that is UTF-8, and one that is not
pub member_of_text : (name bytes : List ℕ) → IsUtf8 bytes → 44 ∷ 34 ∷ (name ++ (34 ∷ 58 ∷ string_of spelling.Text bytes)) ≡ text_member name bytes
member_of_text name bytes text =
    sym (ap (λ (b : Bool). if b then member name (string_of spelling.Text bytes) else member (name ++ codes "_bytes") (string_of spelling.Hex bytes)) (is_utf8-from_IsUtf8 bytes text))

not_utf8 : (bytes : List ℕ) → (IsUtf8 bytes → ⊥) → is_utf8 bytes ≡ false
not_utf8 bytes other = by (is_utf8 bytes) refl
  where
    by : (b : Bool) → is_utf8 bytes ≡ b → b ≡ false
    by true e = absurd (other (IsUtf8-from_is_utf8 bytes e))
    by false e = refl

pub member_of_bytes : (name bytes : List ℕ) → (IsUtf8 bytes → ⊥) → 44 ∷ 34 ∷ (name ++ (codes "_bytes\":" ++ string_of spelling.Hex bytes)) ≡ text_member name bytes
member_of_bytes name bytes other =
    ap (λ (l : List ℕ). 44 ∷ 34 ∷ l) (sym (append_assoc name (codes "_bytes") (34 ∷ 58 ∷ string_of spelling.Hex bytes)))
    ∙ sym (ap (λ (b : Bool). if b then member name (string_of spelling.Text bytes) else member (name ++ codes "_bytes") (string_of spelling.Hex bytes)) (not_utf8 bytes other))

are_ascii : (bytes : List ℕ) → list_all (λ b. nat_lt b 128) bytes ≡ true → IsAscii bytes
are_ascii [] are i = omega arith
are_ascii (b ∷ bytes) are zero = by (nat_lt b 128) refl are
  where
    by : (t : Bool) → nat_lt b 128 ≡ t → (t && list_all (λ c. nat_lt c 128) bytes) ≡ true → b < 128
    by true is both = ltb-true b 128 is
    by false is both = let no : false ≡ true = both in cc
are_ascii (b ∷ bytes) are (suc i) = are_ascii bytes (by (nat_lt b 128) are) i
  where
    by : (t : Bool) → (t && list_all (λ c. nat_lt c 128) bytes) ≡ true → list_all (λ c. nat_lt c 128) bytes ≡ true
    by true both = both
    by false both = let no : false ≡ true = both in cc

pub ascii_is_text : (bytes : List ℕ) → list_all (λ b. nat_lt b 128) bytes ≡ true → IsUtf8 bytes
ascii_is_text bytes are = IsUtf8-from_ascii bytes (are_ascii bytes are)
