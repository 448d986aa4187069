-- Bytes that are escaped, and read again.
use Rattle.std.proofs.Common.{◌≡◌, ◌≢◌, ℕ, ◌+◌, ◌*◌, ◌/◌, ◌%◌, ◌<◌, Bool, true, false, cond, List, [], ◌∷◌, ◌++◌, ap, ◌∙◌, Option, Some, option_map, option_and_then, refl, arith, ◌==◌}
use Rattle.std.specs.List.{All}
use Rattle.std.proofs.lemmas.List.Elements.{All-head, All-tail}
use Rattle.std.proofs.lemmas.Bool.Decides.{nat_tests}
use Rattle.jline.specs.Words.{escaped_byte, hex_digit, is_plain, word_byte, word_of}
use Rattle.jline.specs.Read.{byte_of_digits, digit_of, unescaped}
use Rattle.jline.proofs.ReadLemmas.{unescaped_escape, unescaped_plain}

-- ---- digits

digit_of_hex_digit : (d : ℕ) → d < 16 → digit_of (hex_digit d) ≡ Some d
digit_of_hex_digit d small = grind (arith, nat_tests)

byte_of_hex_digits : (b : ℕ) → b < 256 → byte_of_digits (hex_digit (b / 16)) (hex_digit (b % 16)) ≡ Some b
byte_of_hex_digits b small =
    let high = digit_of_hex_digit (b / 16) (omega arith) in
    let low = digit_of_hex_digit (b % 16) (omega arith) in
    let whole : 16 * (b / 16) + b % 16 ≡ b = omega arith in
    ap (λ (o : Option ℕ). option_and_then (λ h. option_map (λ l. 16 * h + l) (digit_of (hex_digit (b % 16)))) o) high
    ∙ ap (λ (o : Option ℕ). option_map (λ l. 16 * (b / 16) + l) o) low
    ∙ ap (λ (n : ℕ). Some n) whole

-- ---- escapes

pub byte_read_back : (b : ℕ) (rest : List ℕ) → b < 256 → unescaped (escaped_byte b ++ rest) ≡ option_map (λ (bytes : List ℕ). b ∷ bytes) (unescaped rest)
byte_read_back b rest small = by_kind (is_plain b) refl
  where
    by_kind : (plain : Bool) → is_plain b ≡ plain → unescaped (escaped_byte b ++ rest) ≡ option_map (λ (bytes : List ℕ). b ∷ bytes) (unescaped rest)
    by_kind true is =
        let no_backslash : b ≢ 92 = λ e. grind (arith, nat_tests) in
        ap (λ (t : Bool). unescaped (cond t (b ∷ []) (92 ∷ 120 ∷ hex_digit (b / 16) ∷ hex_digit (b % 16) ∷ []) ++ rest)) is
        ∙ unescaped_plain b rest no_backslash
    by_kind false is =
        ap (λ (t : Bool). unescaped (cond t (b ∷ []) (92 ∷ 120 ∷ hex_digit (b / 16) ∷ hex_digit (b % 16) ∷ []) ++ rest)) is
        ∙ unescaped_escape (hex_digit (b / 16)) (hex_digit (b % 16)) b rest (byte_of_hex_digits b small)

word_byte_read_back : (b : ℕ) (rest : List ℕ) → b < 256 → unescaped (word_byte b ++ rest) ≡ option_map (λ (bytes : List ℕ). b ∷ bytes) (unescaped rest)
word_byte_read_back b rest small = by_kind (b == 47) refl
  where
    by_kind : (slash : Bool) → (b == 47) ≡ slash → unescaped (word_byte b ++ rest) ≡ option_map (λ (bytes : List ℕ). b ∷ bytes) (unescaped rest)
    by_kind true is =
        let no_backslash : b ≢ 92 = λ e. grind (arith, nat_tests) in
        ap (λ (t : Bool). unescaped (cond t (b ∷ []) (escaped_byte b) ++ rest)) is ∙ unescaped_plain b rest no_backslash
    by_kind false is =
        ap (λ (t : Bool). unescaped (cond t (b ∷ []) (escaped_byte b) ++ rest)) is ∙ byte_read_back b rest small

pub word_unescaped : (bytes : List ℕ) → All (λ b. b < 256) bytes → unescaped (word_of bytes) ≡ Some bytes
word_unescaped [] all = refl
word_unescaped (b ∷ bytes) all =
    word_byte_read_back b (word_of bytes) (All-head (λ b. b < 256) b bytes all)
    ∙ ap (option_map (λ (more : List ℕ). b ∷ more)) (word_unescaped bytes (All-tail (λ b. b < 256) b bytes all))
