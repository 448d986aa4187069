-- The words of a listing, and what is read of them.
use Rattle.std.proofs.Common.{◌≡◌, ℕ, zero, suc, ◌+◌, ◌-◌, ◌*◌, ◌/◌, ◌%◌, ◌^◌, ◌<◌, ◌≤◌, Bool, true, cond, List, [], ◌∷◌, ◌++◌, length, ap, sym, ◌∙◌, subst, Option, Some, None, arith, append_assoc, append-nil, length-append, ◌==◌}
use Rattle.std.specs.List.{All}
use Rattle.std.proofs.lemmas.Bool.Decides.{nat_tests}
use Rattle.std.proofs.Math.Logic.{⊎_elim}
use Rattle.std.proofs.lemmas.Bool.{cases_lt}
use Rattle.std.specs.Str.{is_utf8}
use Rattle.std.specs.Fmt.{decimal}
use Rattle.jline.specs.Words.{hex_digit, octal, word_byte, word_of}
use Rattle.jline.proofs.EscapeLemmas.{word_unescaped}
use Rattle.jline.proofs.WordLemmas.{length_octal_more, octal_one_digit, octal_more}
use Rattle.jline.specs.Read.{◌>>=◌, unescaped}
use Rattle.jlisting.specs.Words.{as_name, decimal_of, digits_from, escaped_name_of, mode_of, text_of}
use Rattle.jlisting.proofs.NumberLemmas.{decimals_are_read_back}

-- ---- paths and targets

-- some text is never a word of no bytes
read_of_some : (word : List ℕ) (read : Option (List ℕ)) → 0 < length word → cond (length word == 0) None read ≡ read
read_of_some word read some = grind (arith, nat_tests)

word_byte_some : (b : ℕ) → 0 < length (word_byte b)
word_byte_some b = grind (arith, nat_tests)

word_some : (bytes : List ℕ) → 0 < length bytes → 0 < length (word_of bytes)
word_some [] some = absurd (omega arith)
word_some (b ∷ bytes) some = subst (λ (n : ℕ). 0 < n) (sym (length-append (word_byte b) (word_of bytes))) (omega (arith, word_byte_some b))

pub text_read_back : (bytes : List ℕ) → All (λ b. b < 256) bytes → 0 < length bytes → text_of (word_of bytes) ≡ Some bytes
text_read_back bytes all some = read_of_some (word_of bytes) (unescaped (word_of bytes)) (word_some bytes some) ∙ word_unescaped bytes all

-- ---- numbers

pub number_read_back : (n : ℕ) → n < 2 ^ 32 → decimal_of 4294967295 (decimal n) ≡ Some n
number_read_back n small = decimals_are_read_back 4294967295 n (omega arith) (omega arith)

pub major_read_back : (n : ℕ) → n ≤ 4095 → decimal_of 4095 (decimal n) ≡ Some n
major_read_back n fits = decimals_are_read_back 4095 n fits (omega arith)

pub minor_read_back : (n : ℕ) → n ≤ 1048575 → decimal_of 1048575 (decimal n) ≡ Some n
minor_read_back n fits = decimals_are_read_back 1048575 n fits (omega arith)

pub owner_read_back : (n : ℕ) → n < 2 ^ 16 → decimal_of 65535 (decimal n) ≡ Some n
owner_read_back n small = decimals_are_read_back 65535 n (omega arith) (omega arith)

digit_read : (d n : ℕ) (ds : List ℕ) → d < 8 → 8 * n + d ≤ 0o777777 → digits_from 8 0o777777 n (hex_digit d ∷ ds) ≡ digits_from 8 0o777777 (8 * n + d) ds
digit_read d n ds small fits =
    let is : hex_digit d ≡ 48 + d = grind (arith, nat_tests) in
    let low : (48 + d) - 48 ≡ d = omega arith in
    subst (λ (b : ℕ). digits_from 8 0o777777 n (b ∷ ds) ≡ digits_from 8 0o777777 (8 * n + d) ds) (sym is) (grind (arith, nat_tests, low))

octal_one : (n : ℕ) (ds : List ℕ) → n < 8 → digits_from 8 0o777777 0 (octal n ++ ds) ≡ digits_from 8 0o777777 n ds
octal_one n ds small =
    let same : 8 * 0 + n % 8 ≡ n = omega arith in
    ap (λ (l : List ℕ). digits_from 8 0o777777 0 (l ++ ds)) (octal_one_digit n small)
    ∙ digit_read (n % 8) 0 ds (omega arith) (omega arith) ∙ ap (λ (m : ℕ). digits_from 8 0o777777 m ds) same

octal_read : (k n : ℕ) (ds : List ℕ) → n < 8 ^ suc k → n ≤ 0o7777 → digits_from 8 0o777777 0 (octal n ++ ds) ≡ digits_from 8 0o777777 n ds
octal_read zero n ds within fits = octal_one n ds (omega arith)
octal_read (suc k) n ds within fits = ⊎_elim (λ small. octal_one n ds small) (λ large.
    let same : 8 * (n / 8) + n % 8 ≡ n = omega arith in
    ap (λ (l : List ℕ). digits_from 8 0o777777 0 (l ++ ds)) (octal_more n large (omega arith))
    ∙ ap (digits_from 8 0o777777 0) (append_assoc (octal (n / 8)) (hex_digit (n % 8) ∷ []) ds)
    ∙ octal_read k (n / 8) (hex_digit (n % 8) ∷ ds) (omega arith) (omega arith)
    ∙ digit_read (n % 8) (n / 8) ds (omega arith) (omega arith)
    ∙ ap (λ (m : ℕ). digits_from 8 0o777777 m ds) same) (cases_lt n 8)

octal_length : (k n : ℕ) → n < 8 ^ suc k → n < 2 ^ 32 → (1 ≤ length (octal n)) × (length (octal n) ≤ suc k)
octal_length zero n within small =
    let e : length (octal n) ≡ 1 = ap length (octal_one_digit n (omega arith)) in (omega arith, omega arith)
octal_length (suc k) n within small = ⊎_elim
    (λ one. let e : length (octal n) ≡ 1 = ap length (octal_one_digit n one) in (omega arith, omega arith))
    (λ large.
    let e = length_octal_more n large small in
    let front = octal_length k (n / 8) (omega arith) (omega arith) in
    (omega (arith, e), omega (arith, e, front.1)))
    (cases_lt n 8)

pub mode_read_back : (n : ℕ) → n ≤ 0o7777 → mode_of (octal n) ≡ Some n
mode_read_back n fits =
    let few = octal_length 3 n (omega arith) (omega arith) in
    let step : mode_of (octal n) ≡ digits_from 8 0o777777 0 (octal n) = grind (arith, nat_tests, few.0, few.1) in
    step ∙ ap (digits_from 8 0o777777 0) (sym (append-nil (octal n))) ∙ octal_read 3 n [] (omega arith) fits

-- ---- names of files of the host

pub name_read_back : (file : List ℕ) → All (λ b. b < 256) file → 0 < length file → is_utf8 file ≡ true → escaped_name_of (word_of file) ≡ Some file
name_read_back file all some text =
    ap (λ (o : Option (List ℕ)). o >>= as_name) (text_read_back file all some) ∙ ap (λ (t : Bool). cond t (Some file) None) text
