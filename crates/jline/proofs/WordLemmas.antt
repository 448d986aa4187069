-- The digits of a number, one at a time.
use Rattle.std.proofs.Common.{◌≡◌, ℕ, zero, suc, ◌-◌, ◌/◌, ◌%◌, ◌^◌, ◌<◌, ◌≤◌, ◌+◌, false, cond, List, [], ◌∷◌, ◌++◌, length, refl, sym, ap, arith, append-nil, append_assoc, length-append, ◌∙◌}
use Rattle.std.proofs.Math.Logic.{⊎_elim}
use Rattle.std.proofs.lemmas.Bool.{eq-eqb, ne_eqb, cases_lt}
use Rattle.std.specs.Fmt.{digits, digits_onto, digit_glyph}
use Rattle.jline.specs.Words.{hex, hex_digit, octal}

-- ---- hexadecimal digits, as many as are asked for

pub hex_none : (k n : ℕ) (before : List ℕ) → k ≡ 0 → before ≡ before ++ hex k n
unfolding hex
hex_none zero n before e = sym (append-nil before)
hex_none (suc k) n before e = absurd (omega arith)

pub hex_more : (k n : ℕ) → 0 < k → hex k n ≡ hex (k - 1) (n / 16) ++ hex_digit (n % 16) ∷ []
unfolding hex
hex_more zero n some = absurd (omega arith)
hex_more (suc k) n some =
    let e : suc k - 1 ≡ k = omega arith in
    ap (λ j. hex j (n / 16) ++ hex_digit (n % 16) ∷ []) (sym e)

-- ---- octal digits, as many as there are

abbrev spelled : ℕ → ℕ → List ℕ → List ℕ
spelled k n acc = digits_onto k 8 false n acc

abbrev last_digit : ℕ → ℕ
last_digit n = digit_glyph false (n % 8)

spelled_last : (k n : ℕ) (acc : List ℕ) → n < 8 → spelled (suc k) n acc ≡ last_digit n ∷ acc
spelled_last k n acc small = ap (λ t. cond t (last_digit n ∷ acc) (spelled k (n / 8) (last_digit n ∷ acc))) (eq-eqb (n / 8) 0 (omega arith))

spelled_next : (k n : ℕ) (acc : List ℕ) → 8 ≤ n → spelled (suc k) n acc ≡ spelled k (n / 8) (last_digit n ∷ acc)
spelled_next k n acc large = ap (λ t. cond t (last_digit n ∷ acc) (spelled k (n / 8) (last_digit n ∷ acc))) (ne_eqb (n / 8) 0 (λ e. omega arith))

spelled-append : (k n : ℕ) (acc : List ℕ) → spelled k n acc ≡ spelled k n [] ++ acc
spelled-append zero n acc = refl
spelled-append (suc k) n acc = ⊎_elim
    (λ small. spelled_last k n acc small ∙ ap (λ x. x ++ acc) (sym (spelled_last k n [] small)))
    (λ large. spelled_next k n acc large ∙ spelled-append k (n / 8) (last_digit n ∷ acc) ∙ sym (append_assoc (spelled k (n / 8) []) (last_digit n ∷ []) acc) ∙ ap (λ x. x ++ acc) (sym (spelled_next k n [] large ∙ spelled-append k (n / 8) (last_digit n ∷ []))))
    (cases_lt n 8)

-- the limit on digits does not matter once it is large enough
spelled_enough : (j k n : ℕ) (acc : List ℕ) → n < 8 ^ suc j → n < 8 ^ suc k → spelled (suc j) n acc ≡ spelled (suc k) n acc
spelled_enough zero k n acc p q = spelled_last zero n acc (omega arith) ∙ sym (spelled_last k n acc (omega arith))
spelled_enough (suc j) zero n acc p q = spelled_last (suc j) n acc (omega arith) ∙ sym (spelled_last zero n acc (omega arith))
spelled_enough (suc j) (suc k) n acc p q = ⊎_elim
    (λ small. spelled_last (suc j) n acc small ∙ sym (spelled_last (suc k) n acc small))
    (λ large. spelled_next (suc j) n acc large ∙ spelled_enough j k (n / 8) (last_digit n ∷ acc) (omega arith) (omega arith) ∙ sym (spelled_next (suc k) n acc large))
    (cases_lt n 8)

pub octal_one_digit : (n : ℕ) → n < 8 → octal n ≡ hex_digit (n % 8) ∷ []
unfolding digits
octal_one_digit n small = spelled_last 63 n [] small

pub octal_more : (n : ℕ) → 8 ≤ n → n < 2 ^ 32 → octal n ≡ octal (n / 8) ++ hex_digit (n % 8) ∷ []
unfolding digits
octal_more n large small = spelled_next 63 n [] large ∙ spelled_enough 62 63 (n / 8) (last_digit n ∷ []) (omega arith) (omega arith) ∙ spelled-append 64 (n / 8) (last_digit n ∷ [])

pub length_octal_more : (n : ℕ) → 8 ≤ n → n < 2 ^ 32 → length (octal n) ≡ length (octal (n / 8)) + 1
length_octal_more n large small = ap length (octal_more n large small) ∙ length-append (octal (n / 8)) (hex_digit (n % 8) ∷ [])

octal_within : (k n : ℕ) → n < 8 ^ suc k → n < 2 ^ 32 → length (octal n) ≤ suc k
octal_within zero n p small = let e : length (octal n) ≡ 1 = ap length (octal_one_digit n (omega arith)) in omega arith
octal_within (suc k) n p small = ⊎_elim
    (λ one. let e : length (octal n) ≡ 1 = ap length (octal_one_digit n one) in omega arith)
    (λ large. omega (arith, length_octal_more n large small, octal_within k (n / 8) (omega arith) (omega arith)))
    (cases_lt n 8)

pub octal_is_short : (n : ℕ) → n < 2 ^ 32 → length (octal n) ≤ 11
octal_is_short n small = octal_within 10 n (omega arith) small
