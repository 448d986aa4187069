-- Numbers, digit by digit.
use Rattle.std.proofs.Common.{◌≡◌, ℕ, ◌+◌, ◌-◌, ◌*◌, ◌<◌, ◌≤◌, List, [], ◌∷◌, length, refl, sym, ap, ◌∙◌, Some, arith, mul_comm, le-mul_of_pos_right}
use Rattle.std.specs.Str.Parse.{AllDigits, IsNumeral, digits_value_after, digits_value}
use Rattle.std.specs.Char.{digit_value}
use Rattle.std.specs.Fmt.{decimal}
use Rattle.std.proofs.lemmas.Grind.{common_steps}
use Rattle.std.proofs.lemmas.Bool.Decides.{nat_tests}
use Rattle.std.proofs.lemmas.Fmt.{decimal_is_IsNumeral, length-decimal-le}
use Rattle.jlisting.specs.Words.{digits_from, number_of}
use Rattle.jlisting.specs.Laws.{NumbersAreNumerals, DecimalsAreReadBack}

digit_is : (base b : ℕ) → base ≤ 10 → digit_value b < base → (48 ≤ b) × (b < 48 + base) × (digit_value b ≡ b - 48)
digit_is base b ten is = grind (arith, nat_tests)

pub is_digit_value : (base b : ℕ) → base ≤ 10 → 48 ≤ b → b < 48 + base → digit_value b ≡ b - 48
is_digit_value base b ten low high = grind (arith, nat_tests)

-- a digit more is no less
pub value_grows : (base n : ℕ) (ds : List ℕ) → 1 ≤ base → n ≤ digits_value_after base n ds
value_grows base n [] some = omega arith
value_grows base n (c ∷ cs) some = omega (arith, le-mul_of_pos_right {m = base} n some, value_grows base (n * base + digit_value c) cs some)

read_digits : (base limit n : ℕ) (ds : List ℕ) → base ≤ 10 → AllDigits base ds → digits_value_after base n ds ≤ limit
    → digits_from base limit n ds ≡ Some (digits_value_after base n ds)
read_digits base limit n [] ten all fits = refl
read_digits base limit n (c ∷ cs) ten all fits =
    let d = digit_is base c ten all.0 in
    let e : n * base + digit_value c ≡ base * n + (c - 48) = omega (arith, mul_comm n base, d.2) in
    let within : base * n + (c - 48) ≤ limit = omega (arith, value_grows base (n * base + digit_value c) cs (omega (arith, all.0)), fits, e) in
    let more = read_digits base limit (n * base + digit_value c) cs ten all.1 fits in
    let step : digits_from base limit n (c ∷ cs) ≡ digits_from base limit (base * n + (c - 48)) cs = grind (arith, nat_tests) in
    step ∙ ap (λ (m : ℕ). digits_from base limit m cs) (sym e) ∙ more

digits_read : (base limit n m : ℕ) (ds : List ℕ) → base ≤ 10 → n ≤ limit → digits_from base limit n ds ≡ Some m
    → AllDigits base ds × (digits_value_after base n ds ≡ m) × (m ≤ limit)
digits_read base limit n m [] ten fits is = grind (arith, common_steps)
digits_read base limit n m (c ∷ cs) ten fits is =
    let low : 48 ≤ c = grind (arith, nat_tests) in
    let high : c < 48 + base = grind (arith, nat_tests) in
    let within : base * n + (c - 48) ≤ limit = grind (arith, nat_tests) in
    let step : digits_from base limit n (c ∷ cs) ≡ digits_from base limit (base * n + (c - 48)) cs = grind (arith, nat_tests) in
    let d = is_digit_value base c ten low high in
    let e : base * n + (c - 48) ≡ n * base + digit_value c = omega (arith, mul_comm n base, d) in
    let more = digits_read base limit (base * n + (c - 48)) m cs ten within (sym step ∙ is) in
    ((omega (arith, d), more.0), ap (λ (k : ℕ). digits_value_after base k cs) (sym e) ∙ more.1, more.2)

pub numbers_are_numerals : NumbersAreNumerals
numbers_are_numerals base most limit n word ten = (reads, read_by)
  where
    reads : number_of base most limit word ≡ Some n → IsNumeral base word × (length word ≤ most) × (digits_value base word ≡ n) × (n ≤ limit)
    reads is =
        let some : 1 ≤ length word = grind (arith, nat_tests) in
        let few : length word ≤ most = grind (arith, nat_tests) in
        let step : number_of base most limit word ≡ digits_from base limit 0 word = grind (arith, nat_tests) in
        let r = digits_read base limit 0 n word ten (omega arith) (sym step ∙ is) in
        ((omega (arith, some), r.0), few, r.1, r.2)

    read_by : IsNumeral base word × (length word ≤ most) × (digits_value base word ≡ n) × (n ≤ limit) → number_of base most limit word ≡ Some n
    read_by h =
        let step : number_of base most limit word ≡ digits_from base limit 0 word = grind (arith, nat_tests, h.0.0, h.1) in
        step ∙ read_digits base limit 0 word ten h.0.1 (omega (arith, h.2, h.3)) ∙ ap (λ (k : ℕ). Some k) h.2

pub decimals_are_read_back : DecimalsAreReadBack
decimals_are_read_back limit n fits small =
    let d = decimal_is_IsNumeral n (omega arith) in
    (numbers_are_numerals 10 10 limit n (decimal n) (omega arith)).1 (d.0, length-decimal-le 10 n (omega arith) small (omega arith), d.1, fits)
