-- A word breaks no rule exactly where it stands for something.
use Rattle.std.proofs.Common.{◌≡◌, ℕ, ◌+◌, ◌-◌, ◌*◌, ◌<◌, ◌≤◌, Bool, true, false, cond, List, [], ◌∷◌, length, refl, sym, ap, ◌∙◌, subst, Option, Some, None, arith, mul_comm}
use Rattle.std.specs.Prelude.{◌==◌, ◌&&◌, not, nat_le, nat_lt, codes, is_some, is_none, option_and_then}
use Rattle.std.specs.List.{list_all}
use Rattle.std.specs.Option.{option_or}
use Rattle.std.specs.Str.{bytes_eq, is_utf8}
use Rattle.std.specs.Str.Parse.{digits_value_after, digits_value}
use Rattle.std.specs.Char.{digit_value}
use Rattle.std.proofs.lemmas.Bool.Decides.{nat_tests}
use Rattle.jline.specs.Read.{unescaped, pairs_of}
use Rattle.jlisting.specs.Words.{as_name, of_word, is_digit, digits_from, number_of, decimal_of, mode_of, device_kind_of, text_of, hex_data_of, file_name_of, escaped_name_of}
use Rattle.jlisting.specs.Broken.{unless, number_rule, escape_rule, data_rule, kind_rule, text_rule, name_rule, operand_rule, word_rule}
use Rattle.jlisting.specs.declared.rule.Operand.{Operand}
use Rattle.jlisting.specs.declared.rule.Operand.TheVariants as kind
use Rattle.jlisting.specs.declared.rule.WordRule.{WordRule}
use Rattle.jlisting.specs.declared.rule.WordRule.TheVariants as word
use Rattle.jlisting.proofs.NumberLemmas.{is_digit_value, value_grows}

pub none_unless : {R : Type 0} (holds : Bool) (broken : R) → is_none (unless holds broken) ≡ holds
none_unless true broken = refl
none_unless false broken = refl

pub none_or : {R : Type 0} (a b : Option R) → is_none (option_or a b) ≡ (is_none a && is_none b)
none_or None b = refl
none_or (Some x) b = refl

pub and_false : (b : Bool) → (b && false) ≡ false
and_false true = refl
and_false false = refl

-- ---- numbers

digit_agrees : (base limit n c : ℕ) (cs : List ℕ) → base ≤ 10 → 1 ≤ base
    → ((m : ℕ) → m ≤ limit → is_some (digits_from base limit m cs) ≡ (list_all (is_digit base) cs && nat_le (digits_value_after base m cs) limit))
    → (d w : Bool) → is_digit base c ≡ d → nat_le (base * n + (c - 48)) limit ≡ w
    → is_some (cond (d && w) (digits_from base limit (base * n + (c - 48)) cs) None)
    ≡ ((d && list_all (is_digit base) cs) && nat_le (digits_value_after base (n * base + digit_value c) cs) limit)
digit_agrees base limit n c cs ten some more false w is within = refl
digit_agrees base limit n c cs ten some more true true is within =
    let low : 48 ≤ c = grind (arith, nat_tests) in
    let high : c < 48 + base = grind (arith, nat_tests) in
    let e : base * n + (c - 48) ≡ n * base + digit_value c = omega (arith, mul_comm n base, is_digit_value base c ten low high) in
    let fits : base * n + (c - 48) ≤ limit = grind (arith, nat_tests) in
    more (base * n + (c - 48)) fits
    ∙ ap (λ (m : ℕ). list_all (is_digit base) cs && nat_le (digits_value_after base m cs) limit) e
digit_agrees base limit n c cs ten some more true false is above =
    let low : 48 ≤ c = grind (arith, nat_tests) in
    let high : c < 48 + base = grind (arith, nat_tests) in
    let e : base * n + (c - 48) ≡ n * base + digit_value c = omega (arith, mul_comm n base, is_digit_value base c ten low high) in
    let grows = value_grows base (n * base + digit_value c) cs some in
    let past : limit < base * n + (c - 48) = grind (arith, nat_tests) in
    let far : nat_le (digits_value_after base (n * base + digit_value c) cs) limit ≡ false = grind (arith, nat_tests) in
    sym (ap (λ (b : Bool). list_all (is_digit base) cs && b) far ∙ and_false (list_all (is_digit base) cs))

digits_agree : (base limit n : ℕ) (ds : List ℕ) → base ≤ 10 → 1 ≤ base → n ≤ limit
    → is_some (digits_from base limit n ds) ≡ (list_all (is_digit base) ds && nat_le (digits_value_after base n ds) limit)
digits_agree base limit n [] ten some fits = grind (arith, nat_tests)
digits_agree base limit n (c ∷ cs) ten some fits =
    digit_agrees base limit n c cs ten some (λ m within. digits_agree base limit m cs ten some within)
    (is_digit base c) (nat_le (base * n + (c - 48)) limit) refl refl

judged : (d w v : Bool) (x y z : WordRule) → is_none (cond (not d) (Some x) (cond w (Some y) (unless v z))) ≡ (d && (not w && v))
judged false w v x y z = refl
judged true true v x y z = refl
judged true false v x y z = none_unless v z

swapped : (d w v : Bool) → (d && (w && v)) ≡ (w && (d && v))
swapped true w v = refl
swapped false true v = refl
swapped false false v = refl

some_if : {A : Type 0} (b : Bool) (o : Option A) → is_some (cond b o None) ≡ (b && is_some o)
some_if true o = refl
some_if false o = refl

not_above : (n most : ℕ) → nat_le n most ≡ not (nat_lt most n)
not_above n most = by (nat_lt most n) refl
  where
    by : (b : Bool) → nat_lt most n ≡ b → nat_le n most ≡ not b
    by true is = grind (arith, nat_tests)
    by false is = grind (arith, nat_tests)

number_is : (base most limit b : ℕ) (bs : List ℕ)
    → is_some (number_of base most limit (b ∷ bs)) ≡ (not (nat_lt most (length (b ∷ bs))) && is_some (digits_from base limit 0 (b ∷ bs)))
number_is base most limit b bs =
    let bytes : List ℕ = b ∷ bs in
    let one : nat_le 1 (length bytes) ≡ true = grind (arith, nat_tests) in
    ap (λ (t : Bool). is_some (cond (t && nat_le (length bytes) most) (digits_from base limit 0 bytes) None)) one
    ∙ some_if (nat_le (length bytes) most) (digits_from base limit 0 bytes)
    ∙ ap (λ (t : Bool). t && is_some (digits_from base limit 0 bytes)) (not_above (length bytes) most)

number_agrees : (base most limit b : ℕ) (bs : List ℕ) → base ≤ 10 → 1 ≤ base
    → is_none (number_rule base most limit (b ∷ bs)) ≡ is_some (number_of base most limit (b ∷ bs))
unfolding number_rule
number_agrees base most limit b bs ten some =
    let bytes : List ℕ = b ∷ bs in
    let few = not (nat_lt most (length bytes)) in
    judged (list_all (is_digit base) bytes) (nat_lt most (length bytes)) (nat_le (digits_value base bytes) limit) _ _ _
    ∙ swapped (list_all (is_digit base) bytes) few (nat_le (digits_value base bytes) limit)
    ∙ sym (ap (λ (t : Bool). few && t) (digits_agree base limit 0 bytes ten some (omega arith)))
    ∙ sym (number_is base most limit b bs)

-- digits within a limit, and others
digits_within : (base limit : ℕ) (bytes : List ℕ) → base ≤ 10 → 1 ≤ base → list_all (is_digit base) bytes ≡ true
    → is_some (digits_from base limit 0 bytes) ≡ nat_le (digits_value base bytes) limit
digits_within base limit bytes ten some all =
    digits_agree base limit 0 bytes ten some (omega arith) ∙ ap (λ (d : Bool). d && nat_le (digits_value base bytes) limit) all

number_judged : (base most limit : ℕ) (bytes : List ℕ) (o : Option ℕ) → base ≤ 10 → 1 ≤ base → list_all (is_digit base) bytes ≡ true
    → nat_lt most (length bytes) ≡ false → o ≡ digits_from base limit 0 bytes → number_rule base most limit bytes ≡ unless (is_some o) (word.Above limit)
unfolding number_rule
number_judged base most limit bytes o ten some all few read =
    let within : is_some o ≡ nat_le (digits_value base bytes) limit =
    ap (λ (p : Option ℕ). is_some p) read ∙ digits_within base limit bytes ten some all in
    ap (λ (d : Bool). cond (not d) (Some (word.NoDigit (base - 1)))
    (cond (nat_lt most (length bytes)) (Some (word.TooLong most)) (unless (nat_le (digits_value base bytes) limit) (word.Above limit)))) all
    ∙ ap (λ (w : Bool). cond w (Some (word.TooLong most)) (unless (nat_le (digits_value base bytes) limit) (word.Above limit))) few
    ∙ ap (λ (v : Bool). unless v (word.Above limit)) (sym within)

pub number_reads : (base most limit l n : ℕ) (bytes : List ℕ) → base ≤ 10 → 1 ≤ base → list_all (is_digit base) bytes ≡ true
    → nat_lt most (length bytes) ≡ false → l ≡ limit → Some n ≡ digits_from base l 0 bytes → number_rule base most limit bytes ≡ None
number_reads base most limit l n bytes ten some all few is read =
    number_judged base most limit bytes (Some n) ten some all few (read ∙ ap (λ (m : ℕ). digits_from base m 0 bytes) is)

pub number_passes : (base most limit l : ℕ) (bytes : List ℕ) → base ≤ 10 → 1 ≤ base → list_all (is_digit base) bytes ≡ true
    → nat_lt most (length bytes) ≡ false → l ≡ limit → None ≡ digits_from base l 0 bytes → number_rule base most limit bytes ≡ Some (word.Above limit)
number_passes base most limit l bytes ten some all few is read =
    number_judged base most limit bytes None ten some all few (read ∙ ap (λ (m : ℕ). digits_from base m 0 bytes) is)

-- ---- words

-- the word stands for something as an operand
abbrev pub reads : Operand → List ℕ → Bool
reads kind.Mode bytes = is_some (mode_of bytes)
reads (kind.Number limit) bytes = is_some (decimal_of limit bytes)
reads kind.DeviceKind bytes = is_some (device_kind_of bytes)
reads kind.Text bytes = is_some (text_of bytes)
reads kind.Data bytes = is_some (hex_data_of bytes)
reads kind.FileName bytes = is_some (file_name_of bytes)
reads kind.EscapedName bytes = is_some (escaped_name_of bytes)

pub not_empty : (b : ℕ) (bs : List ℕ) → (length (b ∷ bs) == 0) ≡ false
not_empty b bs = grind (arith, nat_tests)

-- of a word that is not empty, what is read is what it stands for
pub read_of : (b : ℕ) (bs : List ℕ) (o : Option (List ℕ)) → of_word (b ∷ bs) o ≡ o
read_of b bs o = ap (λ (t : Bool). cond t None o) (not_empty b bs)

some_of : (b : ℕ) (bs : List ℕ) (o : Option (List ℕ)) → is_some o ≡ is_some (of_word (b ∷ bs) o)
some_of b bs o = sym (ap (λ (p : Option (List ℕ)). is_some p) (read_of b bs o))

data_agrees : (dash : Bool) (o : Option (List ℕ)) (r : WordRule) → is_none (cond dash None (unless (is_some o) r)) ≡ is_some (cond dash (Some []) o)
data_agrees true o r = refl
data_agrees false o r = none_unless (is_some o) r

file_agrees : (text : Bool) (bytes : List ℕ) (r : WordRule) → is_none (unless text r) ≡ is_some (cond text (Some bytes) None)
file_agrees true bytes r = refl
file_agrees false bytes r = refl

name_agrees : (o : Option (List ℕ)) (f : List ℕ → Option (List ℕ)) (x y : WordRule)
    → is_none (option_or (unless (is_some o) x) (unless (is_some (option_and_then f o)) y)) ≡ is_some (option_and_then f o)
name_agrees None f x y = refl
name_agrees (Some bytes) f x y = none_unless (is_some (f bytes)) y

escaped_name_agrees : (o p : Option (List ℕ)) (f : List ℕ → Option (List ℕ)) (x y : WordRule) → p ≡ o
    → is_none (option_or (unless (is_some o) x) (unless (is_some (option_and_then f p)) y)) ≡ is_some (option_and_then f p)
escaped_name_agrees o p f x y is =
    subst (λ (q : Option (List ℕ)). is_none (option_or (unless (is_some o) x) (unless (is_some (option_and_then f q)) y)) ≡ is_some (option_and_then f q))
    (sym is) (name_agrees o f x y)

operand_agrees : (operand : Operand) (b : ℕ) (bs : List ℕ) → is_none (operand_rule operand (b ∷ bs)) ≡ reads operand (b ∷ bs)
unfolding operand_rule escape_rule data_rule kind_rule text_rule name_rule
operand_agrees kind.Mode b bs = number_agrees 8 6 0o777777 b bs (omega arith) (omega arith)
operand_agrees (kind.Number limit) b bs = number_agrees 10 10 limit b bs (omega arith) (omega arith)
operand_agrees kind.DeviceKind b bs = none_unless (is_some (device_kind_of (b ∷ bs))) _
operand_agrees kind.Text b bs = none_unless (is_some (unescaped (b ∷ bs))) _ ∙ some_of b bs _
operand_agrees kind.Data b bs = data_agrees (bytes_eq (b ∷ bs) (codes "-")) (pairs_of (b ∷ bs)) _ ∙ some_of b bs _
operand_agrees kind.FileName b bs = file_agrees (is_utf8 (b ∷ bs)) (b ∷ bs) _ ∙ some_of b bs _
operand_agrees kind.EscapedName b bs = escaped_name_agrees (unescaped (b ∷ bs)) (text_of (b ∷ bs)) as_name _ _ (read_of b bs _)

pub word_agrees : (operand : Operand) (bytes : List ℕ) → is_none (word_rule operand bytes) ≡ reads operand bytes
unfolding word_rule
word_agrees kind.Mode [] = refl
word_agrees (kind.Number limit) [] = refl
word_agrees kind.DeviceKind [] = refl
word_agrees kind.Text [] = refl
word_agrees kind.Data [] = refl
word_agrees kind.FileName [] = refl
word_agrees kind.EscapedName [] = refl
word_agrees operand (b ∷ bs) =
    ap (λ (t : Bool). is_none (cond t (Some word.Empty) (operand_rule operand (b ∷ bs)))) (not_empty b bs) ∙ operand_agrees operand b bs
