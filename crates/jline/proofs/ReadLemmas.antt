-- Words, byte by byte.
use Rattle.std.proofs.Common.{◌≡◌, ◌≢◌, ℕ, List, [], ◌∷◌, ◌++◌, ap, sym, ◌∙◌, append_assoc, Option, Some, None, option_map, arith}
use Rattle.std.proofs.lemmas.Grind.{common_steps}
use Rattle.jline.specs.Read.{unescaped, pairs_of, byte_of_digits, and_byte}

pub unescaped_plain : (a : ℕ) (word : List ℕ) → a ≢ 92 → unescaped (a ∷ word) ≡ option_map (λ (bytes : List ℕ). a ∷ bytes) (unescaped word)
unescaped_plain a [] plain = grind (arith, common_steps)
unescaped_plain a (b ∷ []) plain = grind (arith, common_steps)
unescaped_plain a (b ∷ c ∷ []) plain = grind (arith, common_steps)
unescaped_plain a (b ∷ c ∷ d ∷ word) plain = grind (arith, common_steps)

pub unescaped_escape : (high low byte : ℕ) (rest : List ℕ) → byte_of_digits high low ≡ Some byte
    → unescaped (92 ∷ 120 ∷ high ∷ low ∷ rest) ≡ option_map (λ (bytes : List ℕ). byte ∷ bytes) (unescaped rest)
unescaped_escape high low byte rest is = ap (λ (b : Option ℕ). and_byte b (unescaped rest)) is

pub pairs_of_pair : (high low byte : ℕ) (rest : List ℕ) → byte_of_digits high low ≡ Some byte
    → pairs_of (high ∷ low ∷ rest) ≡ option_map (λ (bytes : List ℕ). byte ∷ bytes) (pairs_of rest)
pairs_of_pair high low byte rest is = ap (λ (b : Option ℕ). and_byte b (pairs_of rest)) is

-- one byte more is read
pub bytes_more : (bytes : List ℕ) (byte : ℕ) (left word : Option (List ℕ)) → word ≡ option_map (λ (more : List ℕ). bytes ++ more) (option_map (λ (more : List ℕ). byte ∷ more) left)
    → word ≡ option_map (λ (more : List ℕ). (bytes ++ byte ∷ []) ++ more) left
bytes_more bytes byte None word is = is
bytes_more bytes byte (Some more) word is = is ∙ ap (λ (l : List ℕ). Some l) (sym (append_assoc bytes (byte ∷ []) more))
