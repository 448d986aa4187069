-- Texts that are put behind one another.
use Rattle.std.proofs.Common.{◌≡◌, ℕ, List, ◌++◌, ◌∙◌, ap, append_assoc}

-- a line with one text more, and then with others
pub more : (a b c t rest : List ℕ) → b ≡ a ++ t → c ≡ b ++ rest → c ≡ a ++ (t ++ rest)
more a b c t rest first then = then ∙ ap (λ (l : List ℕ). l ++ rest) first ∙ append_assoc a t rest
