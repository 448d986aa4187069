-- The note, piece by piece.
use Rattle.std.proofs.Common.{◌≡◌, ℕ, List, ◌++◌, ap, ◌∙◌, append_assoc}

pub five_pieces : (a b c d e one two three four all : List ℕ) → one ≡ a → two ≡ one ++ b → three ≡ two ++ c → four ≡ three ++ d → all ≡ four ++ e
    → all ≡ a ++ (b ++ (c ++ (d ++ e)))
five_pieces a b c d e one two three four all first second third fourth fifth =
    fifth ∙ ap (λ l. l ++ e) (fourth ∙ ap (λ l. l ++ d) (third ∙ ap (λ l. l ++ c) (second ∙ ap (λ l. l ++ b) first)))
    ∙ append_assoc (((a ++ b) ++ c)) d e ∙ append_assoc (a ++ b) c (d ++ e) ∙ append_assoc a b (c ++ (d ++ e))
