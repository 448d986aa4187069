-- Texts that go out one after another, as one text.
use Rattle.std.proofs.Common.{◌≡◌, ℕ, List, [], ◌++◌, sym, append_assoc, append-nil, Option, None, Some}
use Rattle.std.specs.Prelude.{Result, Ok, Err, OnErr}
use Rattle.std.specs.Io.KnownBytes.{Appends}

-- three texts of a list, and one more
pub three_texts : (a b c d : List ℕ) → (a ++ (b ++ (c ++ []))) ++ d ≡ a ++ (b ++ (c ++ d))
three_texts a b c d = simp (append_assoc, append-nil)

pub on_err : {T E : Type 0} (r : Result T E) (P : Type 0) → P → OnErr r P
on_err (Ok x) P holds = tt
on_err (Err e) P holds = holds

pub appends_nothing : (a : Option (List ℕ)) → Appends a a []
appends_nothing None = tt
appends_nothing (Some xs) = sym (append-nil xs)
