-- The order of paths: that of their bytes, where a slash is lower than any other.
use Rattle.std.specs.Prelude.{◌+◌, ◌==◌, Bool, true, false, nat_lt, ℕ, List, [], ◌∷◌, if◌then◌else◌}

abbrev pub rank : ℕ → ℕ
rank b = if b == 47 then 0 else b + 1

abbrev pub is_before : List ℕ → List ℕ → Bool
is_before [] [] = false
is_before [] (c ∷ cs) = true
is_before (b ∷ bs) [] = false
is_before (b ∷ bs) (c ∷ cs) = if rank b == rank c then is_before bs cs else nat_lt (rank b) (rank c)
