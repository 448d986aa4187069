-- Many reads by one mount.
use Rattle.std.specs.Prelude.{◌≡◌, ◌<◌, ℕ, ◌+◌, ◌-◌, ◌^◌, ◌++◌, List, [], ◌∷◌, length, take, drop, min, flat_map, sum_by}
use Rattle.jmount.specs.Shown.{readable}
use Rattle.jmount.specs.Tree.{State}
use Rattle.jcalls.specs.declared.rows.Request.{Request}

-- ---- one request is answered as `read` answers it, given memory of its length

abbrev pub count_asked : State → Request → ℕ
count_asked s r = min r.length (length (readable s r.number) - r.offset)

abbrev pub bytes_asked : State → Request → List ℕ
bytes_asked s r = take (count_asked s r) (drop r.offset (readable s r.number))

-- where its bytes begin, and how many they are
abbrev pub answered : State → ℕ → Request → Request
answered s at r = record {
  number = r.number;
  spare = r.spare;
  offset = r.offset;
  length = r.length;
  at = at;
  got = count_asked s r;
}

-- ---- all of them, the bytes of one behind those of the one before it

abbrev pub answered_from : State → ℕ → List Request → List Request
answered_from s at [] = []
answered_from s at (r ∷ rs) = answered s at r ∷ answered_from s (at + count_asked s r) rs

abbrev pub bytes_of_all : State → List Request → List ℕ
bytes_of_all s rs = flat_map (bytes_asked s) rs

abbrev pub count_of_all : State → List Request → ℕ
count_of_all s rs = sum_by (count_asked s) rs

-- the bytes stand at the front of the caller's memory, which is as it was behind them
pub record GivesMany (s : State) (rows_old rows_new : List Request) (old new : List ℕ) (needed : ℕ)
    : Type 0 where
  pub rows : rows_new ≡ answered_from s 0 rows_old
  pub bytes : new ≡ bytes_of_all s rows_old ++ drop needed old
  pub counted : needed ≡ count_of_all s rows_old

-- There is no room for all bytes, and how many they are is told, up to the greatest number.
abbrev pub NeedsForMany : State → List Request → List ℕ → ℕ → Type 0
NeedsForMany s rows old needed =
    (needed ≡ min (count_of_all s rows) (2 ^ 64 - 1)) × (length old < needed)
