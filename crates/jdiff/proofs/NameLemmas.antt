-- The names of two directories side by side: those of each are its own, and all rise.
use Rattle.std.proofs.Common.{◌≡◌, ℕ, ◌==◌, cond, Bool, true, false, List, [], ◌∷◌, map, refl, sym, ap, ◌∙◌, subst, Option, Some, None}
use Rattle.std.specs.Prelude.{⊤, T, filter, filter_map, option_map}
use Rattle.std.specs.declared.cmp.Ordering.{Ordering}
use Rattle.std.specs.declared.cmp.Ordering.TheVariants.{Less, Equal, Greater}
use Rattle.std.specs.Ordering.{is_lt, nat_cmp, ordering_then, ordering_reverse}
use Rattle.std.specs.Cmp.Lexicographic.{slice_cmp}
use Rattle.std.specs.FinMap.{entries, entries_sorted}
use Rattle.std.specs.FinMap.Entries.{below_all, is_sorted}
use Rattle.std.proofs.lemmas.Bool.{eqb-true}
use Rattle.std.proofs.lemmas.Cmp.{nat_list_cmp_total, nat_cmp_total}
use Rattle.std.proofs.lemmas.Map.Lookups.{exact_bytes}
use Rattle.jname.specs.Live.{Key, key_cmp}
use Rattle.jname.proofs.SortedLemmas.{T_first, T_second}
use Rattle.jmount.specs.Tree.{State, is_there, entries_in}
use Rattle.jmount.proofs.DirectoryNameLemmas.{names_among}
use Rattle.jdiff.specs.Names.{SharedName, names_there, join_first, joined}

abbrev pub name_cmp : List ℕ → List ℕ → Ordering
name_cmp = slice_cmp nat_cmp

-- ---- those of each

abbrev pub left_name : SharedName → Option (List ℕ × ℕ)
left_name n = option_map (λ i. (n.0, i)) n.1

abbrev pub right_name : SharedName → Option (List ℕ × ℕ)
right_name n = option_map (λ i. (n.0, i)) n.2

right_alone : (ys : List (List ℕ × ℕ)) → filter_map left_name (map (λ y. (y.0, None, Some y.1)) ys) ≡ []
right_alone [] = refl
right_alone (y ∷ ys) = right_alone ys

first_left : (x : List ℕ × ℕ) (xs : List (List ℕ × ℕ)) (rest : List (List ℕ × ℕ) → List SharedName) → ((ys : List (List ℕ × ℕ)) → filter_map left_name (rest ys) ≡ xs)
    → (ys : List (List ℕ × ℕ)) → filter_map left_name (join_first x rest ys) ≡ x ∷ xs
first_left x xs rest each [] = ap (λ l. x ∷ l) (each [])
first_left x xs rest each (y ∷ ys) = by (name_cmp x.0 y.0) (first_left x xs rest each ys)
  where
    by : (o : Ordering) → filter_map left_name (join_first x rest ys) ≡ x ∷ xs → filter_map left_name (elim o [
      | Less ↦ (x.0, Some x.1, None) ∷ rest (y ∷ ys)
      | Equal ↦ (x.0, Some x.1, Some y.1) ∷ rest ys
      | Greater ↦ (y.0, None, Some y.1) ∷ join_first x rest ys
    ]) ≡ x ∷ xs
    by Less more = ap (λ l. x ∷ l) (each (y ∷ ys))
    by Equal more = ap (λ l. x ∷ l) (each ys)
    by Greater more = more

pub joined_left : (xs ys : List (List ℕ × ℕ)) → filter_map left_name (joined xs ys) ≡ xs
joined_left [] ys = right_alone ys
joined_left (x ∷ xs) ys = first_left x xs (joined xs) (joined_left xs) ys

left_alone : (ys : List (List ℕ × ℕ)) → filter_map right_name (map (λ y. (y.0, None, Some y.1)) ys) ≡ ys
left_alone [] = refl
left_alone (y ∷ ys) = ap (λ l. y ∷ l) (left_alone ys)

first_right : (x : List ℕ × ℕ) (rest : List (List ℕ × ℕ) → List SharedName) → ((ys : List (List ℕ × ℕ)) → filter_map right_name (rest ys) ≡ ys)
    → (ys : List (List ℕ × ℕ)) → filter_map right_name (join_first x rest ys) ≡ ys
first_right x rest each [] = each []
first_right x rest each (y ∷ ys) = by (name_cmp x.0 y.0) refl (first_right x rest each ys)
  where
    by : (o : Ordering) → name_cmp x.0 y.0 ≡ o → filter_map right_name (join_first x rest ys) ≡ ys → filter_map right_name (elim o [
      | Less ↦ (x.0, Some x.1, None) ∷ rest (y ∷ ys)
      | Equal ↦ (x.0, Some x.1, Some y.1) ∷ rest ys
      | Greater ↦ (y.0, None, Some y.1) ∷ join_first x rest ys
    ]) ≡ y ∷ ys
    by Less is more = each (y ∷ ys)
    by Equal is more = let same : x.0 ≡ y.0 = exact_bytes x.0 y.0 is in λ i. (same i, y.1) ∷ each ys i
    by Greater is more = ap (λ l. y ∷ l) more

pub joined_right : (xs ys : List (List ℕ × ℕ)) → filter_map right_name (joined xs ys) ≡ ys
joined_right [] ys = left_alone ys
joined_right (x ∷ xs) ys = first_right x (joined xs) (joined_right xs) ys

-- ---- names that rise

abbrev pub Above : List ℕ → List (List ℕ × ℕ) → Type 0
Above n [] = ⊤
Above n (e ∷ es) = (name_cmp n e.0 ≡ Less) × Above n es

abbrev pub Rising : List (List ℕ × ℕ) → Type 0
Rising [] = ⊤
Rising (e ∷ es) = Above e.0 es × Rising es

abbrev pub AboveShared : List ℕ → List SharedName → Type 0
AboveShared n [] = ⊤
AboveShared n (e ∷ es) = (name_cmp n e.0 ≡ Less) × AboveShared n es

abbrev pub RisingShared : List SharedName → Type 0
RisingShared [] = ⊤
RisingShared (e ∷ es) = AboveShared e.0 es × RisingShared es

above_more : (m n : List ℕ) (es : List (List ℕ × ℕ)) → name_cmp m n ≡ Less → Above n es → Above m es
above_more m n [] less above = tt
above_more m n (e ∷ es) less above = (nat_list_cmp_total.trans m n e.0 less above.0, above_more m n es less above.1)

alone_above : (n : List ℕ) (ys : List (List ℕ × ℕ)) → Above n ys → AboveShared n (map (λ y. (y.0, None, Some y.1)) ys)
alone_above n [] above = tt
alone_above n (y ∷ ys) above = (above.0, alone_above n ys above.1)

first_above : (n : List ℕ) (x : List ℕ × ℕ) (rest : List (List ℕ × ℕ) → List SharedName) → name_cmp n x.0 ≡ Less
    → ((ys : List (List ℕ × ℕ)) → Above n ys → AboveShared n (rest ys)) → (ys : List (List ℕ × ℕ)) → Above n ys → AboveShared n (join_first x rest ys)
first_above n x rest less each [] above = (less, each [] tt)
first_above n x rest less each (y ∷ ys) above = by (name_cmp x.0 y.0) (first_above n x rest less each ys above.1)
  where
    by : (o : Ordering) → AboveShared n (join_first x rest ys) → AboveShared n (elim o [
      | Less ↦ (x.0, Some x.1, None) ∷ rest (y ∷ ys)
      | Equal ↦ (x.0, Some x.1, Some y.1) ∷ rest ys
      | Greater ↦ (y.0, None, Some y.1) ∷ join_first x rest ys
    ])
    by Less more = (less, each (y ∷ ys) above)
    by Equal more = (less, each ys above.1)
    by Greater more = (above.0, more)

joined_above : (n : List ℕ) (xs ys : List (List ℕ × ℕ)) → Above n xs → Above n ys → AboveShared n (joined xs ys)
joined_above n [] ys above other = alone_above n ys other
joined_above n (x ∷ xs) ys above other = first_above n x (joined xs) above.0 (λ l. joined_above n xs l above.1) ys other

flipped : (m n : List ℕ) → name_cmp m n ≡ Greater → name_cmp n m ≡ Less
flipped m n is = nat_list_cmp_total.antisymm n m ∙ ap ordering_reverse is

first_rising : (x : List ℕ × ℕ) (xs : List (List ℕ × ℕ)) (rest : List (List ℕ × ℕ) → List SharedName) → Above x.0 xs
    → ((n : List ℕ) (ys : List (List ℕ × ℕ)) → Above n xs → Above n ys → AboveShared n (rest ys))
    → ((ys : List (List ℕ × ℕ)) → Rising ys → RisingShared (rest ys)) → (ys : List (List ℕ × ℕ)) → Rising ys → RisingShared (join_first x rest ys)
first_rising x xs rest above all each [] rising = (all x.0 [] above tt, each [] tt)
first_rising x xs rest above all each (y ∷ ys) rising = by (name_cmp x.0 y.0) refl (first_rising x xs rest above all each ys rising.1)
  where
    by : (o : Ordering) → name_cmp x.0 y.0 ≡ o → RisingShared (join_first x rest ys) → RisingShared (elim o [
      | Less ↦ (x.0, Some x.1, None) ∷ rest (y ∷ ys)
      | Equal ↦ (x.0, Some x.1, Some y.1) ∷ rest ys
      | Greater ↦ (y.0, None, Some y.1) ∷ join_first x rest ys
    ])
    by Less is more = (all x.0 (y ∷ ys) above (is, above_more x.0 y.0 ys is rising.0), each (y ∷ ys) rising)
    by Equal is more = (all x.0 ys above (subst (λ (n : List ℕ). Above n ys) (sym (exact_bytes x.0 y.0 is)) rising.0), each ys rising.1)
    by Greater is more =
        let less : name_cmp y.0 x.0 ≡ Less = flipped x.0 y.0 is in (
          first_above y.0 x rest less (λ l. all y.0 l (above_more y.0 x.0 xs less above)) ys rising.0,
          more,
        )

alone_rising : (ys : List (List ℕ × ℕ)) → Rising ys → RisingShared (map (λ y. (y.0, None, Some y.1)) ys)
alone_rising [] rising = tt
alone_rising (y ∷ ys) rising = (alone_above y.0 ys rising.0, alone_rising ys rising.1)

pub joined_rising : (xs ys : List (List ℕ × ℕ)) → Rising xs → Rising ys → RisingShared (joined xs ys)
joined_rising [] ys rising other = alone_rising ys other
joined_rising (x ∷ xs) ys rising other =
    first_rising x xs (joined xs) rising.0 (λ n l. joined_above n xs l) (λ l. joined_rising xs l rising.1) ys other

-- ---- the names of a directory rise

less_of : (o : Ordering) → T (is_lt o) → o ≡ Less
less_of Less h = refl
less_of Equal h = absurd h
less_of Greater h = absurd h

same_number : (n : ℕ) → nat_cmp n n ≡ Equal
same_number n = by (nat_cmp n n) (nat_cmp_total.antisymm n n)
  where
    by : (o : Ordering) → o ≡ ordering_reverse o → o ≡ Equal
    by Less is = cc
    by Equal is = refl
    by Greater is = cc

names_above : (dir : ℕ) (k : Key) (es : List (Key × ℕ)) → k.0 ≡ dir → T (below_all key_cmp k es) → Above k.1 (names_among dir es)
names_above dir k [] at below = tt
names_above dir k (e ∷ es) at below = by (e.0.0 == dir) refl (names_above dir k es at (T_second (is_lt (key_cmp k e.0)) (below_all key_cmp k es) below))
  where
    by : (b : Bool) → (e.0.0 == dir) ≡ b → Above k.1 (names_among dir es) → Above k.1 (map (λ e. (e.0.1, e.1)) (cond b (e ∷ filter (λ e. e.0.0 == dir) es) (filter (λ e. e.0.0 == dir) es)))
    by true is rest =
        let one : k.0 ≡ e.0.0 = at ∙ sym (eqb-true e.0.0 dir is) in
        let number : nat_cmp k.0 e.0.0 ≡ Equal = ap (λ (n : ℕ). nat_cmp n e.0.0) one ∙ same_number e.0.0 in
        let less : key_cmp k e.0 ≡ Less = less_of (key_cmp k e.0) (T_first (is_lt (key_cmp k e.0)) (below_all key_cmp k es) below) in (
          ap (λ (o : Ordering). ordering_then o (name_cmp k.1 e.0.1)) (sym number) ∙ less,
          rest,
        )
    by false is rest = rest

names_rise : (dir : ℕ) (es : List (Key × ℕ)) → T (is_sorted key_cmp es) → Rising (names_among dir es)
names_rise dir [] sorted = tt
names_rise dir (e ∷ es) sorted = by (e.0.0 == dir) refl (names_rise dir es (T_second (below_all key_cmp e.0 es) (is_sorted key_cmp es) sorted))
  where
    by : (b : Bool) → (e.0.0 == dir) ≡ b → Rising (names_among dir es) → Rising (map (λ e. (e.0.1, e.1)) (cond b (e ∷ filter (λ e. e.0.0 == dir) es) (filter (λ e. e.0.0 == dir) es)))
    by true is rest = (names_above dir e.0 es (eqb-true e.0.0 dir is) (T_first (below_all key_cmp e.0 es) (is_sorted key_cmp es) sorted), rest)
    by false is rest = rest

filter_above : (p : List ℕ × ℕ → Bool) (n : List ℕ) (es : List (List ℕ × ℕ)) → Above n es → Above n (filter p es)
filter_above p n [] above = tt
filter_above p n (e ∷ es) above = by (p e) (filter_above p n es above.1)
  where
    by : (b : Bool) → Above n (filter p es) → Above n (cond b (e ∷ filter p es) (filter p es))
    by true rest = (above.0, rest)
    by false rest = rest

filter_rises : (p : List ℕ × ℕ → Bool) (es : List (List ℕ × ℕ)) → Rising es → Rising (filter p es)
filter_rises p [] rising = tt
filter_rises p (e ∷ es) rising = by (p e) (filter_rises p es rising.1)
  where
    by : (b : Bool) → Rising (filter p es) → Rising (cond b (e ∷ filter p es) (filter p es))
    by true rest = (filter_above p e.0 es rising.0, rest)
    by false rest = rest

pub there_rises : (s : State) (directory : Option ℕ) → Rising (names_there s directory)
there_rises s None = tt
there_rises s (Some i) = filter_rises (λ e. is_there s e.1) (entries_in s i) (names_rise i (entries s.names) (entries_sorted s.names))
