-- The first of some sizes that passes, for two tests together.
use Rattle.std.proofs.Common.{◌≡◌, ℕ, ◌+◌, ◌*◌, ◌/◌, ◌≤◌, Bool, true, false, ◌&&◌, List, [], ◌∷◌, max, refl, sym, subst, ap₂, arith, ◌∙◌, ⊎_elim, drop, eqb}
use Rattle.std.specs.Prelude.{◌==◌, ◌<◌, zero, suc, take, slice_index_or, Some, None, nat_lt, not, length}
use Rattle.std.specs.List.{position, position_or_len, list_all, list_any}
use Rattle.std.proofs.lemmas.List.Sums.{prefix_len-le-length}
use Rattle.std.proofs.lemmas.Bool.{cond-true, cond-false, cases_Bool, leb-true, le-leb, ltb-false, ne_eqb, eqb-false, both_ways, or_from, or_parts}
use Rattle.jinfo.specs.BlockSizes.{block_sizes, lies_within}

-- where one passes, the next does
abbrev pub Rises : (ℕ → Bool) → List ℕ → Type 0
Rises f [] = Unit {0}
Rises f (x ∷ xs) = (f x ≡ true → position_or_len f xs ≡ 0) × Rises f xs

first_here : (f : ℕ → Bool) (x : ℕ) (xs : List ℕ) → f x ≡ true → position_or_len f (x ∷ xs) ≡ 0
first_here f x xs here = rw here refl

first_later : (f : ℕ → Bool) (x : ℕ) (xs : List ℕ) → f x ≡ false → position_or_len f (x ∷ xs) ≡ 1 + position_or_len f xs
first_later f x xs later = rw later refl

both_true : (a b : Bool) → a ≡ true → b ≡ true → (a && b) ≡ true
both_true a b p q = rw (p, q) refl

left_false : (a b : Bool) → a ≡ false → (a && b) ≡ false
left_false a b p = rw p refl

right_false : (a b : Bool) → b ≡ false → (a && b) ≡ false
right_false true b p = p
right_false false b p = refl

-- the first that passes both is the later one of the first that pass each
pub first_of_both : (f g : ℕ → Bool) (xs : List ℕ) → Rises f xs → Rises g xs
    → position_or_len (λ x. f x && g x) xs ≡ max (position_or_len f xs) (position_or_len g xs)
first_of_both f g [] rf rg = refl
first_of_both f g (x ∷ xs) rf rg =
    let both = λ (y : ℕ). f y && g y in
    let rest = first_of_both f g xs rf.1 rg.1 in
    ⊎_elim
    (λ (fy : f x ≡ true). ⊎_elim
    (λ (gy : g x ≡ true).
    first_here both x xs (both_true (f x) (g x) fy gy)
    ∙ sym (ap₂ max (first_here f x xs fy) (first_here g x xs gy)))
    (λ (gn : g x ≡ false).
    let now = first_later both x xs (right_false (f x) (g x) gn) in
    let none = rf.0 fy in
    let far = first_later g x xs gn in
    let near = first_here f x xs fy in
    omega (arith, now, none, far, near, rest))
    (cases_Bool (g x)))
    (λ (fn : f x ≡ false). ⊎_elim
    (λ (gy : g x ≡ true).
    let now = first_later both x xs (left_false (f x) (g x) fn) in
    let none = rg.0 gy in
    let far = first_later f x xs fn in
    let near = first_here g x xs gy in
    omega (arith, now, none, far, near, rest))
    (λ (gn : g x ≡ false).
    let now = first_later both x xs (left_false (f x) (g x) fn) in
    let far = first_later f x xs fn in
    let near = first_later g x xs gn in
    omega (arith, now, far, near, rest))
    (cases_Bool (g x)))
    (cases_Bool (f x))

next_here : (f : ℕ → Bool) (x y : ℕ) (ys : List ℕ) → (f x ≡ true → f y ≡ true) → f x ≡ true → position_or_len f (y ∷ ys) ≡ 0
next_here f x y ys step here = first_here f y ys (step here)

-- what lies within a block lies within one of twice the size
within_twice : (addr len size next : ℕ) → (addr + len ≤ (addr / size + 1) * size → addr + len ≤ (addr / next + 1) * next)
    → lies_within addr len size ≡ true → lies_within addr len next ≡ true
unfolding lies_within
within_twice addr len size next step here = le-leb (addr + len) ((addr / next + 1) * next) (step (leb-true (addr + len) ((addr / size + 1) * size) here))

pub within_rises : (addr len : ℕ) → Rises (lies_within addr len) block_sizes
within_rises addr len =
    let f = lies_within addr len in (
      next_here f 4096 8192 (drop 2 block_sizes) (within_twice addr len 4096 8192 (λ h. omega (arith, h))),
      (
        next_here f 8192 16384 (drop 3 block_sizes) (within_twice addr len 8192 16384 (λ h. omega (arith, h))),
        (
          next_here f 16384 32768 (drop 4 block_sizes) (within_twice addr len 16384 32768 (λ h. omega (arith, h))),
          (
            next_here f 32768 65536 (drop 5 block_sizes) (within_twice addr len 32768 65536 (λ h. omega (arith, h))),
            (
              next_here f 65536 131072 (drop 6 block_sizes) (within_twice addr len 65536 131072 (λ h. omega (arith, h))),
              (
                next_here f 131072 262144 (drop 7 block_sizes) (within_twice addr len 131072 262144 (λ h. omega (arith, h))),
                (
                  next_here f 262144 524288 (drop 8 block_sizes) (within_twice addr len 262144 524288 (λ h. omega (arith, h))),
                  (
                    next_here f 524288 1048576 (drop 9 block_sizes) (within_twice addr len 524288 1048576 (λ h. omega (arith, h))),
                    (
                      next_here f 1048576 2097152 (drop 10 block_sizes) (within_twice addr len 1048576 2097152 (λ h. omega (arith, h))),
                      (
                        next_here f 2097152 4194304 (drop 11 block_sizes) (within_twice addr len 2097152 4194304 (λ h. omega (arith, h))),
                        (λ here. refl, tt),
                      ),
                    ),
                  ),
                ),
              ),
            ),
          ),
        ),
      ),
    )

-- ---- where it stands

pub place_found : (p : ℕ → Bool) (xs : List ℕ) (i : ℕ) → position p xs ≡ Some i → position_or_len p xs ≡ i
place_found p xs i found =
    ⊎_elim
    (λ (short : nat_lt (position_or_len p xs) (length xs) ≡ true). let is = cond-true _ (Some (position_or_len p xs)) None short in cc)
    (λ (long : nat_lt (position_or_len p xs) (length xs) ≡ false). let is = cond-false _ (Some (position_or_len p xs)) None long in cc)
    (cases_Bool (nat_lt (position_or_len p xs) (length xs)))

pub no_place : (p : ℕ → Bool) (xs : List ℕ) → position p xs ≡ None → position_or_len p xs ≡ length xs
no_place p xs found =
    ⊎_elim
    (λ (short : nat_lt (position_or_len p xs) (length xs) ≡ true). let is = cond-true _ (Some (position_or_len p xs)) None short in cc)
    (λ (long : nat_lt (position_or_len p xs) (length xs) ≡ false). let far = ltb-false (position_or_len p xs) (length xs) long in omega (arith, far, prefix_len-le-length (λ (x : ℕ). not (p x)) xs))
    (cases_Bool (nat_lt (position_or_len p xs) (length xs)))

-- ---- of each extent of a walk, and of all of them

pub always_rises : (xs : List ℕ) → Rises (λ x. true) xs
always_rises [] = tt
always_rises (x ∷ []) = (λ here. refl, tt)
always_rises (x ∷ (y ∷ ys)) = (λ here. refl, always_rises (y ∷ ys))

both_parts : (a b : Bool) → (a && b) ≡ true → (a ≡ true) × (b ≡ true)
both_parts true b h = (refl, h)
both_parts false b h = (h, cc)

both_rises : (f g : ℕ → Bool) (xs : List ℕ) → Rises f xs → Rises g xs → Rises (λ x. f x && g x) xs
both_rises f g [] rf rg = tt
both_rises f g (x ∷ xs) rf rg = (
  λ here.
      let first = first_of_both f g xs rf.1 rg.1 in
      let near = rf.0 (both_parts (f x) (g x) here).0 in
      let far = rg.0 (both_parts (f x) (g x) here).1 in
      omega (arith, first, near, far),
  both_rises f g xs rf.1 rg.1,
)

pub all_rise : {X : Type 0} (f : ℕ → X → Bool) (walk : List X) (xs : List ℕ) → ((s : X) → Rises (λ x. f x s) xs)
    → Rises (λ x. list_all (f x) walk) xs
all_rise f [] xs each = always_rises xs
all_rise f (s ∷ walk) xs each = both_rises (λ x. f x s) (λ x. list_all (f x) walk) xs (each s) (all_rise f walk xs each)

-- the first that passes at all of these is the later one of the first that passes at the first and at the others
pub first_of_all : {X : Type 0} (f : ℕ → X → Bool) (s : X) (walk : List X) (xs : List ℕ) → ((t : X) → Rises (λ x. f x t) xs)
    → position_or_len (λ x. list_all (f x) (s ∷ walk)) xs
    ≡ max (position_or_len (λ x. f x s) xs) (position_or_len (λ x. list_all (f x) walk) xs)
first_of_all f s walk xs each = first_of_both (λ x. f x s) (λ x. list_all (f x) walk) xs (each s) (all_rise f walk xs each)

-- ---- what stands before the first that passes, and what behind it

first_suc : (f : ℕ → Bool) (x : ℕ) (xs : List ℕ) → f x ≡ false → position_or_len f (x ∷ xs) ≡ suc (position_or_len f xs)
first_suc f x xs later = omega (arith, first_later f x xs later)

-- whether x is one of the first n of some numbers
abbrev among_first : ℕ → ℕ → List ℕ → Bool
among_first n x xs = list_any (λ y. y == x) (take n xs)

-- what passes is none of those before it
pub passes_behind : (f : ℕ → Bool) (xs : List ℕ) (x : ℕ) → f x ≡ true → among_first (position_or_len f xs) x xs ≡ false
passes_behind f [] x passes = refl
passes_behind f (y ∷ ys) x passes =
    ⊎_elim
    (λ (here : f y ≡ true). subst (λ (n : ℕ). among_first n x (y ∷ ys) ≡ false) (sym (first_here f y ys here)) refl)
    (λ (later : f y ≡ false).
    let other : eqb y x ≡ false = ne_eqb y x (λ (same : y ≡ x). both_ways (f x) (subst (λ (z : ℕ). f z ≡ false) same later) passes) in
    subst (λ (n : ℕ). among_first n x (y ∷ ys) ≡ false) (sym (first_suc f y ys later))
    (or_from (y == x) (among_first (position_or_len f ys) x ys) other (passes_behind f ys x passes)))
    (cases_Bool (f y))

-- where the first passes, all do
all_pass : (f : ℕ → Bool) (xs : List ℕ) (x k : ℕ) → Rises f xs → position_or_len f xs ≡ 0 → k < length xs → slice_index_or xs k x ≡ x → f x ≡ true
all_pass f [] x k rises first within at = absurd (omega arith)
all_pass f (y ∷ ys) x zero rises first within at =
    ⊎_elim
    (λ (here : f y ≡ true). subst (λ (z : ℕ). f z ≡ true) at here)
    (λ (later : f y ≡ false). let far = first_later f y ys later in absurd (omega (arith, far, first)))
    (cases_Bool (f y))
all_pass f (y ∷ ys) x (suc k) rises first within at =
    ⊎_elim
    (λ (here : f y ≡ true). all_pass f ys x k rises.1 (rises.0 here) (omega arith) at)
    (λ (later : f y ≡ false). let far = first_later f y ys later in absurd (omega (arith, far, first)))
    (cases_Bool (f y))

-- of those behind the first that fails, what is none before the first that passes
rest_among : (f : ℕ → Bool) (y x : ℕ) (ys : List ℕ) → f y ≡ false → among_first (position_or_len f (y ∷ ys)) x (y ∷ ys) ≡ false
    → ((y == x) ≡ false) × (among_first (position_or_len f ys) x ys ≡ false)
rest_among f y x ys later none =
    or_parts (y == x) (among_first (position_or_len f ys) x ys)
    (subst (λ (n : ℕ). among_first n x (y ∷ ys) ≡ false) (first_suc f y ys later) none)

-- what is none of those before the first that passes, passes
pub behind_passes : (f : ℕ → Bool) (xs : List ℕ) (x k : ℕ) → Rises f xs → k < length xs → slice_index_or xs k x ≡ x
    → among_first (position_or_len f xs) x xs ≡ false → f x ≡ true
behind_passes f [] x k rises within at none = absurd (omega arith)
behind_passes f (y ∷ ys) x zero rises within at none =
    ⊎_elim
    (λ (here : f y ≡ true). subst (λ (z : ℕ). f z ≡ true) at here)
    (λ (later : f y ≡ false). absurd (eqb-false y x (rest_among f y x ys later none).0 at))
    (cases_Bool (f y))
behind_passes f (y ∷ ys) x (suc k) rises within at none =
    ⊎_elim
    (λ (here : f y ≡ true). all_pass f (y ∷ ys) x (suc k) rises (first_here f y ys here) within at)
    (λ (later : f y ≡ false). behind_passes f ys x k rises.1 (omega arith) at (rest_among f y x ys later none).1)
    (cases_Bool (f y))
