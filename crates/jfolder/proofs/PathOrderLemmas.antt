-- The order of paths, and of the names in a directory.
use Rattle.std.proofs.Common.{◌≡◌, ℕ, ◌+◌, ◌<◌, ◌≢◌, ◌⊎◌, ◌==◌, ◌&&◌, Bool, true, false, not, List, [], ◌∷◌, ◌++◌, length, refl, sym, ◌∙◌, arith, nat_lt, Ordering, nat_cmp}
use Rattle.std.specs.Prelude.{IsTrue, bytes_eq}
use Rattle.std.specs.Cmp.Lexicographic.{slice_cmp}
use Rattle.std.specs.Ordering.{is_lt, ordering_then}
use Rattle.std.specs.List.{All, list_all}
use Rattle.std.proofs.Math.Logic.{⊎_elim}
use Rattle.std.proofs.lemmas.Bool.{and_parts, false≢true, true≢false}
use Rattle.std.proofs.lemmas.Bool.Decides.{nat_tests}
use Rattle.std.proofs.lemmas.List.Elements.{All-cons, All-head, All-nil, All-tail}
use Rattle.jmount.specs.Find.{is_name}
use Rattle.jfolder.specs.Complete.{child}
use Rattle.jfolder.specs.Order.{is_before, rank}
use Rattle.jfolder.proofs.OrderLemmas.{before_itself, before_trans, by_first, first_lower, first_parts, first_same}

-- ---- one of two paths is before the other

rank_same : (b c : ℕ) → rank b ≡ rank c → b ≡ c
rank_same b c e = grind (arith, nat_tests)

first_not : (m n : ℕ) (rest : Bool) → by_first m n rest ≡ false → ((m ≡ n) × (rest ≡ false)) ⊎ (n < m)
first_not m n rest e = grind (arith, nat_tests)

pub same_place : (xs ys : List ℕ) → is_before xs ys ≡ false → is_before ys xs ≡ false → xs ≡ ys
same_place [] [] e f = refl
same_place [] (c ∷ cs) e f = cc
same_place (b ∷ bs) [] e f = cc
same_place (b ∷ bs) (c ∷ cs) e f = ⊎_elim
    (λ same. ⊎_elim
    (λ also.
    let first = rank_same b c same.0 in
    let rest = same_place bs cs same.1 also.1 in cc)
    (λ less. absurd (omega (arith, same.0, less)))
    (first_not (rank c) (rank b) (is_before cs bs) f))
    (λ more. ⊎_elim
    (λ also. absurd (omega (arith, also.0, more)))
    (λ less. absurd (omega (arith, more, less)))
    (first_not (rank c) (rank b) (is_before cs bs) f))
    (first_not (rank b) (rank c) (is_before bs cs) e)

pub not_back : (xs ys : List ℕ) → is_before xs ys ≡ true → is_before ys xs ≡ false
not_back xs ys e = by (is_before ys xs) refl
  where
    by : (b : Bool) → is_before ys xs ≡ b → is_before ys xs ≡ false
    by false back = back
    by true back = absurd (true≢false (sym (before_trans xs ys xs e back) ∙ before_itself xs))

-- ---- paths that begin alike

pub before-append : (front xs ys : List ℕ) → is_before (front ++ xs) (front ++ ys) ≡ is_before xs ys
before-append [] xs ys = refl
before-append (b ∷ front) xs ys = first_same (rank b) (rank b) (is_before (front ++ xs) (front ++ ys)) refl ∙ before-append front xs ys

pub before_child : (directory name : List ℕ) → is_before directory (child directory name) ≡ true
before_child [] name = refl
before_child (b ∷ directory) name = first_same (rank b) (rank b) (is_before directory (child directory name)) refl ∙ before_child directory name

-- ---- names

abbrev pub HasNoSlash : List ℕ → Type 0
HasNoSlash name = All (λ b. b ≢ 47) name

abbrev is_inner : ℕ → Bool
is_inner b = not (b == 47) && not (b == 0)

second_of_four : (a b c d : Bool) → (a && b && c && d) ≡ true → b ≡ true
second_of_four true true c d h = refl
second_of_four true false c d h = absurd (false≢true h)
second_of_four false b c d h = absurd (false≢true h)

no_slash : (b : ℕ) → is_inner b ≡ true → b ≢ 47
no_slash b is = grind (arith, nat_tests)

no_slashes : (name : List ℕ) → list_all is_inner name ≡ true → HasNoSlash name
no_slashes [] all = All-nil (λ b. b ≢ 47)
no_slashes (b ∷ name) all =
    let here = and_parts (is_inner b) (list_all is_inner name) all in All-cons (λ c. c ≢ 47) b name (no_slash b here.0) (no_slashes name here.1)

pub name_has_no_slash : (name : List ℕ) → IsTrue (is_name name) → HasNoSlash name
name_has_no_slash name is =
    no_slashes name (second_of_four (nat_lt 0 (length name)) (list_all is_inner name) (not (bytes_eq name (46 ∷ []))) (not (bytes_eq name (46 ∷ 46 ∷ []))) is)

rank_of : (b : ℕ) → b ≢ 47 → rank b ≡ b + 1
rank_of b other = grind (arith, nat_tests)

first_by_bytes : (x y m n : ℕ) (rest : Bool) (o : Ordering) → m ≡ x + 1 → n ≡ y + 1 → rest ≡ is_lt o → by_first m n rest ≡ is_lt (ordering_then (nat_cmp x y) o)
first_by_bytes x y m n rest o p q same = grind (arith, nat_tests)

-- names are in byte order
pub names_by_bytes : (xs ys : List ℕ) → HasNoSlash xs → HasNoSlash ys → is_before xs ys ≡ is_lt (slice_cmp nat_cmp xs ys)
names_by_bytes [] [] a b = refl
names_by_bytes [] (y ∷ ys) a b = refl
names_by_bytes (x ∷ xs) [] a b = refl
names_by_bytes (x ∷ xs) (y ∷ ys) a b =
    first_by_bytes x y (rank x) (rank y) (is_before xs ys) (slice_cmp nat_cmp xs ys)
    (rank_of x (All-head (λ c. c ≢ 47) x xs a)) (rank_of y (All-head (λ c. c ≢ 47) y ys b))
    (names_by_bytes xs ys (All-tail (λ c. c ≢ 47) x xs a) (All-tail (λ c. c ≢ 47) y ys b))

-- ---- what lies in a directory is before all that comes after the directory beside it

slash_first : (b : ℕ) → b ≢ 47 → rank 47 < rank b
slash_first b other = grind (arith, nat_tests)

child_before_name : (path more name : List ℕ) → HasNoSlash name → is_before path name ≡ true → is_before (child path more) name ≡ true
child_before_name [] more [] free e = cc
child_before_name (b ∷ path) more [] free e = cc
child_before_name [] more (n ∷ name) free e = first_lower (rank 47) (rank n) (is_before more name) (slash_first n (All-head (λ c. c ≢ 47) n name free))
child_before_name (b ∷ path) more (n ∷ name) free e = ⊎_elim
    (λ same. first_same (rank b) (rank n) (is_before (child path more) name) same.0 ∙ child_before_name path more name (All-tail (λ c. c ≢ 47) n name free) same.1)
    (λ less. first_lower (rank b) (rank n) (is_before (child path more) name) less)
    (first_parts (rank b) (rank n) (is_before path name) e)

-- a name in a directory that is before this path
pub child_before : (directory path more name : List ℕ) → HasNoSlash name → is_before directory path ≡ true → is_before path (child directory name) ≡ true
    → is_before (child path more) (child directory name) ≡ true
child_before [] [] more name free e f = cc
child_before (d ∷ directory) [] more name free e f = cc
child_before [] (b ∷ path) more name free e f = ⊎_elim
    (λ same. first_same (rank b) (rank 47) (is_before (child path more) name) same.0 ∙ child_before_name path more name free same.1)
    (λ less. absurd (omega (arith, less)))
    (first_parts (rank b) (rank 47) (is_before path name) f)
child_before (d ∷ directory) (b ∷ path) more name free e f = ⊎_elim
    (λ same. ⊎_elim
    (λ also. first_same (rank b) (rank d) (is_before (child path more) (child directory name)) also.0 ∙ child_before directory path more name free same.1 also.1)
    (λ less. absurd (omega (arith, same.0, less)))
    (first_parts (rank b) (rank d) (is_before path (child directory name)) f))
    (λ less. ⊎_elim
    (λ also. absurd (omega (arith, less, also.0)))
    (λ other. absurd (omega (arith, less, other)))
    (first_parts (rank b) (rank d) (is_before path (child directory name)) f))
    (first_parts (rank d) (rank b) (is_before directory path) e)
