-- Lines that go out one after another.
use Rattle.std.proofs.Common.{◌≡◌, ℕ, ◌≤◌, cond, true, false, ◌+◌, length, arith, None, Bool, List, [], ◌∷◌, ◌++◌, sym, ap, ◌∙◌, subst, append-nil, Option, Some}
use Rattle.std.specs.Prelude.{Result, Ok, IsErr}
use Rattle.std.specs.List.{flat_map}
use Rattle.std.proofs.lemmas.Grind.{flat_map-append}
use Rattle.std.proofs.lemmas.List.{length-append}
use Rattle.std.specs.Io.KnownBytes.{Appends}
use Rattle.flashbase.specs.Device.{PutsPart, Puts, next_count}
use Rattle.jdiff.specs.Entries.{Entry}
use Rattle.jdiff.specs.Changes.{is_symlink, both_lines, bytes_differ_line, bytes_changes, is_same_object, first_difference, object_changes, number_of_device, is_same_number, number_differs_line, number_changes, changes}
use Rattle.jdiff.specs.declared.comparing.Comparing.{Comparing}
use Rattle.flashbase.proofs.DeviceLemmas.{part_before, first_failed, then_puts, then_failed}

-- a line alone
pub one_line : {T E : Type 0} (old new : Option (List ℕ)) (before now : ℕ) (line : List ℕ) (r : Result T E) → Puts old new before now line r → Puts old new before now (line ++ []) r
one_line old new before now line r put = subst (λ (l : List ℕ). Puts old new before now l r) (sym (append-nil line)) put

pub one_failed : {T E : Type 0} (old new : Option (List ℕ)) (before now : ℕ) (line : List ℕ) (r : Result T E) → IsErr r → PutsPart old new line → now ≡ next_count before → Puts old new before now (line ++ []) r
one_failed old new before now line r err part failed = first_failed old new before now line [] r err part failed

pub one_put : {T : Type 0} (E : Type 0) (old new : Option (List ℕ)) (before now : ℕ) (line : List ℕ) (x : T) → Appends old new line → now ≡ before → Puts {E = E} old new before now (line ++ []) (Ok x)
one_put E old new before now line x put same = one_line {E = E} old new before now line (Ok x) (put, same)

-- two lines
pub second_failed : {T E : Type 0} (a b c : Option (List ℕ)) (before mid now : ℕ) (first second : List ℕ) (r : Result T E) → IsErr r → Appends a b first → mid ≡ before
    → PutsPart b c second → now ≡ next_count mid → Puts a c before now (first ++ (second ++ [])) r
second_failed a b c before mid now first second r err put same part failed =
    then_failed a b c before mid now first (second ++ []) r err put same (part_before b c second [] part) failed

pub two_put : {T : Type 0} (E : Type 0) (a b c : Option (List ℕ)) (before mid now : ℕ) (first second : List ℕ) (x : T) → Appends a b first → mid ≡ before
    → Appends b c second → now ≡ mid → Puts {E = E} a c before now (first ++ (second ++ [])) (Ok x)
two_put E a b c before mid now first second x put same next still =
    then_puts {E = E} a b c before mid now first (second ++ []) (Ok x) put same (one_put E b c mid now second x next still)

-- ---- what is told of two entries

pub bytes_told : (times : Bool) (x y : Entry) (o : Option ℕ) (k : ℕ) (b : Bool) → o ≡ Some k → is_symlink x.object.kind ≡ b
    → bytes_changes times x y o ≡ cond b (both_lines times x y) (bytes_differ_line x.path k ∷ [])
bytes_told times x y o k b is kind =
    ap (bytes_changes times x y) is ∙ ap (λ (c : Bool). cond c (both_lines times x y) (bytes_differ_line x.path k ∷ [])) kind

pub both_told : (times : Bool) (x y : Entry) (b : Bool) → is_same_object times x.object y.object ≡ b
    → object_changes times x y ≡ cond b (bytes_changes times x y (first_difference x.bytes y.bytes)) (both_lines times x y)
both_told times x y b same = ap (λ (c : Bool). cond c (bytes_changes times x y (first_difference x.bytes y.bytes)) (both_lines times x y)) same

-- the lines on two objects, and then that on their numbers
pub numbers_told : (xs ys : List (List ℕ)) → flat_map (λ line. line) (xs ++ ys) ≡ flat_map (λ line. line) xs ++ flat_map (λ line. line) ys
numbers_told xs ys = flat_map-append (λ (line : List ℕ). line) xs ys

pub first_lines_failed : {T E : Type 0} (old new : Option (List ℕ)) (before now : ℕ) (xs ys : List (List ℕ)) (r : Result T E) → IsErr r
    → PutsPart old new (flat_map (λ line. line) xs) → now ≡ next_count before → Puts old new before now (flat_map (λ line. line) (xs ++ ys)) r
first_lines_failed old new before now xs ys r err part failed =
    subst (λ (l : List ℕ). Puts old new before now l r) (sym (numbers_told xs ys))
    (first_failed old new before now (flat_map (λ line. line) xs) (flat_map (λ line. line) ys) r err part failed)

pub more_lines_failed : {T E : Type 0} (a b c : Option (List ℕ)) (before mid now : ℕ) (xs ys : List (List ℕ)) (r : Result T E) → IsErr r
    → Appends a b (flat_map (λ line. line) xs) → mid ≡ before → PutsPart b c (flat_map (λ line. line) ys) → now ≡ next_count mid
    → Puts a c before now (flat_map (λ line. line) (xs ++ ys)) r
more_lines_failed a b c before mid now xs ys r err put same part failed =
    subst (λ (l : List ℕ). Puts a c before now l r) (sym (numbers_told xs ys))
    (then_failed a b c before mid now (flat_map (λ line. line) xs) (flat_map (λ line. line) ys) r err put same part failed)

pub all_lines_put : {T : Type 0} (E : Type 0) (a b c : Option (List ℕ)) (before mid now : ℕ) (xs ys : List (List ℕ)) (x : T)
    → Appends a b (flat_map (λ line. line) xs) → mid ≡ before → Appends b c (flat_map (λ line. line) ys) → now ≡ mid
    → Puts {E = E} a c before now (flat_map (λ line. line) (xs ++ ys)) (Ok x)
all_lines_put E a b c before mid now xs ys x put same next still =
    subst (λ (l : List ℕ). Puts {E = E} a c before now l (Ok x)) (sym (numbers_told xs ys))
    (then_puts {E = E} a b c before mid now (flat_map (λ line. line) xs) (flat_map (λ line. line) ys) (Ok x) put same (next, still))

-- ---- at most three lines

bytes_few : (times : Bool) (x y : Entry) (o : Option ℕ) → length (bytes_changes times x y o) ≤ 2
bytes_few times x y None = omega arith
bytes_few times x y (Some k) = by (is_symlink x.object.kind)
  where
    by : (b : Bool) → length (cond b (both_lines times x y) (bytes_differ_line x.path k ∷ [])) ≤ 2
    by true = omega arith
    by false = omega arith

pub objects_few : (times : Bool) (x y : Entry) → length (object_changes times x y) ≤ 2
objects_few times x y = by (is_same_object times x.object y.object)
  where
    by : (b : Bool) → length (cond b (bytes_changes times x y (first_difference x.bytes y.bytes)) (both_lines times x y)) ≤ 2
    by true = bytes_few times x y (first_difference x.bytes y.bytes)
    by false = omega arith

pub numbers_few : (path : List (List ℕ)) (m n : Option (ℕ × ℕ)) → length (number_changes path m n) ≤ 1
numbers_few path m n = by (is_same_number m n)
  where
    by : (b : Bool) → length (cond b [] (number_differs_line path m n ∷ [])) ≤ 1
    by true = omega arith
    by false = omega arith

pub changes_few : (how : Comparing) (left right : Option Entry) → length (changes how left right) ≤ 3
changes_few how None None = omega arith
changes_few how (Some x) None = omega arith
changes_few how None (Some y) = omega arith
changes_few how (Some x) (Some y) =
    let m = number_of_device how.order x.object in
    let n = number_of_device how.order y.object in
    let first : length (object_changes how.times x y) ≤ 2 = objects_few how.times x y in
    let more : length (number_changes x.path m n) ≤ 1 = numbers_few x.path m n in
    let both : length (object_changes how.times x y ++ number_changes x.path m n) ≡ length (object_changes how.times x y) + length (number_changes x.path m n) = length-append (object_changes how.times x y) (number_changes x.path m n) in
    omega arith
