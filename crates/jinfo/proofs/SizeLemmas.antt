-- The sizes that nothing rules out, and those that fit.
use Rattle.std.proofs.Common.{◌≡◌, ℕ, zero, suc, ◌+◌, ◌-◌, ◌*◌, ◌/◌, ◌%◌, ◌≤◌, ◌<◌, Bool, true, false, ◌&&◌, ◌||◌, List, [], ◌∷◌, refl, sym, subst, ap, ap₂, arith, ◌∙◌, ⊎_elim}
use Rattle.std.specs.Prelude.{◌==◌, slice_index_or, Option, Some, None, IsSomeAnd, nat_le, not, max, if◌then◌else◌}
use Rattle.std.specs.Int.{IsGcd, ◌∣◌}
use Rattle.std.specs.List.{list_all, list_any}
use Rattle.std.proofs.Math.Nat.{div-mul-le_self, mod-eq_of_lt}
use Rattle.std.proofs.lemmas.Bool.{cases_Bool, cond_both, cond-true, cond-false, both_ways, and_parts, and_from, and_left, and_right, leb-true, leb-false, le-leb, lt-leb, eqb-true, eq-eqb, ne_eqb, not-true}
use Rattle.std.proofs.lemmas.Nat.Gcd.{dvd_trans, dvd_of_mod-eq-zero, mod-eq-zero_of_dvd}
use Rattle.jscan.specs.Image.{is_block_size}
use Rattle.jscan.specs.declared.extent.Extent.{Extent}
use Rattle.jinfo.specs.Census.{is_node_tile}
use Rattle.jinfo.specs.BlockSizes.{block_sizes, is_marker_tile, lies_within, node_lies_within, is_multiple, marker_begins, node_has_room, size_fits, too_small, is_among, may_be_size, first_upwards, first_downwards, size_count, least_passing, greatest_passing, is_later_marker, range_between, size_range_of}
use Rattle.jinfo.specs.Marks.{MarksOf, may_be_by, range_of_marks}
use Rattle.jinfo.specs.SizeLaws.{FittingAreTold, ToldAreLeft, LeftPowersFit}
use Rattle.jinfo.specs.declared.marks.Marks.{Marks}
use Rattle.jinfo.specs.declared.sizes.SizeRange.{SizeRange}
use Rattle.jinfo.proofs.FirstLemmas.{all_rise, passes_behind, behind_passes}
use Rattle.jinfo.proofs.TallyLemmas.{node_rises}

-- ---- what was counted rules out the same sizes

may_is : (walk : List Extent) (m : Marks) → MarksOf walk m → (size : ℕ) → may_be_by m size ≡ may_be_size walk size
may_is walk m of size = λ i. of.common size i && of.longest size i && not (is_among (of.too_small i) size)

pub range_is : (walk : List Extent) (m : Marks) → MarksOf walk m → range_of_marks m ≡ size_range_of walk
range_is walk m of =
    let same : may_be_by m ≡ may_be_size walk = λ i size. may_is walk m of size i in
    ap₂ (λ (later : Bool) (range : Option SizeRange). if later then range else None) of.is_later
    (ap (λ (test : ℕ → Bool). range_between (least_passing test) (greatest_passing test)) same)

-- ---- the first that passes is not beyond one that does

found_upwards : (test : ℕ → Bool) (n size k : ℕ) → k < n → test (size + 4 * k) ≡ true
    → IsSomeAnd (first_upwards test n size) (λ found. found ≤ size + 4 * k)
unfolding first_upwards
found_upwards test zero size k within passes = absurd (omega arith)
found_upwards test (suc n) size zero within passes =
    let same : size + 4 * 0 ≡ size = omega arith in
    let here : test size ≡ true = subst (λ (x : ℕ). test x ≡ true) same passes in
    rw here (omega arith)
found_upwards test (suc n) size (suc k) within passes =
    let next : size + 4 * suc k ≡ (size + 4) + 4 * k = omega arith in
    cond_both (test size) (Some size) (first_upwards test n (size + 4)) (λ o. IsSomeAnd o (λ found. found ≤ size + 4 * suc k))
    (λ here. omega arith)
    (λ later. subst (λ (x : ℕ). IsSomeAnd (first_upwards test n (size + 4)) (λ found. found ≤ x)) (sym next)
    (found_upwards test n (size + 4) k (omega arith) (subst (λ (x : ℕ). test x ≡ true) next passes)))

found_downwards : (test : ℕ → Bool) (n size k : ℕ) → k < n → test (size - 4 * k) ≡ true
    → IsSomeAnd (first_downwards test n size) (λ found. size - 4 * k ≤ found)
unfolding first_downwards
found_downwards test zero size k within passes = absurd (omega arith)
found_downwards test (suc n) size zero within passes =
    let same : size - 4 * 0 ≡ size = omega arith in
    let here : test size ≡ true = subst (λ (x : ℕ). test x ≡ true) same passes in
    rw here (omega arith)
found_downwards test (suc n) size (suc k) within passes =
    let next : size - 4 * suc k ≡ (size - 4) - 4 * k = omega arith in
    cond_both (test size) (Some size) (first_downwards test n (size - 4)) (λ o. IsSomeAnd o (λ found. size - 4 * suc k ≤ found))
    (λ here. omega arith)
    (λ later. subst (λ (x : ℕ). IsSomeAnd (first_downwards test n (size - 4)) (λ found. x ≤ found)) (sym next)
    (found_downwards test n (size - 4) k (omega arith) (subst (λ (x : ℕ). test x ≡ true) next passes)))

-- ---- what is found passes

upwards_passes : (test : ℕ → Bool) (n size found : ℕ) → first_upwards test n size ≡ Some found
    → (test found ≡ true) × ((k : ℕ) × (k < n) × (found ≡ size + 4 * k))
unfolding first_upwards
upwards_passes test zero size found is = cc
upwards_passes test (suc n) size found is =
    ⊎_elim
    (λ (here : test size ≡ true).
    let same : size ≡ found = let one = cond-true (test size) (Some size) (first_upwards test n (size + 4)) here in cc in
    (subst (λ (x : ℕ). test x ≡ true) same here, (0, omega arith, omega (arith, same))))
    (λ (later : test size ≡ false).
    let rest = upwards_passes test n (size + 4) found (sym (cond-false (test size) (Some size) (first_upwards test n (size + 4)) later) ∙ is) in
    let k : ℕ = rest.1.0 in
    (rest.0, (suc k, omega (arith, rest.1.1), omega (arith, rest.1.2))))
    (cases_Bool (test size))

downwards_passes : (test : ℕ → Bool) (n size found : ℕ) → first_downwards test n size ≡ Some found
    → (test found ≡ true) × ((k : ℕ) × (k < n) × (found ≡ size - 4 * k))
unfolding first_downwards
downwards_passes test zero size found is = cc
downwards_passes test (suc n) size found is =
    ⊎_elim
    (λ (here : test size ≡ true).
    let same : size ≡ found = let one = cond-true (test size) (Some size) (first_downwards test n (size - 4)) here in cc in
    (subst (λ (x : ℕ). test x ≡ true) same here, (0, omega arith, omega (arith, same))))
    (λ (later : test size ≡ false).
    let rest = downwards_passes test n (size - 4) found (sym (cond-false (test size) (Some size) (first_downwards test n (size - 4)) later) ∙ is) in
    let k : ℕ = rest.1.0 in
    (rest.0, (suc k, omega (arith, rest.1.1), omega (arith, rest.1.2))))
    (cases_Bool (test size))

-- ---- nothing rules out a size that fits

has_room : (size : ℕ) (s : Extent) → node_lies_within size s ≡ true → node_has_room size s ≡ true
unfolding lies_within
has_room size s lies = by_node (is_node_tile s.kind) s.addr s.len lies
  where
    by_node : (is : Bool) (addr len : ℕ) → (not is || lies_within addr len size) ≡ true → (not is || nat_le len size) ≡ true
    by_node true addr len within =
        let end = leb-true (addr + len) ((addr / size + 1) * size) within in
        let front = div-mul-le_self addr size in
        le-leb len size (omega (arith, end, front))
    by_node false addr len within = refl

all_have_room : (size : ℕ) (walk : List Extent) → list_all (node_lies_within size) walk ≡ true → list_all (node_has_room size) walk ≡ true
all_have_room size [] lie = refl
all_have_room size (s ∷ walk) lie =
    let parts = and_parts (node_lies_within size s) (list_all (node_lies_within size) walk) lie in
    and_from (node_has_room size s) (list_all (node_has_room size) walk) (has_room size s parts.0) (all_have_room size walk parts.1)

-- the three parts of a size that fits
fit_parts : (walk : List Extent) (size : ℕ) → size_fits walk size ≡ true
    → (is_block_size size ≡ true) × ((list_all (node_lies_within size) walk ≡ true) × (list_all (marker_begins size) walk ≡ true))
fit_parts walk size fits =
    let one = and_parts (is_block_size size && list_all (node_lies_within size) walk) (list_all (marker_begins size) walk) fits in
    let two = and_parts (is_block_size size) (list_all (node_lies_within size) walk) one.0 in
    (two.0, (two.1, one.1))

fits_is_left : (walk : List Extent) (size : ℕ) → size_fits walk size ≡ true → may_be_size walk size ≡ true
fits_is_left walk size fits =
    let parts = fit_parts walk size fits in
    let free : is_among (too_small walk) size ≡ false = passes_behind (λ x. list_all (node_lies_within x) walk) block_sizes size parts.1.0 in
    and_from (list_all (marker_begins size) walk && list_all (node_has_room size) walk) (not (is_among (too_small walk) size))
    (and_from (list_all (marker_begins size) walk) (list_all (node_has_room size) walk) parts.1.1 (all_have_room size walk parts.1.0)) (ap not free)

-- what a size of a block is
is_block : (size : ℕ) → is_block_size size ≡ true → (4096 ≤ size) × ((size ≤ 4194304) × (size % 4 ≡ 0))
is_block size is =
    let one = and_parts (nat_le 4096 size && nat_le size 4194304) (size % 4 == 0) is in
    let two = and_parts (nat_le 4096 size) (nat_le size 4194304) one.0 in
    (leb-true 4096 size two.0, (leb-true size 4194304 two.1, eqb-true (size % 4) 0 one.1))

block_is : (size : ℕ) → 4096 ≤ size → size ≤ 4194304 → size % 4 ≡ 0 → is_block_size size ≡ true
block_is size low high whole =
    and_from (nat_le 4096 size && nat_le size 4194304) (size % 4 == 0)
    (and_from (nat_le 4096 size) (nat_le size 4194304) (le-leb 4096 size low) (le-leb size 4194304 high)) (eq-eqb (size % 4) 0 whole)

between : (size : ℕ) (least greatest : Option ℕ) → IsSomeAnd least (λ found. found ≤ size) → IsSomeAnd greatest (λ found. size ≤ found)
    → IsSomeAnd (range_between least greatest) (λ range. (range.least ≤ size) × (size ≤ range.greatest))
between size (Some least) (Some greatest) up down = (up, down)
between size (Some least) None up down = elim down [ ]
between size None greatest up down = elim up [ ]

pub fitting_are_told : FittingAreTold
fitting_are_told = λ walk size later fits.
    let test : ℕ → Bool = may_be_size walk in
    let block = is_block size (fit_parts walk size fits).0 in
    let left : test size ≡ true = fits_is_left walk size fits in
    let up_place : size ≡ 4096 + 4 * ((size - 4096) / 4) = omega (arith, block.0, block.1.1) in
    let down_place : size ≡ 4194304 - 4 * ((4194304 - size) / 4) = omega (arith, block.1.0, block.1.1) in
    let up : IsSomeAnd (least_passing test) (λ found. found ≤ size) =
    subst (λ (x : ℕ). IsSomeAnd (least_passing test) (λ found. found ≤ x)) (sym up_place)
    (found_upwards test size_count 4096 ((size - 4096) / 4) (omega (arith, block.1.0)) (subst (λ (x : ℕ). test x ≡ true) up_place left)) in
    let down : IsSomeAnd (greatest_passing test) (λ found. size ≤ found) =
    subst (λ (x : ℕ). IsSomeAnd (greatest_passing test) (λ found. x ≤ found)) (sym down_place)
    (found_downwards test size_count 4194304 ((4194304 - size) / 4) (omega (arith, block.0)) (subst (λ (x : ℕ). test x ≡ true) down_place left)) in
    rw later (between size (least_passing test) (greatest_passing test) up down)

-- ---- what is told is left

ends : (least greatest : Option ℕ) (range : SizeRange) → range_between least greatest ≡ Some range
    → (least ≡ Some range.least) × (greatest ≡ Some range.greatest)
ends (Some least) (Some greatest) range is =
    let same : (record { least = least; greatest = greatest }) ≡ range = cc in
    (ap (λ (r : SizeRange). Some r.least) same, ap (λ (r : SizeRange). Some r.greatest) same)
ends (Some least) None range is = cc
ends None greatest range is = cc

told_range : (later : Bool) (least greatest : Option ℕ) (range : SizeRange) → (if later then range_between least greatest else None) ≡ Some range
    → (least ≡ Some range.least) × (greatest ≡ Some range.greatest)
told_range true least greatest range is = ends least greatest range is
told_range false least greatest range is = cc

pub told_are_left : ToldAreLeft
told_are_left = λ walk range told.
    let test : ℕ → Bool = may_be_size walk in
    let both = told_range (list_any is_later_marker walk) (least_passing test) (greatest_passing test) range told in
    let up = upwards_passes test size_count 4096 range.least both.0 in
    let down = downwards_passes test size_count 4194304 range.greatest both.1 in (
      (block_is range.least (omega (arith, up.1.2)) (omega (arith, up.1.1, up.1.2)) (omega (arith, up.1.2)), up.0),
      (block_is range.greatest (omega (arith, down.1.1, down.1.2)) (omega (arith, down.1.2)) (omega (arith, down.1.1, down.1.2)), down.0),
    )

-- ---- a power of two that is left fits

powers_are_blocks : (k size : ℕ) → k < 11 → slice_index_or block_sizes k size ≡ size → is_block_size size ≡ true
powers_are_blocks zero size within at = block_is size (omega (arith, at)) (omega (arith, at)) (omega (arith, at))
powers_are_blocks (suc zero) size within at = block_is size (omega (arith, at)) (omega (arith, at)) (omega (arith, at))
powers_are_blocks (suc (suc zero)) size within at = block_is size (omega (arith, at)) (omega (arith, at)) (omega (arith, at))
powers_are_blocks (suc (suc (suc zero))) size within at = block_is size (omega (arith, at)) (omega (arith, at)) (omega (arith, at))
powers_are_blocks (suc (suc (suc (suc zero)))) size within at = block_is size (omega (arith, at)) (omega (arith, at)) (omega (arith, at))
powers_are_blocks (suc (suc (suc (suc (suc zero))))) size within at = block_is size (omega (arith, at)) (omega (arith, at)) (omega (arith, at))
powers_are_blocks (suc (suc (suc (suc (suc (suc zero)))))) size within at = block_is size (omega (arith, at)) (omega (arith, at)) (omega (arith, at))
powers_are_blocks (suc (suc (suc (suc (suc (suc (suc zero))))))) size within at = block_is size (omega (arith, at)) (omega (arith, at)) (omega (arith, at))
powers_are_blocks (suc (suc (suc (suc (suc (suc (suc (suc zero)))))))) size within at = block_is size (omega (arith, at)) (omega (arith, at)) (omega (arith, at))
powers_are_blocks (suc (suc (suc (suc (suc (suc (suc (suc (suc zero))))))))) size within at = block_is size (omega (arith, at)) (omega (arith, at)) (omega (arith, at))
powers_are_blocks (suc (suc (suc (suc (suc (suc (suc (suc (suc (suc zero)))))))))) size within at = block_is size (omega (arith, at)) (omega (arith, at)) (omega (arith, at))
powers_are_blocks (suc (suc (suc (suc (suc (suc (suc (suc (suc (suc (suc k))))))))))) size within at = absurd (omega arith)

pub left_powers_fit : LeftPowersFit
left_powers_fit = λ walk size known left.
    let test : ℕ → Bool = λ x. list_all (node_lies_within x) walk in
    let first = and_parts (list_all (marker_begins size) walk && list_all (node_has_room size) walk) (not (is_among (too_small walk) size)) left in
    let second = and_parts (list_all (marker_begins size) walk) (list_all (node_has_room size) walk) first.0 in
    let lies : test size ≡ true =
    behind_passes test block_sizes size known.0 (all_rise node_lies_within walk block_sizes node_rises) known.1 known.2
    (not-true (is_among (too_small walk) size) first.1) in
    and_from (is_block_size size && list_all (node_lies_within size) walk) (list_all (marker_begins size) walk)
    (and_from (is_block_size size) (list_all (node_lies_within size) walk) (powers_are_blocks known.0 size known.1 known.2) lies) second.0

-- ---- lengths and addresses

pub room_of_longer : (a b size : ℕ) → nat_le (max a b) size ≡ (nat_le a size && nat_le b size)
room_of_longer a b size =
    ⊎_elim
    (λ (one : nat_le a size ≡ true). ⊎_elim
    (λ (two : nat_le b size ≡ true). le-leb (max a b) size (omega (arith, leb-true a size one, leb-true b size two)) ∙ sym (and_from (nat_le a size) (nat_le b size) one two))
    (λ (two : nat_le b size ≡ false). lt-leb (max a b) size (omega (arith, leb-false b size two)) ∙ sym (and_right (nat_le a size) (nat_le b size) two))
    (cases_Bool (nat_le b size)))
    (λ (one : nat_le a size ≡ false). lt-leb (max a b) size (omega (arith, leb-false a size one)) ∙ sym (and_left (nat_le a size) (nat_le b size) one))
    (cases_Bool (nat_le a size))

multiple_dvd : (n size : ℕ) → is_multiple n size ≡ true → size ∣ n
unfolding is_multiple
multiple_dvd n size is = dvd_of_mod-eq-zero size (eqb-true (n % size) 0 is)

dvd_multiple : (n size : ℕ) → size ∣ n → is_multiple n size ≡ true
unfolding is_multiple
dvd_multiple n size is = eq-eqb (n % size) 0 (mod-eq-zero_of_dvd size is)

pub common_multiple : (a b g size : ℕ) → IsGcd a b g → is_multiple g size ≡ (is_multiple a size && is_multiple b size)
common_multiple a b g size gcd =
    ⊎_elim
    (λ (is : is_multiple g size ≡ true).
    let of : size ∣ g = multiple_dvd g size is in
    is ∙ sym (and_from (is_multiple a size) (is_multiple b size) (dvd_multiple a size (dvd_trans size of gcd.0)) (dvd_multiple b size (dvd_trans size of gcd.1))))
    (λ (no : is_multiple g size ≡ false). ⊎_elim
    (λ (one : is_multiple a size ≡ true). ⊎_elim
    (λ (two : is_multiple b size ≡ true).
    absurd (both_ways (is_multiple g size) no (dvd_multiple g size (gcd.2 size (multiple_dvd a size one) (multiple_dvd b size two)))))
    (λ (two : is_multiple b size ≡ false). no ∙ sym (and_right (is_multiple a size) (is_multiple b size) two))
    (cases_Bool (is_multiple b size)))
    (λ (one : is_multiple a size ≡ false). no ∙ sym (and_left (is_multiple a size) (is_multiple b size) one))
    (cases_Bool (is_multiple a size)))
    (cases_Bool (is_multiple g size))

pub no_multiple : (n size : ℕ) → 0 < n → n < size → is_multiple n size ≡ false
unfolding is_multiple
no_multiple n size some less = let rest = mod-eq_of_lt less in ne_eqb (n % size) 0 (λ (none : n % size ≡ 0). omega (arith, rest, none))

-- ---- a size more

pub upwards_more : (test : ℕ → Bool) (k : ℕ) → k < size_count → test (4096 + 4 * k) ≡ false
    → first_upwards test (size_count - (k + 1)) (4096 + 4 * (k + 1)) ≡ first_upwards test (size_count - k) (4096 + 4 * k)
unfolding first_upwards
upwards_more test k within fails =
    let count : size_count - k ≡ suc (size_count - (k + 1)) = omega arith in
    let next : (4096 + 4 * k) + 4 ≡ 4096 + 4 * (k + 1) = omega arith in
    sym (ap (λ (n : ℕ). first_upwards test n (4096 + 4 * k)) count
    ∙ cond-false (test (4096 + 4 * k)) (Some (4096 + 4 * k)) (first_upwards test (size_count - (k + 1)) ((4096 + 4 * k) + 4)) fails
    ∙ ap (first_upwards test (size_count - (k + 1))) next)

pub upwards_here : (test : ℕ → Bool) (k : ℕ) → k < size_count → test (4096 + 4 * k) ≡ true
    → first_upwards test (size_count - k) (4096 + 4 * k) ≡ Some (4096 + 4 * k)
unfolding first_upwards
upwards_here test k within passes =
    let count : size_count - k ≡ suc (size_count - (k + 1)) = omega arith in
    ap (λ (n : ℕ). first_upwards test n (4096 + 4 * k)) count
    ∙ cond-true (test (4096 + 4 * k)) (Some (4096 + 4 * k)) (first_upwards test (size_count - (k + 1)) ((4096 + 4 * k) + 4)) passes

pub upwards_none : (test : ℕ → Bool) (k size : ℕ) → size_count ≤ k → first_upwards test (size_count - k) size ≡ None
unfolding first_upwards
upwards_none test k size over =
    let none : size_count - k ≡ 0 = omega arith in
    ap (λ (n : ℕ). first_upwards test n size) none

pub downwards_more : (test : ℕ → Bool) (k : ℕ) → k < size_count → test (4194304 - 4 * k) ≡ false
    → first_downwards test (size_count - (k + 1)) (4194304 - 4 * (k + 1)) ≡ first_downwards test (size_count - k) (4194304 - 4 * k)
unfolding first_downwards
downwards_more test k within fails =
    let count : size_count - k ≡ suc (size_count - (k + 1)) = omega arith in
    let next : (4194304 - 4 * k) - 4 ≡ 4194304 - 4 * (k + 1) = omega arith in
    sym (ap (λ (n : ℕ). first_downwards test n (4194304 - 4 * k)) count
    ∙ cond-false (test (4194304 - 4 * k)) (Some (4194304 - 4 * k)) (first_downwards test (size_count - (k + 1)) ((4194304 - 4 * k) - 4)) fails
    ∙ ap (first_downwards test (size_count - (k + 1))) next)

pub downwards_here : (test : ℕ → Bool) (k : ℕ) → k < size_count → test (4194304 - 4 * k) ≡ true
    → first_downwards test (size_count - k) (4194304 - 4 * k) ≡ Some (4194304 - 4 * k)
unfolding first_downwards
downwards_here test k within passes =
    let count : size_count - k ≡ suc (size_count - (k + 1)) = omega arith in
    ap (λ (n : ℕ). first_downwards test n (4194304 - 4 * k)) count
    ∙ cond-true (test (4194304 - 4 * k)) (Some (4194304 - 4 * k)) (first_downwards test (size_count - (k + 1)) ((4194304 - 4 * k) - 4)) passes

pub downwards_none : (test : ℕ → Bool) (k size : ℕ) → size_count ≤ k → first_downwards test (size_count - k) size ≡ None
unfolding first_downwards
downwards_none test k size over =
    let none : size_count - k ≡ 0 = omega arith in
    ap (λ (n : ℕ). first_downwards test n size) none

-- sizes above the common divisor of all addresses are left out
pub downwards_from : (m : Marks) (k : ℕ) → k ≤ size_count → ((j : ℕ) → j < k → is_multiple m.common (4194304 - 4 * j) ≡ false)
    → first_downwards (may_be_by m) (size_count - k) (4194304 - 4 * k) ≡ greatest_passing (may_be_by m)
downwards_from m zero within none =
    let count : size_count - 0 ≡ size_count = omega arith in
    let size : 4194304 - 4 * 0 ≡ 4194304 = omega arith in
    ap₂ (first_downwards (may_be_by m)) count size
downwards_from m (suc k) within none =
    let next : suc k ≡ k + 1 = omega arith in
    let fails : may_be_by m (4194304 - 4 * k) ≡ false =
    and_left (is_multiple m.common (4194304 - 4 * k) && nat_le m.longest (4194304 - 4 * k)) (not (is_among m.too_small (4194304 - 4 * k)))
    (and_left (is_multiple m.common (4194304 - 4 * k)) (nat_le m.longest (4194304 - 4 * k)) (none k (omega arith))) in
    ap (λ (n : ℕ). first_downwards (may_be_by m) (size_count - n) (4194304 - 4 * n)) next
    ∙ downwards_more (may_be_by m) k (omega arith) fails
    ∙ downwards_from m k (omega arith) (λ j less. none j (omega arith))

pub marker_is : (size : ℕ) (s : Extent) → is_marker_tile s.kind ≡ true → marker_begins size s ≡ is_multiple s.addr size
marker_is size s is = rw is refl
