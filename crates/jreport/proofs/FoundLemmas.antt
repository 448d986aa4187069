-- How many findings extents have, one extent after another.
use Rattle.std.proofs.Common.{◌≡◌, ℕ, ◌+◌, ◌*◌, ◌≤◌, Bool, true, false, List, [], ◌∷◌, ◌++◌, length, refl, sym, ap, arith, ◌∙◌, count_by, Option, Some, None}
use Rattle.std.specs.Prelude.{filter_map}
use Rattle.std.proofs.lemmas.List.Elements.{filter_map-append}
use Rattle.std.proofs.lemmas.List.Sums.{count_by-le-length, sum_by-cons}
use Rattle.jscan.specs.Counts.{one_if}
use Rattle.jnode.specs.declared.order.Endian.{Endian}
use Rattle.jscan.specs.Counts.{extents_below, extents_of_block}
use Rattle.jscan.specs.Extents.{extents}
use Rattle.jscan.specs.Findings.{finding_of}
use Rattle.jscan.specs.Image.{block_of}
use Rattle.jscan.specs.declared.extent.Extent.{Extent}
use Rattle.jscan.specs.declared.finding.Finding.{Finding}
use Rattle.jreport.specs.ExtractionNotes.{is_attribute_node}
use Rattle.jreport.specs.FoundIn.{found_among}
use Rattle.jreport.specs.Notes.{is_noted}
use Rattle.jreport.specs.declared.findings.Found.{Found}
use Rattle.jreport.proofs.BlockLemmas.{extents_below_more}
use Rattle.jreport.proofs.PutLemmas.{count_by-append}

-- both together
abbrev pub both_found : Found → Found → Found
both_found a b = record { noted = a.noted + b.noted; attributes = a.attributes + b.attributes }

counted : (test : Finding → Bool) (xs ys : List Extent) → count_by test (filter_map finding_of (xs ++ ys))
    ≡ count_by test (filter_map finding_of xs) + count_by test (filter_map finding_of ys)
counted test xs ys = ap (count_by test) (filter_map-append finding_of xs ys) ∙ count_by-append test (filter_map finding_of xs) (filter_map finding_of ys)

pub found_append : (xs ys : List Extent) → found_among (xs ++ ys) ≡ both_found (found_among xs) (found_among ys)
found_append xs ys =
    let noted = counted (λ f. is_noted f.kind) xs ys in
    let attributes = counted (λ f. is_attribute_node f.kind) xs ys in
    λ i. record { noted = noted i; attributes = attributes i }

-- no more than there are extents
length_found : (xs : List Extent) → length (filter_map finding_of xs) ≤ length xs
length_found [] = omega arith
length_found (x ∷ xs) = by (finding_of x) refl (length_found xs)
  where
    by : (o : Option Finding) → finding_of x ≡ o → length (filter_map finding_of xs) ≤ length xs → length (filter_map finding_of (x ∷ xs)) ≤ length (x ∷ xs)
    by None is rest = rw is (omega (arith, rest))
    by (Some f) is rest = rw is (omega (arith, rest))

few : (test : Finding → Bool) (xs : List Extent) → count_by test (filter_map finding_of xs) ≤ length xs
few test xs = omega (arith, count_by-le-length test (filter_map finding_of xs), length_found xs)

pub noted_few : (xs : List Extent) → (found_among xs).noted ≤ length xs
noted_few xs = few (λ f. is_noted f.kind) xs

pub attributes_few : (xs : List Extent) → (found_among xs).attributes ≤ length xs
attributes_few xs = few (λ f. is_attribute_node f.kind) xs

-- ---- one extent more

single : (test : Finding → Bool) (f : Finding) → count_by test (f ∷ []) ≡ one_if (test f)
single test f = omega (arith, sum_by-cons (λ (s : Finding). one_if (test s)) f [])

alone : (test : Finding → Bool) (x : Extent) (f : Finding) → finding_of x ≡ Some f → count_by test (filter_map finding_of (x ∷ [])) ≡ one_if (test f)
alone test x f is = rw is (single test f)

none : (test : Finding → Bool) (x : Extent) → finding_of x ≡ None → count_by test (filter_map finding_of (x ∷ [])) ≡ 0
none test x is = rw is refl

pub found_more : (xs : List Extent) (x : Extent) (f : Finding) (so_far : Found) (a b : ℕ) → so_far ≡ found_among xs → finding_of x ≡ Some f
    → a ≡ one_if (is_noted f.kind) → b ≡ one_if (is_attribute_node f.kind)
    → record { noted = so_far.noted + a; attributes = so_far.attributes + b } ≡ found_among (xs ++ x ∷ [])
found_more xs x f so_far a b before is noted attributes =
    let first : so_far.noted + a ≡ (found_among (xs ++ x ∷ [])).noted =
    omega (arith, ap (λ (r : Found). r.noted) before, noted, alone (λ g. is_noted g.kind) x f is, counted (λ g. is_noted g.kind) xs (x ∷ [])) in
    let second : so_far.attributes + b ≡ (found_among (xs ++ x ∷ [])).attributes =
    omega (arith, ap (λ (r : Found). r.attributes) before, attributes, alone (λ g. is_attribute_node g.kind) x f is, counted (λ g. is_attribute_node g.kind) xs (x ∷ [])) in
    λ i. record { noted = first i; attributes = second i }

pub found_as_before : (xs : List Extent) (x : Extent) (so_far : Found) → so_far ≡ found_among xs → finding_of x ≡ None → so_far ≡ found_among (xs ++ x ∷ [])
found_as_before xs x so_far before is =
    let first : so_far.noted ≡ (found_among (xs ++ x ∷ [])).noted =
    omega (arith, ap (λ (r : Found). r.noted) before, none (λ g. is_noted g.kind) x is, counted (λ g. is_noted g.kind) xs (x ∷ [])) in
    let second : so_far.attributes ≡ (found_among (xs ++ x ∷ [])).attributes =
    omega (arith, ap (λ (r : Found). r.attributes) before, none (λ g. is_attribute_node g.kind) x is, counted (λ g. is_attribute_node g.kind) xs (x ∷ [])) in
    λ i. record { noted = first i; attributes = second i }

pub at_most_one : (b : Bool) (n : ℕ) → n ≡ one_if b → n ≤ 1
at_most_one true n is = omega (arith, is)
at_most_one false n is = omega (arith, is)

-- ---- one block more

pub found_of_block : (e : Endian) (size : ℕ) (image : List ℕ) (k : ℕ) (block : List ℕ) (so_far here : Found) → block ≡ block_of size image k
    → so_far ≡ found_among (extents_below e size image k) → here ≡ found_among (extents e (k * size) block)
    → both_found so_far here ≡ found_among (extents_below e size image (k + 1))
found_of_block e size image k block so_far here is before found =
    let all = ap found_among (extents_below_more e size image k) ∙ found_append (extents_below e size image k) (extents_of_block e size image k) in
    let one : here ≡ found_among (extents_of_block e size image k) = found ∙ ap (λ (b : List ℕ). found_among (extents e (k * size) b)) is in
    ap (λ (r : Found). both_found r here) before ∙ ap (both_found (found_among (extents_below e size image k))) one ∙ sym all
