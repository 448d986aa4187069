-- What is stored of one name, by version.
use Rattle.std.proofs.Common.{◌≡◌, ℕ, Bool, true, false, ◌<◌, ◌≤◌, Option, Some, None, refl, ap, sym, subst, ◌∙◌, arith}
use Rattle.std.specs.Prelude.{if◌then◌else◌, ◌==◌, IsSome}
use Rattle.std.specs.Ordering.{nat_cmp, eq_by_cmp}
use Rattle.std.specs.BTreeMap.{BTreeMap, get}
use Rattle.std.proofs.lemmas.Bool.{eq-eqb, eqb-true, false≢true}
use Rattle.jname.specs.declared.versions.Content.{Content}
use Rattle.jname.specs.declared.sorted.Sorted.{Sorted}
use Rattle.jname.specs.declared.versions.Versions.{Versions}
use Rattle.jname.specs.declared.versions.Versions.TheVariants.{One, Several}
use Rattle.jname.specs.Versions.{sorted_at, version_at, newest_of}
use Rattle.std.specs.Cmp.{unsigned_tied}
use Rattle.jname.proofs.ContentsByNameLemmas.{by_test}

choose : Bool → Content → Option Content → Option Content
choose b content rest = if b then Some content else rest

sorted_at-is : (sorted : Sorted) (v : ℕ) → sorted_at sorted v ≡ choose (v == sorted.greatest) sorted.newest (get nat_cmp sorted.older v)
unfolding choose
sorted_at-is sorted v = ap (λ (b : Bool). choose b sorted.newest (get nat_cmp sorted.older v)) (unsigned_tied v sorted.greatest)

not_equal : (v w : ℕ) → v < w → (v == w) ≡ false
not_equal v w h = by_test (v == w) (λ e. let same : v ≡ w = eqb-true v w e in absurd (omega arith)) (λ e. e)

at_greatest : (sorted : Sorted) (v : ℕ) → (v == sorted.greatest) ≡ true → sorted_at sorted v ≡ Some sorted.newest
unfolding choose
at_greatest sorted v e = sorted_at-is sorted v ∙ ap (λ (b : Bool). choose b sorted.newest (get nat_cmp sorted.older v)) e

at_other : (sorted : Sorted) (v : ℕ) → (v == sorted.greatest) ≡ false → sorted_at sorted v ≡ get nat_cmp sorted.older v
unfolding choose
at_other sorted v e = sorted_at-is sorted v ∙ ap (λ (b : Bool). choose b sorted.newest (get nat_cmp sorted.older v)) e

pub newest_at : (sorted : Sorted) (v : ℕ) → v ≡ sorted.greatest → sorted_at sorted v ≡ Some sorted.newest
newest_at sorted v is = at_greatest sorted v (eq-eqb v sorted.greatest is)

pub older_at : (sorted : Sorted) (v : ℕ) (content : Content) → get nat_cmp sorted.older v ≡ Some content → sorted_at sorted v ≡ Some content
older_at sorted v content h =
    at_other sorted v (not_equal v sorted.greatest (sorted.below v (subst (λ (o : Option Content). IsSome o) (sym h) refl))) ∙ h

pub at_most_greatest : (sorted : Sorted) (v : ℕ) → IsSome (sorted_at sorted v) → v ≤ sorted.greatest
at_most_greatest sorted v h =
    by_test (v == sorted.greatest)
    (λ e. let same : v ≡ sorted.greatest = eqb-true v sorted.greatest e in omega arith)
    (λ e. let less : v < sorted.greatest = sorted.below v (subst (λ (o : Option Content). IsSome o) (at_other sorted v e) h) in omega arith)

is_none : (o : Option Content) → (IsSome o → ⊥) → o ≡ None
is_none None never = refl
is_none (Some content) never = absurd (never refl)

pub none_above : (sorted : Sorted) (v : ℕ) → sorted.greatest < v → sorted_at sorted v ≡ None
none_above sorted v above =
    is_none (sorted_at sorted v) (λ there. let most : v ≤ sorted.greatest = at_most_greatest sorted v there in absurd (omega arith))

same_test : (m n : ℕ) → (m == n) ≡ (n == m)
same_test m n =
    by_test (n == m)
    (λ e. eq-eqb m n (sym (eqb-true n m e)) ∙ sym e)
    (λ e. by_test (m == n) (λ f. let yes : (n == m) ≡ true = eq-eqb n m (sym (eqb-true m n f)) in cc) (λ f. f ∙ sym e))

-- a content at the greatest version is one more
pub newest_more : (sorted : Sorted) (v : ℕ) → sorted_at sorted v ≡ (if sorted.greatest == v then Some sorted.newest else sorted_at sorted v)
unfolding choose
newest_more sorted v =
    by_test (sorted.greatest == v)
    (λ e. newest_at sorted v (sym (eqb-true sorted.greatest v e)) ∙ ap (λ (b : Bool). choose b sorted.newest (sorted_at sorted v)) (sym e))
    (λ e. ap (λ (b : Bool). choose b sorted.newest (sorted_at sorted v)) (sym e))

-- the old map with the content that was the newest, and the new one apart
pub greater_more : (sorted : Sorted) (older : BTreeMap ℕ Content) (version : ℕ) (content : Content) → sorted.greatest < version
    → ((v : ℕ) → get nat_cmp older v ≡ (if sorted.greatest == v then Some sorted.newest else get nat_cmp sorted.older v))
    → (v : ℕ) → (if eq_by_cmp nat_cmp v version then Some content else get nat_cmp older v) ≡ (if version == v then Some content else sorted_at sorted v)
unfolding choose
greater_more sorted older version content above more v =
    ap (λ (b : Bool). choose b content (get nat_cmp older v)) (unsigned_tied v version ∙ same_test v version)
    ∙ ap (choose (version == v) content)
    (more v ∙ ap (λ (b : Bool). choose b sorted.newest (get nat_cmp sorted.older v)) (same_test sorted.greatest v) ∙ sym (sorted_at-is sorted v))

-- ---- one content, or several

one_at : (version : ℕ) (content : Content) (v : ℕ) → version_at (One version content) v ≡ choose (v == version) content None
unfolding choose
one_at version content v = ap (λ (b : Bool). choose b content None) (unsigned_tied v version)

pub only_at : (version : ℕ) (content : Content) (v : ℕ) → v ≡ version → version_at (One version content) v ≡ Some content
unfolding choose
only_at version content v is = one_at version content v ∙ ap (λ (b : Bool). choose b content None) (eq-eqb v version is)

pub none_other : (version : ℕ) (content : Content) (v : ℕ) → (v == version) ≡ false → version_at (One version content) v ≡ None
unfolding choose
none_other version content v e = one_at version content v ∙ ap (λ (b : Bool). choose b content None) e

abbrev pub greatest_of : Versions → ℕ
greatest_of (One version content) = version
greatest_of (Several sorted) = sorted.value.greatest

pub newest_there : (versions : Versions) → version_at versions (greatest_of versions) ≡ Some (newest_of versions)
newest_there (One version content) = only_at version content version refl
newest_there (Several sorted) = newest_at sorted.value sorted.value.greatest refl

pub none_greater : (versions : Versions) (v : ℕ) → IsSome (version_at versions v) → v ≤ greatest_of versions
none_greater (One version content) v h =
    by_test (v == version)
    (λ e. let same : v ≡ version = eqb-true v version e in omega arith)
    (λ e. absurd (false≢true (subst (λ (o : Option Content). IsSome o) (none_other version content v e) h)))
none_greater (Several sorted) v h = at_most_greatest sorted.value v h

-- an only content, and then those of several that have one more
pub second_more : (version : ℕ) (content : Content) (at : ℕ → Option Content) (other : ℕ) (more : Content) (old : ℕ → Option Content)
    → ((v : ℕ) → old v ≡ (if version == v then Some content else None))
    → ((v : ℕ) → at v ≡ (if other == v then Some more else old v))
    → (v : ℕ) → at v ≡ (if other == v then Some more else version_at (One version content) v)
unfolding choose
second_more version content at other more old one is v =
    is v ∙ ap (choose (other == v) more) (one v ∙ ap (λ (b : Bool). choose b content None) (same_test version v) ∙ sym (one_at version content v))
