-- The names of a directory differ, and how many there are.
use Rattle.std.proofs.Common.{◌≡◌, ℕ, ◌==◌, cond, Bool, true, false, List, [], ◌∷◌, map, length, refl, sym, ◌∙◌, subst}
use Rattle.std.specs.Prelude.{⊤, T, filter, count_by}
use Rattle.std.specs.declared.cmp.Ordering.{Ordering}
use Rattle.std.specs.declared.cmp.Ordering.TheVariants.{Less, Equal, Greater}
use Rattle.std.specs.Ordering.{is_lt, ordering_reverse}
use Rattle.std.specs.FinMap.{entries}
use Rattle.std.specs.FinMap.Entries.{below_all}
use Rattle.std.proofs.lemmas.Bool.{eqb-true}
use Rattle.std.proofs.lemmas.List.{length-map}
use Rattle.std.proofs.lemmas.List.Sums.{length-filter}
use Rattle.jname.specs.Live.{Key, key_cmp}
use Rattle.jname.proofs.NamingLemmas.{key_cmp_total}
use Rattle.jname.proofs.SortedLemmas.{T_first, T_second}
use Rattle.jmount.specs.Tree.{State, entries_in}

pub length_entries : (s : State) (d : ℕ) → length (entries_in s d) ≡ count_by (λ e. e.0.0 == d) (entries s.names)
length_entries s d =
    length-map (filter (λ e. e.0.0 == d) (entries s.names)) (λ e. (e.0.1, e.1)) ∙ length-filter (λ e. e.0.0 == d) (entries s.names)

abbrev pub Others : List ℕ → List (List ℕ × ℕ) → Type 0
Others name [] = ⊤
Others name (e ∷ es) = (name ≡ e.0 → ⊥) × Others name es

abbrev pub names_among : ℕ → List (Key × ℕ) → List (List ℕ × ℕ)
names_among dir es = map (λ e. (e.0.1, e.1)) (filter (λ e. e.0.0 == dir) es)

not_less : (k : Key) → T (is_lt (key_cmp k k)) → ⊥
not_less k less = by (key_cmp k k) (key_cmp_total.antisymm k k) less
  where
    by : (r : Ordering) → r ≡ ordering_reverse r → T (is_lt r) → ⊥
    by Less e t = subst (λ q. T (is_lt q)) e tt
    by Equal e t = t
    by Greater e t = t

pub others : (dir : ℕ) (k : Key) (es : List (Key × ℕ)) → k.0 ≡ dir → T (below_all key_cmp k es) → Others k.1 (names_among dir es)
others dir k [] at below = tt
others dir k (e ∷ es) at below = by (e.0.0 == dir) refl (others dir k es at (T_second (is_lt (key_cmp k e.0)) (below_all key_cmp k es) below))
  where
    by : (b : Bool) → (e.0.0 == dir) ≡ b → Others k.1 (names_among dir es) → Others k.1 (map (λ e. (e.0.1, e.1)) (cond b (e ∷ filter (λ e. e.0.0 == dir) es) (filter (λ e. e.0.0 == dir) es)))
    by true is rest = (
      λ same.
          let one : k.0 ≡ e.0.0 = at ∙ sym (eqb-true e.0.0 dir is) in
          let key : k ≡ e.0 = (λ i. (one i, same i)) in
          not_less e.0 (subst (λ q. T (is_lt (key_cmp q e.0))) key (T_first (is_lt (key_cmp k e.0)) (below_all key_cmp k es) below)),
      rest,
    )
    by false is rest = rest
