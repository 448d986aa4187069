-- Spots, and those that are bare no more.
use Rattle.std.proofs.Common.{◌≡◌, ℕ, ◌<◌, ◌≤◌, Bool, true, false, cond, not, refl, sym, ap, ◌∙◌, arith}
use Rattle.std.specs.Prelude.{◌==◌, ◌&&◌, nat_lt, nat_le}
use Rattle.std.specs.Ordering.{nat_cmp}
use Rattle.std.specs.Cmp.{unsigned_tied}
use Rattle.std.specs.BTreeSet.{BTreeSet, contains}
use Rattle.std.proofs.lemmas.Bool.{false≢true, eqb-true}
use Rattle.std.proofs.lemmas.Bool.Decides.{nat_tests}
use Rattle.jnode.specs.declared.node.NodeRef.{NodeRef}
use Rattle.jnode.specs.declared.node.NodeRef.TheVariants.{Entry, Inode}
use Rattle.jcompact.specs.Taking.{HasEnds}
use Rattle.jcompact.proofs.RankLemmas.{and_false, and_true}
use Rattle.jcompact.proofs.ReachingLemmas.{Loses}

pub cover_more : (first old new : BTreeSet ℕ) (from to k : ℕ) → from ≤ k → k < to → Loses old new k
    → ((c : ℕ) → (nat_le from c && nat_lt c to) ≡ false → contains nat_cmp old c ≡ contains nat_cmp first c)
    → (c : ℕ) → (nat_le from c && nat_lt c to) ≡ false → contains nat_cmp new c ≡ contains nat_cmp first c
cover_more first old new from to k low high loses others c out = by (k == c) refl
  where
    by : (b : Bool) → (k == c) ≡ b → contains nat_cmp new c ≡ contains nat_cmp first c
    by true e =
        let same : k ≡ c = eqb-true k c e in
        let within : (nat_le from k && nat_lt k to) ≡ true = grind (arith, nat_tests) in
        absurd (false≢true (sym out ∙ ap (λ (n : ℕ). nat_le from n && nat_lt n to) (sym same) ∙ within))
    by false e = loses c ∙ ap (λ (t : Bool). cond t false (contains nat_cmp old c)) (unsigned_tied k c ∙ e) ∙ others c out

pub cover_all : (first new : BTreeSet ℕ) (from to : ℕ) → ((c : ℕ) → (nat_le from c && nat_lt c to) ≡ false → contains nat_cmp new c ≡ contains nat_cmp first c)
    → ((c : ℕ) → from ≤ c → c < to → contains nat_cmp new c ≡ false) → (c : ℕ) → contains nat_cmp new c ≡ (contains nat_cmp first c && not (nat_le from c && nat_lt c to))
cover_all first new from to others none c = by (nat_le from c && nat_lt c to) refl
  where
    by : (b : Bool) → (nat_le from c && nat_lt c to) ≡ b → contains nat_cmp new c ≡ (contains nat_cmp first c && not b)
    by true e = none c (grind (arith, nat_tests)) (grind (arith, nat_tests)) ∙ sym (and_false (contains nat_cmp first c))
    by false e = others c e ∙ sym (and_true (contains nat_cmp first c))

-- ---- where ranges begin and end

pub keeps_ends : (old new : BTreeSet ℕ) (r : NodeRef) → ((c : ℕ) → contains nat_cmp old c ≡ true → contains nat_cmp new c ≡ true) → HasEnds old r → HasEnds new r
keeps_ends old new (Entry entry) keeps ends = tt
keeps_ends old new (Inode node) keeps ends = (keeps _ ends.0, keeps _ ends.1)
