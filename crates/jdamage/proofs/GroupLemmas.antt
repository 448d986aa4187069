-- Items by number, after one is added.
use Rattle.std.proofs.Common.{◌≡◌, ℕ, Bool, true, false, cond, List, [], ◌∷◌, ◌++◌, refl, sym, ap, ◌∙◌, append-nil, Some, None}
use Rattle.std.specs.Prelude.{◌==◌, Vec}
use Rattle.std.specs.declared.alloc.Global.{Global}
use Rattle.std.specs.BTreeMap.{BTreeMap, get}
use Rattle.std.specs.Map.{lookup}
use Rattle.std.specs.Ordering.{nat_cmp, eq_by_cmp}
use Rattle.std.specs.Cmp.{unsigned_tied}
use Rattle.std.proofs.lemmas.Bool.{eqb-true}
use Rattle.jdamage.specs.Groups.{group_of, items_or_none}

pub added : {T : Type 0} (old new : BTreeMap ℕ (Vec T Global)) (number : ℕ) (group : Vec T Global) (item : T) → ((n : ℕ) → get nat_cmp new n ≡ cond (eq_by_cmp nat_cmp number n) (Some group) (get nat_cmp old n))
    → group.items ≡ group_of old number ++ item ∷ []
    → (n : ℕ) → group_of new n ≡ group_of old n ++ cond (number == n) (item ∷ []) []
unfolding group_of
added {T} old new number group item at is n = by (number == n) refl
  where
    by : (b : Bool) → (number == n) ≡ b → group_of new n ≡ group_of old n ++ cond b (item ∷ []) []
    by true e =
        ap items_or_none (at n ∙ ap (λ (t : Bool). cond t (Some group) (get nat_cmp old n)) (unsigned_tied number n ∙ e))
        ∙ is ∙ ap (λ (k : ℕ). group_of old k ++ item ∷ []) (eqb-true number n e)
    by false e =
        ap items_or_none (at n ∙ ap (λ (t : Bool). cond t (Some group) (get nat_cmp old n)) (unsigned_tied number n ∙ e))
        ∙ sym (append-nil (group_of old n))

pub group_there : {T : Type 0} (groups : BTreeMap ℕ (Vec T Global)) (number : ℕ) (group : Vec T Global) → get nat_cmp groups number ≡ Some group → group.items ≡ group_of groups number
unfolding group_of
group_there groups number group there = sym (ap items_or_none there)

pub group_gone : {T : Type 0} (groups : BTreeMap ℕ (Vec T Global)) (number : ℕ) → get nat_cmp groups number ≡ None → group_of groups number ≡ []
unfolding group_of
group_gone groups number gone = ap items_or_none gone

pub added_first : {T : Type 0} (old lent new : BTreeMap ℕ (Vec T Global)) (number : ℕ) (group : Vec T Global) (item : T) → lent ≡ old → get nat_cmp old number ≡ None
    → ((n : ℕ) → get nat_cmp new n ≡ cond (eq_by_cmp nat_cmp number n) (Some group) (get nat_cmp lent n)) → group.items ≡ item ∷ []
    → (n : ℕ) → group_of new n ≡ group_of old n ++ cond (number == n) (item ∷ []) []
added_first {T} old lent new number group item same none at is =
    added old new number group item
    (λ n. at n ∙ ap (λ (m : BTreeMap ℕ (Vec T Global)). cond (eq_by_cmp nat_cmp number n) (Some group) (get nat_cmp m n)) same)
    (is ∙ ap (λ (l : List T). l ++ item ∷ []) (sym (group_gone old number none)))

pub no_group : {T : Type 0} (groups : BTreeMap ℕ (Vec T Global)) → groups.entries ≡ [] → (number : ℕ) → group_of groups number ≡ []
no_group {T} groups none number = group_gone groups number (ap (λ (es : List (ℕ × Vec T Global)). lookup (eq_by_cmp nat_cmp number) es) none)
