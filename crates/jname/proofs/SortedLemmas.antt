-- Lists of entries whose keys strictly rise: two with the same elements are one list.
use Rattle.std.proofs.Common.{◌≡◌, ◌↔◌, Bool, true, false, ◌&&◌, cond, List, [], ◌∷◌, ◌++◌, Option, Some, None, refl, ap, sym, ◌∙◌, subst, ⊎_elim, Ordering}
use Rattle.std.specs.Prelude.{Contains, T}
use Rattle.std.specs.declared.cmp.Ordering.TheVariants.{Less, Equal, Greater}
use Rattle.std.specs.List.{cons_option}
use Rattle.std.specs.Ordering.{is_lt, is_eq, eq_by_cmp}
use Rattle.std.specs.Cmp.{IsTotalOrder, eq_by_cmp_equiv, tied_itself}
use Rattle.std.specs.FinMap.{IsAntisymmetric}
use Rattle.std.specs.FinMap.Entries.{find, below_all, is_sorted, same_entries}
use Rattle.std.proofs.lemmas.Option.{same_Some}
use Rattle.std.proofs.lemmas.List.Elements.{Contains-append_cases}
use Rattle.std.proofs.lemmas.Map.Views.{tells_apart}
use Rattle.flashbase.proofs.MemberLemmas.{Contains-none, Contains-here, Contains-there, Contains-cases}

pub T_both : (a b : Bool) → T a → T b → T (a && b)
T_both true b p q = q
T_both false b p q = p

pub T_first : (a b : Bool) → T (a && b) → T a
T_first true b p = tt
T_first false b p = p

pub T_second : (a b : Bool) → T (a && b) → T b
T_second true b p = p
T_second false b p = absurd p

T_less : (o : Ordering) → o ≡ Less → T (is_lt o)
T_less o e = subst (λ (r : Ordering). T (is_lt r)) (sym e) tt

less_T : (o : Ordering) → T (is_lt o) → o ≡ Less
less_T Less p = refl
less_T Equal p = absurd p
less_T Greater p = absurd p

module _ {K X : Type 0} (R : K → K → Ordering) where
  pub below_all-from : (x : K) (es : List (K × X)) → ((e : K × X) → Contains es e → R x e.0 ≡ Less) → T (below_all R x es)
  below_all-from x [] h = tt
  below_all-from x (e ∷ es) h = T_both (is_lt (R x e.0)) (below_all R x es) (T_less (R x e.0) (h e (Contains-here e es))) (below_all-from x es (λ f c. h f (Contains-there e es f c)))

  pub below_all-at : (x : K) (es : List (K × X)) (e : K × X) → T (below_all R x es) → Contains es e → R x e.0 ≡ Less
  below_all-at x [] e h c = absurd (Contains-none e c)
  below_all-at x (f ∷ es) e h c =
      ⊎_elim
      (λ (is : f ≡ e). ap (λ (g : K × X). R x g.0) (sym is) ∙ less_T (R x f.0) (T_first (is_lt (R x f.0)) (below_all R x es) h))
      (λ later. below_all-at x es e (T_second (is_lt (R x f.0)) (below_all R x es) h) later)
      (Contains-cases f es e c)

  pub is_sorted-append : (xs ys : List (K × X)) → T (is_sorted R xs) → T (is_sorted R ys) → ((x y : K × X) → Contains xs x → Contains ys y → R x.0 y.0 ≡ Less) → T (is_sorted R (xs ++ ys))
  is_sorted-append [] ys a b h = b
  is_sorted-append (x ∷ xs) ys a b h =
      T_both (below_all R x.0 (xs ++ ys)) (is_sorted R (xs ++ ys))
      (below_all-from x.0 (xs ++ ys) (λ e c. ⊎_elim (λ l. below_all-at x.0 xs e (T_first (below_all R x.0 xs) (is_sorted R xs) a) l) (λ r. h x e (Contains-here x xs) r) (Contains-append_cases xs ys e c)))
      (is_sorted-append xs ys (T_second (below_all R x.0 xs) (is_sorted R xs) a) b (λ p q c d. h p q (Contains-there x xs p c) d))

  pub is_sorted-cons_option : (o : Option (K × X)) (rest : List (K × X)) → T (is_sorted R rest) → ((x : K × X) → o ≡ Some x → T (below_all R x.0 rest)) → T (is_sorted R (cons_option o rest))
  is_sorted-cons_option None rest a h = a
  is_sorted-cons_option (Some x) rest a h = T_both (below_all R x.0 rest) (is_sorted R rest) (h x refl) a

  find_at : IsAntisymmetric R → (b : Bool) (e : K × X) (es : List (K × X)) (q : K) (v : X) → eq_by_cmp R q e.0 ≡ b → cond b (Some e.1) (find R q es) ≡ Some v → (find R q es ≡ Some v → Contains es (q, v)) → Contains (e ∷ es) (q, v)
  find_at same true e es q v t h later =
      let key : q ≡ e.0 = tells_apart same q e.0 t in
      let value : e.1 ≡ v = same_Some e.1 v h in
      subst (λ (k : K). Contains (e ∷ es) (k, v)) (sym key) (subst (λ (x : X). Contains (e ∷ es) (e.0, x)) value (Contains-here e es))
  find_at same false e es q v t h later = Contains-there e es (q, v) (later h)

  pub Contains-from_find : IsAntisymmetric R → (es : List (K × X)) (q : K) (v : X) → find R q es ≡ Some v → Contains es (q, v)
  Contains-from_find same [] q v h = let no : None ≡ Some v = h in cc
  Contains-from_find same (e ∷ es) q v h = find_at same (eq_by_cmp R q e.0) e es q v refl h (Contains-from_find same es q v)

  pub find-from_Contains : IsTotalOrder R → (es : List (K × X)) (q : K) (v : X) → T (is_sorted R es) → Contains es (q, v) → find R q es ≡ Some v
  find-from_Contains o [] q v s h = absurd (Contains-none (q, v) h)
  find-from_Contains o (e ∷ es) q v s h =
      ⊎_elim
      (λ (is : e ≡ (q, v)).
      ap (λ (k : K). cond (eq_by_cmp R q k) (Some e.1) (find R q es)) (ap (λ (p : K × X). p.0) is)
      ∙ ap (λ (r : Ordering). cond (is_eq r) (Some e.1) (find R q es)) (tied_itself o q) ∙ ap (λ (p : K × X). Some p.1) is)
      (λ later.
      let below : R e.0 q ≡ Less = below_all-at e.0 es (q, v) (T_first (below_all R e.0 es) (is_sorted R es) s) later in
      ap (λ (b : Bool). cond b (Some e.1) (find R q es)) ((eq_by_cmp_equiv o).symm q e.0 ∙ ap is_eq below)
      ∙ find-from_Contains o es q v (T_second (below_all R e.0 es) (is_sorted R es) s) later)
      (Contains-cases e es (q, v) h)

  both_find : IsTotalOrder R → IsAntisymmetric R → (es fs : List (K × X)) → T (is_sorted R es) → T (is_sorted R fs) → ((e : K × X) → Contains es e ↔ Contains fs e) → (q : K) (x y : Option X) → find R q es ≡ x → find R q fs ≡ y → x ≡ y
  both_find o same es fs s t is q None None a b = refl
  both_find o same es fs s t is q None (Some w) a b = sym a ∙ find-from_Contains o es q w s ((is (q, w)).1 (Contains-from_find same fs q w b))
  both_find o same es fs s t is q (Some v) y a b = sym (find-from_Contains o fs q v t ((is (q, v)).0 (Contains-from_find same es q v a))) ∙ b

  pub same_members : IsTotalOrder R → IsAntisymmetric R → (es fs : List (K × X)) → T (is_sorted R es) → T (is_sorted R fs) → ((e : K × X) → Contains es e ↔ Contains fs e) → es ≡ fs
  same_members o same es fs s t is = same_entries R o same es fs s t (λ q. both_find o same es fs s t is q (find R q es) (find R q fs) refl refl)
