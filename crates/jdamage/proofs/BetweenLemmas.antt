-- One more element between others: which is the one of highest version.
use Rattle.std.proofs.Common.{◌≡◌, ℕ, ◌<◌, ◌≤◌, Bool, true, false, cond, List, [], ◌∷◌, ◌++◌, length, get_or, Option, Some, None, refl, ap, sym, ◌∙◌, subst, inl, inr, ⊎_elim, arith}
use Rattle.std.specs.Prelude.{◌⊎◌, Contains, nat_lt, ◌==◌}
use Rattle.std.proofs.lemmas.Bool.{ltb-true, ltb-false, eqb-true, eqb-false, false≢true, true≢false}
use Rattle.std.proofs.lemmas.Bool.Decides.{nat_tests}
use Rattle.std.proofs.lemmas.Grind.{same_number_lists}
use Rattle.std.proofs.lemmas.List.Elements.{Contains-append_left, Contains-append_right, Contains-append_cases}
use Rattle.flashbase.specs.Lists.{newest, higher_of}
use Rattle.flashbase.proofs.ListLemmas.{version_there, newest_is_newest, newest_of_none}
use Rattle.flashbase.proofs.MemberLemmas.{Contains-none, Contains-here, Contains-there, Contains-cases}
use Rattle.jnode.specs.declared.node.Fill.{Fill}
use Rattle.jnode.specs.declared.node.Fill.TheVariants as fill
use Rattle.jnode.specs.declared.node.InodeNode.{InodeNode}

-- an element of the list with it is that one, or is there without it
pub cases_between : {X : Type 0} (a b : List X) (x y : X) → Contains (a ++ x ∷ b) y → (x ≡ y) ⊎ Contains (a ++ b) y
cases_between a b x y there =
    ⊎_elim
    (λ early. inr (Contains-append_left a b y early))
    (λ late. ⊎_elim (λ here. inl here) (λ after. inr (Contains-append_right a b y after)) (Contains-cases x b y late))
    (Contains-append_cases a (x ∷ b) y there)

pub in_between : {X : Type 0} (a b : List X) (x y : X) → Contains (a ++ b) y → Contains (a ++ x ∷ b) y
in_between a b x y there =
    ⊎_elim
    (λ early. Contains-append_left a (x ∷ b) y early)
    (λ late. Contains-append_right a (x ∷ b) y (Contains-there x b y late))
    (Contains-append_cases a b y there)

module _ {X : Type 0} (version : X → ℕ) (x : X) where
  -- with it nothing changes, or it is the newest: those before it are lower, and none is higher
  abbrev Changes : List X → Option X → Option X → Type 0
  Changes front old new =
      (new ≡ old) ⊎ ((new ≡ Some x) × ((y : X) → Contains front y → version y < version x) × (version_there version old ≤ version x))

  at_front : (old : Option X) → Changes [] old (Some (higher_of version x old))
  at_front None = inr (refl, λ y c. absurd (Contains-none y c), omega arith)
  at_front (Some y) = by (nat_lt (version x) (version y)) refl
    where
      by : (b : Bool) → nat_lt (version x) (version y) ≡ b → Changes [] (Some y) (Some (higher_of version x (Some y)))
      by true e = inl (ap (λ (b : Bool). Some (cond b y x)) e)
      by false e = inr (ap (λ (b : Bool). Some (cond b y x)) e, λ z c. absurd (Contains-none z c), ltb-false _ _ e)

  not_higher : (y : X) (old : Option X) → version_there version old ≤ version y → higher_of version y old ≡ y
  not_higher y None most = refl
  not_higher y (Some z) most = grind (arith, nat_tests)

  both_most : (y : X) (old : Option X) → version_there version old ≤ version x → version y < version x → version (higher_of version y old) ≤ version x
  both_most y None most less = omega arith
  both_most y (Some z) most less = grind (arith, nat_tests)

  one_before : (y : X) (front : List X) (old new : Option X) → Changes front old new → Changes (y ∷ front) (Some (higher_of version y old)) (Some (higher_of version y new))
  one_before y front old new (inl same) = inl (ap (λ o. Some (higher_of version y o)) same)
  one_before y front old new (inr (is, lower, most)) = by (nat_lt (version y) (version x)) refl
    where
      first : (b : Bool) → nat_lt (version y) (version x) ≡ b → Some (higher_of version y new) ≡ Some (cond b x y)
      first b e = ap (λ o. Some (higher_of version y o)) is ∙ ap (λ (t : Bool). Some (cond t x y)) e

      by : (b : Bool) → nat_lt (version y) (version x) ≡ b → Changes (y ∷ front) (Some (higher_of version y old)) (Some (higher_of version y new))
      by true e =
          let less : version y < version x = ltb-true _ _ e in
          inr (
            first true e,
            λ z c. ⊎_elim (λ (here : y ≡ z). subst (λ w. version w < version x) here less) (λ later. lower z later) (Contains-cases y front z c),
            both_most y old most less,
          )
      by false e =
          let high : version x ≤ version y = ltb-false _ _ e in
          inl (first false e ∙ ap Some (sym (not_higher y old (omega (arith, most, high)))))

  changes : (front back : List X) → Changes front (newest version (front ++ back)) (newest version (front ++ x ∷ back))
  changes [] back = at_front (newest version back)
  changes (y ∷ front) back = one_before y front (newest version (front ++ back)) (newest version (front ++ x ∷ back)) (changes front back)

  pub one_more_between : (front back : List X) (z : X) → ((y : X) → Contains back y → version y ≡ version x → y ≡ x)
      → Contains (front ++ back) z → version x ≤ version z
      → newest version (front ++ x ∷ back) ≡ newest version (front ++ back)
  one_more_between front back z same there most = by (newest version (front ++ back)) refl (changes front back)
    where
      by : (old : Option X) → newest version (front ++ back) ≡ old → Changes front (newest version (front ++ back)) (newest version (front ++ x ∷ back))
          → newest version (front ++ x ∷ back) ≡ newest version (front ++ back)
      by old e (inl is) = is
      by None e (inr (is, lower, high)) = absurd (Contains-none z (subst (λ (zs : List X). Contains zs z) (newest_of_none (front ++ back) version e) there))
      by (Some y) e (inr (is, lower, high)) =
          let found = newest_is_newest (front ++ back) version y e in
          let below : version y ≤ version x = subst (λ o. version_there version o ≤ version x) e high in
          let above : version z ≤ version y = found.1 z there in
          ⊎_elim
          (λ (before : Contains front y). absurd (let less = lower y before in omega (arith, less, above, most)))
          (λ (after : Contains back y). is ∙ ap Some (sym (same y after (omega (arith, below, above, most)))) ∙ sym e)
          (Contains-append_cases front back y found.0)

  -- and it is the newest where all others are lower
  pub newest_between : (front back : List X) → ((y : X) → Contains (front ++ back) y → version y < version x) → newest version (front ++ x ∷ back) ≡ Some x
  newest_between front back lower = by (newest version (front ++ x ∷ back)) refl
    where
      itself : Contains (front ++ x ∷ back) x
      itself = Contains-append_right front (x ∷ back) x (Contains-here x back)

      by : (new : Option X) → newest version (front ++ x ∷ back) ≡ new → newest version (front ++ x ∷ back) ≡ Some x
      by None e = absurd (Contains-none x (subst (λ (xs : List X). Contains xs x) (newest_of_none (front ++ x ∷ back) version e) itself))
      by (Some y) e =
          let is = newest_is_newest (front ++ x ∷ back) version y e in
          let above : version x ≤ version y = is.1 x itself in
          ⊎_elim
          (λ (here : x ≡ y). e ∙ ap Some (sym here))
          (λ other. absurd (let less = lower y other in omega (arith, less, above)))
          (cases_between front back x y is.0)

-- ---- nodes that cannot be told apart are one

abbrev Stable : {X : Type 0} → X → X → Type 0
Stable a b = (a ≡ b → ⊥) → ⊥

number : (n m : ℕ) → Stable n m → n ≡ m
number n m h = by (n == m) refl
  where
    by : (b : Bool) → (n == m) ≡ b → n ≡ m
    by true e = eqb-true n m e
    by false e = absurd (h (eqb-false n m e))

numbers : (a b : List ℕ) → Stable a b → a ≡ b
numbers a b h =
    same_number_lists a b
    (number (length a) (length b) (λ no. h (λ e. no (ap length e))))
    (λ k l. number (get_or a k 0) (get_or b k 0) (λ no. h (λ e. no (ap (λ (ns : List ℕ). get_or ns k 0) e))))

abbrev bytes_in : Fill → List ℕ
bytes_in fill.Zero = []
bytes_in (fill.Data bytes) = bytes

abbrev is_data : Fill → Bool
is_data fill.Zero = false
is_data (fill.Data bytes) = true

fills : (a b : Fill) → Stable a b → a ≡ b
fills fill.Zero fill.Zero h = refl
fills fill.Zero (fill.Data bytes) h = absurd (h (λ e. false≢true (ap is_data e)))
fills (fill.Data bytes) fill.Zero h = absurd (h (λ e. true≢false (ap is_data e)))
fills (fill.Data a) (fill.Data b) h = ap fill.Data (numbers a b (λ no. h (λ e. no (ap bytes_in e))))

pub node_stable : (a b : InodeNode) → Stable a b → a ≡ b
node_stable a b h =
    let field : (f : InodeNode → ℕ) → f a ≡ f b = λ f. number (f a) (f b) (λ no. h (λ e. no (ap f e))) in
    let filled : a.fill ≡ b.fill = fills a.fill b.fill (λ no. h (λ e. no (ap (λ (n : InodeNode). n.fill) e))) in
    λ j. record {
      ino = field (λ n. n.ino) j;
      version = field (λ n. n.version) j;
      mode = field (λ n. n.mode) j;
      uid = field (λ n. n.uid) j;
      gid = field (λ n. n.gid) j;
      isize = field (λ n. n.isize) j;
      atime = field (λ n. n.atime) j;
      mtime = field (λ n. n.mtime) j;
      ctime = field (λ n. n.ctime) j;
      offset = field (λ n. n.offset) j;
      dsize = field (λ n. n.dsize) j;
      fill = filled j;
    }
