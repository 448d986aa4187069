-- A set of directories that no way leaves never reaches the root.
use Rattle.std.proofs.Common.{◌≡◌, ◌≢◌, ℕ, zero, suc, Bool, true, false, cond, List, [], ◌∷◌, Option, Some, None, refl, sym, ap, ◌∙◌, subst, inl, inr, ◌⊎◌}
use Rattle.std.specs.Prelude.{◌==◌, option_and_then, option_map, is_some, unwrap_or}
use Rattle.std.specs.Ordering.{eq_by_cmp, nat_cmp}
use Rattle.std.specs.Cmp.{nat_cmp_total, eq_by_cmp_equiv}
use Rattle.std.specs.BTreeMap.{is_at}
use Rattle.std.specs.BTreeSet.{BTreeSet, contains}
use Rattle.std.specs.FinMap.{nat_cmp-IsAntisymmetric}
use Rattle.std.specs.List.{list_any}
use Rattle.std.proofs.lemmas.Bool.{true≢false, false≢true}
use Rattle.std.proofs.lemmas.Map.Views.{tells_apart}
use Rattle.jmount.specs.Tree.{State, ObjectOf, all_entries, directory_bits, first_directory, first_directory_in, has_bits, is_directory, object}
use Rattle.jdamage.specs.Ways.{IsNowhere, LeadNowhere, NameOf, climbed, first_name}
use Rattle.jdamage.proofs.WayLemmas.{climb_step, is_first_name, not_one}

-- ---- sets

same_number : (i j : ℕ) → eq_by_cmp nat_cmp i j ≡ true → i ≡ j
same_number i j h = tells_apart {R = nat_cmp} nat_cmp-IsAntisymmetric i j h

itself : (i : ℕ) → eq_by_cmp nat_cmp i i ≡ true
itself i = (eq_by_cmp_equiv nat_cmp_total).refl i

pub none_in : (set : BTreeSet ℕ) (i : ℕ) → set.keys ≡ [] → contains nat_cmp set i ≡ false
none_in set i none = ap (λ (ks : List ℕ). list_any (is_at (nat_cmp i)) ks) none

abbrev pub Gains : BTreeSet ℕ → BTreeSet ℕ → ℕ → Type 0
Gains old new k = (q : ℕ) → contains nat_cmp new q ≡ cond (eq_by_cmp nat_cmp k q) true (contains nat_cmp old q)

pub gained : (old new : BTreeSet ℕ) (k q : ℕ) → Gains old new k → contains nat_cmp new q ≡ true → (k ≡ q) ⊎ (contains nat_cmp old q ≡ true)
gained old new k q gains there = by (eq_by_cmp nat_cmp k q) refl
  where
    by : (b : Bool) → eq_by_cmp nat_cmp k q ≡ b → (k ≡ q) ⊎ (contains nat_cmp old q ≡ true)
    by true e = inl (same_number k q e)
    by false e = inr (sym (gains q ∙ ap (λ (b : Bool). cond b true (contains nat_cmp old q)) e) ∙ there)

pub gains_it : (old new : BTreeSet ℕ) (k : ℕ) → Gains old new k → contains nat_cmp new k ≡ true
gains_it old new k gains = gains k ∙ ap (λ (b : Bool). cond b true (contains nat_cmp old k)) (itself k)

pub gains_more : (old new : BTreeSet ℕ) (k q : ℕ) → Gains old new k → contains nat_cmp old q ≡ true → contains nat_cmp new q ≡ true
gains_more old new k q gains there = gains q ∙ ap (λ (b : Bool). cond (eq_by_cmp nat_cmp k q) true b) there ∙ both (eq_by_cmp nat_cmp k q)
  where
    both : (b : Bool) → cond b true true ≡ true
    both true = refl
    both false = refl

-- ---- the directory of a name

pub name_there : (o : Option NameOf) (dir : ℕ) → Some dir ≡ option_map (λ n. n.0) o → (n : NameOf) × (o ≡ Some n) × (n.0 ≡ dir)
name_there None dir is = absurd (false≢true (ap is_some (sym is)))
name_there (Some n) dir is = (n, refl, ap (λ (p : Option ℕ). unwrap_or p 0) (sym is))

pub name_missing : (o : Option NameOf) → None ≡ option_map (λ n. n.0) o → o ≡ None
name_missing None is = refl
name_missing (Some n) is = absurd (false≢true (ap is_some is))

-- a directory is there, so that the mounted image keeps the directory of its first name
pub directory_above : (s : State) (i : ℕ) → is_directory s i ≡ true → first_directory s i ≡ option_map (λ n. n.0) (first_name s i)
directory_above s i there =
    ap (λ (b : Bool). cond b (first_directory_in (all_entries s) i) None) (is_held (object s i) there) ∙ ap (option_map (λ n. n.0)) (is_first_name s i)
  where
    is_held : (o : Option (ObjectOf (List ℕ))) → has_bits directory_bits o ≡ true → is_some o ≡ true
    is_held None there = absurd (false≢true there)
    is_held (Some o) there = refl

-- ---- ways

module _ (s : State) (up : ℕ → Option NameOf) where
  pub nowhere_gone : (dir : ℕ) → is_directory s dir ≡ false → IsNowhere s up dir
  unfolding climbed
  nowhere_gone dir gone zero names = refl
  nowhere_gone dir gone (suc steps) names =
      climb_step s up (suc steps) steps dir names refl
      ∙ ap (λ (b : Bool). cond b (cond (dir == 1) (Some names) (option_and_then (λ n. climbed s up steps n.0 (n.1 ∷ names)) (up dir))) None) gone

  -- in a step, where the directory is not the root
  stepped : (steps dir : ℕ) (names : List (List ℕ)) → dir ≢ 1 → ((n : NameOf) → up dir ≡ Some n → climbed s up steps n.0 (n.1 ∷ names) ≡ None) → climbed s up (suc steps) dir names ≡ None
  stepped steps dir names other above =
      climb_step s up (suc steps) steps dir names refl
      ∙ ap (λ (b : Bool). cond (is_directory s dir) (cond b (Some names) (option_and_then (λ n. climbed s up steps n.0 (n.1 ∷ names)) (up dir))) None) (not_one dir other)
      ∙ by (is_directory s dir) (up dir) refl
    where
      by : (b : Bool) (o : Option NameOf) → up dir ≡ o → cond b (option_and_then (λ n. climbed s up steps n.0 (n.1 ∷ names)) o) None ≡ None
      by false o is = refl
      by true None is = refl
      by true (Some n) is = above n is

  pub nowhere_nameless : (dir : ℕ) → dir ≢ 1 → up dir ≡ None → IsNowhere s up dir
  unfolding climbed
  nowhere_nameless dir other none zero names = refl
  nowhere_nameless dir other none (suc steps) names = stepped steps dir names other (λ n is. absurd (false≢true (ap is_some (sym none ∙ is))))

  -- directories of which each leads to one of them, or to one that leads nowhere
  abbrev pub Stays : (ℕ → Type 0) → Type 0
  Stays P = (dir : ℕ) → P dir → (dir ≢ 1) × ((n : NameOf) → up dir ≡ Some n → P n.0 ⊎ IsNowhere s up n.0)

  pub stays_nowhere : (P : ℕ → Type 0) → Stays P → (steps dir : ℕ) (names : List (List ℕ)) → P dir → climbed s up steps dir names ≡ None
  unfolding climbed
  stays_nowhere P stays zero dir names here = refl
  stays_nowhere P stays (suc steps) dir names here =
      stepped steps dir names (stays dir here).0 (λ n is. next n (λ there. stays_nowhere P stays steps n.0 (n.1 ∷ names) there) ((stays dir here).1 n is))
    where
      next : (n : NameOf) → (P n.0 → climbed s up steps n.0 (n.1 ∷ names) ≡ None) → P n.0 ⊎ IsNowhere s up n.0 → climbed s up steps n.0 (n.1 ∷ names) ≡ None
      next n below (inl there) = below there
      next n below (inr gone) = gone steps (n.1 ∷ names)

  -- ---- directories that were met on a way, which goes on here

  abbrev pub GoOn : BTreeSet ℕ → ℕ → Type 0
  GoOn met here = (dir : ℕ) → contains nat_cmp met dir ≡ true
      → (dir ≢ 1) × ((n : NameOf) → up dir ≡ Some n → (contains nat_cmp met n.0 ≡ true) ⊎ (n.0 ≡ here))

  pub none_met : (met : BTreeSet ℕ) (here : ℕ) → met.keys ≡ [] → GoOn met here
  none_met met here none dir there = absurd (true≢false (sym there ∙ none_in met dir none))

  pub met_nowhere : (met : BTreeSet ℕ) (here : ℕ) → GoOn met here → (contains nat_cmp met here ≡ true) ⊎ IsNowhere s up here → LeadNowhere s up met
  met_nowhere met here on ends dir there steps names =
      stays_nowhere (λ (d : ℕ). contains nat_cmp met d ≡ true) (λ d one. ((on d one).0, λ n is. next ends n ((on d one).1 n is))) steps dir names there
    where
      next : (contains nat_cmp met here ≡ true) ⊎ IsNowhere s up here → (n : NameOf) → (contains nat_cmp met n.0 ≡ true) ⊎ (n.0 ≡ here) → (contains nat_cmp met n.0 ≡ true) ⊎ IsNowhere s up n.0
      next ends n (inl held) = inl held
      next (inl again) n (inr same) = inl (subst (λ (d : ℕ). contains nat_cmp met d ≡ true) (sym same) again)
      next (inr gone) n (inr same) = inr (subst (IsNowhere s up) (sym same) gone)

  pub met_more : (met new : BTreeSet ℕ) (here after : ℕ) (n : NameOf) → GoOn met here → here ≢ 1 → up here ≡ Some n → n.0 ≡ after → Gains met new here → GoOn new after
  met_more met new here after n on other is leads gains dir there = by (gained met new here dir gains there)
    where
      same_name : (o : Option NameOf) (m : NameOf) → o ≡ Some n → o ≡ Some m → m.0 ≡ n.0
      same_name o m a b = search

      by : (here ≡ dir) ⊎ (contains nat_cmp met dir ≡ true) → (dir ≢ 1) × ((m : NameOf) → up dir ≡ Some m → (contains nat_cmp new m.0 ≡ true) ⊎ (m.0 ≡ after))
      by (inl same) = subst (λ (d : ℕ). (d ≢ 1) × ((m : NameOf) → up d ≡ Some m → (contains nat_cmp new m.0 ≡ true) ⊎ (m.0 ≡ after))) same
          (other, λ m first. inr (same_name (up here) m is first ∙ leads))
      by (inr old) = ((on dir old).0, λ m first. further m ((on dir old).1 m first))
        where
          further : (m : NameOf) → (contains nat_cmp met m.0 ≡ true) ⊎ (m.0 ≡ here) → (contains nat_cmp new m.0 ≡ true) ⊎ (m.0 ≡ after)
          further m (inl held) = inl (gains_more met new here m.0 gains held)
          further m (inr now) = inl (subst (λ (d : ℕ). contains nat_cmp new d ≡ true) (sym now) (gains_it met new here gains))

  pub both_nowhere : (old new more : BTreeSet ℕ) → LeadNowhere s up old → LeadNowhere s up more
      → ((i : ℕ) → contains nat_cmp new i ≡ true → contains nat_cmp old i ≡ false → contains nat_cmp more i ≡ true) → LeadNowhere s up new
  both_nowhere old new more are more_are added dir there = by (contains nat_cmp old dir) refl
    where
      by : (b : Bool) → contains nat_cmp old dir ≡ b → IsNowhere s up dir
      by true was = are dir was
      by false was = more_are dir (added dir there was)

  pub none_nowhere : (set : BTreeSet ℕ) → set.keys ≡ [] → LeadNowhere s up set
  none_nowhere set none dir there = absurd (true≢false (sym there ∙ none_in set dir none))

  -- a way ends at a directory that leads nowhere, or that was met
  pub ends : (nowhere met : BTreeSet ℕ) (here : ℕ) → LeadNowhere s up nowhere → GoOn met here
      → (contains nat_cmp nowhere here ≡ true) ⊎ ((contains nat_cmp met here ≡ true) ⊎ (is_directory s here ≡ false)) → LeadNowhere s up met
  ends nowhere met here are on (inl known) = met_nowhere met here on (inr (are here known))
  ends nowhere met here are on (inr (inl again)) = met_nowhere met here on (inl again)
  ends nowhere met here are on (inr (inr gone)) = met_nowhere met here on (inr (nowhere_gone here gone))
