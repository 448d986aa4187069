-- Names lead to the same of the nodes that matter, or to the same fault.
use Rattle.std.proofs.Common.{◌≡◌, ℕ, Bool, true, false, cond, List, [], ◌∷◌, ◌++◌, Option, Some, None, Ok, Err, refl, ap, sym, ◌∙◌}
use Rattle.std.specs.Prelude.{Result, filter, is_some}
use Rattle.std.proofs.lemmas.Bool.{true≢false, false≢true}
use Rattle.std.proofs.lemmas.Option.{same_Some}
use Rattle.jname.proofs.ContentsByNameLemmas.{by_test}
use Rattle.jmount.specs.Clash.{NoneClash}
use Rattle.jmount.specs.Collected.{without_addresses}
use Rattle.jmount.specs.Find.{find_names, step, step_to, walk}
use Rattle.jmount.specs.StateOf.{state_of}
use Rattle.jmount.specs.Tree.{ObjectOf, State, Tree, has_bits, directory_bits, object, named, is_there, is_directory}
use Rattle.jmount.specs.declared.fault.FindFault.{FindFault}
use Rattle.jmount.specs.declared.fault.FindFault.TheVariants as fault
use Rattle.jmount.proofs.NumbersLemmas.{object-state_of, named-state_of}
use Rattle.jcompact.specs.Matters.{Placed, NamesLeadTo, SaysReached, is_object, matters}
use Rattle.jcompact.proofs.ObjectLemmas.{object_kept}
use Rattle.jcompact.proofs.NameLemmas.{kept_live, live_kept}

-- ---- walks

walk-append : {B : Type 0} (t : Tree B) (a b : List (List ℕ)) (r : Result ℕ FindFault) → walk t (a ++ b) r ≡ walk t b (walk t a r)
walk-append t [] b r = refl
walk-append t (n ∷ a) [] (Err f) = refl
walk-append t (n ∷ a) (m ∷ b) (Err f) = refl
walk-append t (n ∷ a) b (Ok here) = walk-append t a b (step t here n)

pub reached_more : {B : Type 0} (t : Tree B) (here i : ℕ) (name : List ℕ) → NamesLeadTo t here → step t here name ≡ Ok i → NamesLeadTo t i
reached_more t here i name (names, leads) h =
    (names ++ name ∷ [], walk-append t names (name ∷ []) (Ok 1) ∙ ap (walk t (name ∷ [])) leads ∙ h)

cond_same : {A : Type 0} (b c : Bool) (x y z : A) → b ≡ c → (c ≡ true → x ≡ y) → cond b x z ≡ cond c y z
cond_same true true x y z e h = h refl
cond_same false false x y z e h = refl
cond_same true false x y z e h = absurd (true≢false e)
cond_same false true x y z e h = absurd (false≢true e)

module _ (ns kept : List Placed) (reached : ℕ → Bool) (apart : NoneClash (without_addresses ns)) (says : SaysReached ns reached) (is : kept ≡ filter (matters ns reached) ns) where
  abbrev old : State
  old = state_of (without_addresses ns)

  abbrev new : State
  new = state_of (without_addresses kept)

  pub object_same : (i : ℕ) → NamesLeadTo old i → object new i ≡ object old i
  object_same i leads =
      object-state_of (without_addresses kept) i ∙ object_kept ns kept reached apart is i ((says i).1 leads) ∙ sym (object-state_of (without_addresses ns) i)

  pub there_is : (j : ℕ) → is_there old j ≡ is_object ns j
  there_is j = ap is_some (object-state_of (without_addresses ns) j)

  -- a name of a directory that is reached
  pub stepped : (dir j : ℕ) (name : List ℕ) → NamesLeadTo old dir → is_directory old dir ≡ true → named old dir name ≡ Some j → is_there old j ≡ true → NamesLeadTo old j
  stepped dir j name leads folder stands there =
      reached_more old dir j name leads
      (ap (λ (b : Bool). cond b (step_to old (named old dir name)) (Err fault.NotDirectory)) folder
      ∙ ap (step_to old) stands
      ∙ ap (λ (b : Bool). cond b (Ok j) (Err fault.NotFound)) there)

  both_named : (dir j : ℕ) (name : List ℕ) → NamesLeadTo old dir → is_directory old dir ≡ true → named old dir name ≡ Some j → is_object ns j ≡ true
      → step_to new (Some j) ≡ step_to old (Some j)
  both_named dir j name leads folder stands thing =
      ap (λ (o : Option (ObjectOf (List ℕ))). cond (is_some o) (Ok j) (Err fault.NotFound))
      (object_same j (stepped dir j name leads folder stands (there_is j ∙ thing)))

  named_same : (dir : ℕ) (name : List ℕ) → NamesLeadTo old dir → is_directory old dir ≡ true → (o p : Option ℕ) → named old dir name ≡ o → named new dir name ≡ p
      → step_to new p ≡ step_to old o
  named_same dir name leads folder None None e f = refl
  named_same dir name leads folder None (Some k) e f =
      let there = kept_live ns kept reached apart is (dir, name) k (sym (named-state_of (without_addresses kept) dir name) ∙ f) in
      absurd (false≢true (ap is_some (sym e ∙ named-state_of (without_addresses ns) dir name ∙ there.live_is)))
  named_same dir name leads folder (Some j) None e f =
      by_test (is_there old j)
      (λ there.
      let is_kept = live_kept ns kept reached apart is dir name j ((says dir).1 leads)
      (ap (has_bits directory_bits) (sym (object-state_of (without_addresses ns) dir)) ∙ folder)
      (sym (there_is j) ∙ there) (sym (named-state_of (without_addresses ns) dir name) ∙ e) in
      absurd (false≢true (ap is_some (sym f ∙ named-state_of (without_addresses kept) dir name ∙ is_kept))))
      (λ missing. sym (ap (λ (b : Bool). cond b (Ok j) (Err fault.NotFound)) missing))
  named_same dir name leads folder (Some j) (Some k) e f =
      let there = kept_live ns kept reached apart is (dir, name) k (sym (named-state_of (without_addresses kept) dir name) ∙ f) in
      let stands : named old dir name ≡ Some k = named-state_of (without_addresses ns) dir name ∙ there.live_is in
      let same : k ≡ j = same_Some k j (sym stands ∙ e) in
      both_named dir k name leads folder stands there.object_is ∙ ap (λ (n : ℕ). step_to old (Some n)) same

  step_same : (dir : ℕ) (name : List ℕ) → NamesLeadTo old dir → step new dir name ≡ step old dir name
  step_same dir name leads =
      cond_same (is_directory new dir) (is_directory old dir) (step_to new (named new dir name)) (step_to old (named old dir name)) (Err fault.NotDirectory)
      (ap (has_bits directory_bits) (object_same dir leads))
      (λ folder. named_same dir name leads folder (named old dir name) (named new dir name) refl refl)

  walk_on : (names : List (List ℕ)) (r : Result ℕ FindFault) → ((i : ℕ) → r ≡ Ok i → NamesLeadTo old i) → walk new names r ≡ walk old names r
  walk_on [] r h = refl
  walk_on (name ∷ names) (Err f) h = refl
  walk_on (name ∷ names) (Ok here) h =
      ap (walk new names) (step_same here name (h here refl))
      ∙ walk_on names (step old here name) (λ i e. reached_more old here i name (h here refl) e)

  pub walk_same : (names : List (List ℕ)) → walk new names (Ok 1) ≡ walk old names (Ok 1)
  walk_same names = walk_on names (Ok 1) (λ i e. ([], e))

  pub find_same : (o : Option (List (List ℕ))) → find_names new o ≡ find_names old o
  find_same None = refl
  find_same (Some names) = walk_same names
