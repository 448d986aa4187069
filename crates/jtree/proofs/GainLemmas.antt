-- A new object and its name, and a further name of one that is there.
use Rattle.std.proofs.Common.{◌≡◌, ◌≢◌, ℕ, ◌+◌, ◌<◌, Bool, true, false, cond, List, [], ◌∷◌, ◌++◌, Option, Some, None, Ok, refl, ap, sym, ◌∙◌, subst, inl, inr, ◌⊎◌, ⊎_elim, arith}
use Rattle.std.specs.Prelude.{Contains, is_some}
use Rattle.std.specs.Ordering.{eq_by_cmp}
use Rattle.std.specs.Cmp.{eq_by_cmp_equiv}
use Rattle.std.specs.FinMap.{FinMap, get, insert, get-insert}
use Rattle.std.proofs.lemmas.Bool.{cases_eq, cond-true, true≢false}
use Rattle.std.proofs.lemmas.Map.Views.{tells_apart}
use Rattle.jname.specs.Live.{Key, key_cmp}
use Rattle.jname.proofs.NamingLemmas.{key_cmp_total, key_cmp-IsAntisymmetric}
use Rattle.jmount.specs.Tree.{ObjectOf, State, named, object, is_directory, is_there, has_bits, directory_bits}
use Rattle.jmount.specs.Find.{walk}
use Rattle.jmount.proofs.ShapeLemmas.{there_of_directory}
use Rattle.jsteps.proofs.ConsistentLemmas.{cond_some_cases}
use Rattle.jtree.proofs.WayLemmas.{has_long, walk_extends, walk_push}
use Rattle.jtree.proofs.StandLemmas.{Made, Stands, Gains, one_number, gains_stands}

same_key : (k l : Key) → eq_by_cmp key_cmp k l ≡ true → k ≡ l
same_key k l h = tells_apart {R = key_cmp} key_cmp-IsAntisymmetric k l h

-- names of which one is new
record OneMore (before after : FinMap key_cmp ℕ) (dir : ℕ) (name : List ℕ) (i : ℕ) : Type 0 where
  entry : get after (dir, name) ≡ Some i
  kept : (d : ℕ) (n : List ℕ) (k : ℕ) → get before (d, n) ≡ Some k → get after (d, n) ≡ Some k
  entries : (d : ℕ) (n : List ℕ) (k : ℕ) → get after (d, n) ≡ Some k → (get before (d, n) ≡ Some k) ⊎ ((d ≡ dir) × (n ≡ name) × (k ≡ i))

kept_under : (b : Bool) (i k : ℕ) (o : Option ℕ) → (b ≡ true → o ≡ None) → o ≡ Some k → cond b (Some i) o ≡ Some k
kept_under true i k o h e = absurd (true≢false (ap is_some (sym e ∙ h refl)))
kept_under false i k o h e = e

one_more : (names : FinMap key_cmp ℕ) (dir : ℕ) (name : List ℕ) (i : ℕ) → get names (dir, name) ≡ None → OneMore names (insert names (dir, name) i) dir name i
one_more names dir name i none = record {
  entry = get-insert key_cmp_total names (dir, name) i (dir, name)
      ∙ cond-true (eq_by_cmp key_cmp (dir, name) (dir, name)) (Some i) (get names (dir, name)) ((eq_by_cmp_equiv key_cmp_total).refl (dir, name));
  kept = λ d n k e.
      get-insert key_cmp_total names (dir, name) i (d, n)
      ∙ kept_under (eq_by_cmp key_cmp (d, n) (dir, name)) i k (get names (d, n)) (λ yes. ap (get names) (same_key (d, n) (dir, name) yes) ∙ none) e;
  entries = λ d n k e.
      ⊎_elim
      (λ (here : (eq_by_cmp key_cmp (d, n) (dir, name) ≡ true) × (i ≡ k)).
      let key = same_key (d, n) (dir, name) here.0 in
      inr (ap (λ (k : Key). k.0) key, ap (λ (k : Key). k.1) key, sym here.1))
      (λ old. inl old)
      (cond_some_cases (eq_by_cmp key_cmp (d, n) (dir, name)) i (get names (d, n)) k (sym (get-insert key_cmp_total names (dir, name) i (d, n)) ∙ e));
}

-- ---- a new object

-- one object was made, under the next number, and a name of it, and nothing else was changed
pub record Makes (s t : State) (dir : ℕ) (name : List ℕ) (o : ObjectOf (List ℕ)) : Type 0 where
  pub names : t.names ≡ insert s.names (dir, name) s.next
  pub next : t.next ≡ s.next + 1
  pub now : object t s.next ≡ Some o
  pub others : (k : ℕ) → k ≢ s.next → object t k ≡ object s k

pub new_gains : (s t : State) (dir : ℕ) (name : List ℕ) (o : ObjectOf (List ℕ)) → Makes s t dir name o → ((k : ℕ) → is_there s k ≡ true → k < s.next)
    → named s dir name ≡ None → Gains s t dir name s.next
new_gains s t dir name o makes numbered none =
    let names = subst (λ all. OneMore s.names all dir name s.next) (sym makes.names) (one_more s.names dir name s.next none) in
    let after : t.next ≡ s.next + 1 = makes.next in
    let objects : (k : ℕ) → k < s.next → object t k ≡ object s k = λ k less. makes.others k (λ e. omega arith) in
    record {
      extends = record {
        directories = λ k e. ap (has_bits directory_bits) (objects k (numbered k (there_of_directory s k e))) ∙ e;
        there = λ k e. ap is_some (objects k (numbered k e)) ∙ e;
        names = names.kept;
      };
      objects = objects;
      entry = names.entry;
      there = ap is_some makes.now;
      entries = names.entries;
      next = omega arith;
      below = omega arith;
      no_more = λ k e.
          ⊎_elim
          (λ (is : k ≡ s.next). inr is)
          (λ (other : k ≢ s.next). inl (sym (ap is_some (makes.others k other)) ∙ e))
          (cases_eq k s.next);
    }

pub gained_leads : (s t : State) (way : List (List ℕ)) (name : List ℕ) (dir i : ℕ) → Gains s t dir name i → walk s way (Ok 1) ≡ Ok dir
    → is_directory s dir ≡ true
    → walk t (way ++ name ∷ []) (Ok 1) ≡ Ok i
gained_leads s t way name dir i gains leads there =
    walk_push t way name 1 dir i (walk_extends s t way 1 dir gains.extends leads)
    (record { directory = gains.extends.directories dir there; entry = gains.entry; there = gains.there })

abbrev pub own : List (List ℕ) → ObjectOf (List ℕ) → Made
own names o = record { names = names; origin = names; object_is = o }

pub new_stands : (root : ObjectOf (List ℕ)) (made : List Made) (s t : State) (way : List (List ℕ)) (name : List ℕ) (dir : ℕ) (o : ObjectOf (List ℕ))
    → Stands root made s → 1 < s.next → Makes s t dir name o
    → ((k : ℕ) → is_there s k ≡ true → k < s.next) → walk s way (Ok 1) ≡ Ok dir → is_directory s dir ≡ true → named s dir name ≡ None
    → has_long (way ++ name ∷ []) ≡ false
    → Stands root (made ++ own (way ++ name ∷ []) o ∷ []) t
new_stands root made s t way name dir o stands some makes numbered leads there none short =
    let gains = new_gains s t dir name o makes numbered none in
    gains_stands root made s t way name dir s.next (own (way ++ name ∷ []) o) stands some gains
    (record {
      leads = leads;
      directory = there;
      names = refl;
      below_root = some;
      short = short;
      first = gained_leads s t way name dir s.next gains leads there;
      object_there = λ e. makes.now;
      alone = λ m among e.
          let h = stands.held m among in
          let used : h.number < s.next = h.used in
          let same : h.number ≡ s.next = one_number (walk t m.names (Ok 1)) (walk_extends s t m.names 1 h.number gains.extends h.leads) e in
          absurd (omega arith);
    })

-- ---- a further name

abbrev pub with_name : State → ℕ → List ℕ → ℕ → State
with_name s dir name i = record { objects = s.objects; names = insert s.names (dir, name) i; next = s.next }

pub name_gains : (s : State) (dir : ℕ) (name : List ℕ) (i : ℕ) → is_there s i ≡ true → i < s.next → named s dir name ≡ None
    → Gains s (with_name s dir name i) dir name i
name_gains s dir name i there below none =
    let names = one_more s.names dir name i none in
    record {
      extends = record { directories = λ k e. e; there = λ k e. e; names = names.kept };
      objects = λ k less. refl;
      entry = names.entry;
      there = there;
      entries = names.entries;
      next = omega arith;
      below = below;
      no_more = λ k e. inl e;
    }

pub name_stands : (root : ObjectOf (List ℕ)) (made : List Made) (s : State) (way : List (List ℕ)) (name : List ℕ) (dir : ℕ) (f m : Made)
    → (stands : Stands root made s) → 1 < s.next
    → (has : Contains made f) → f.names ≡ f.origin → m.origin ≡ f.names → m.names ≡ way ++ name ∷ [] → m.names ≢ m.origin
    → walk s way (Ok 1) ≡ Ok dir → is_directory s dir ≡ true → named s dir name ≡ None → has_long m.names ≡ false
    → is_there s (stands.held f has).number ≡ true
    → Stands root (made ++ m ∷ []) (with_name s dir name (stands.held f has).number)
name_stands root made s way name dir f m stands some has first origin names other leads directory none short there =
    let h = stands.held f has in
    let i = h.number in
    let t = with_name s dir name i in
    let gains = name_gains s dir name i there h.used none in
    gains_stands root made s t way name dir i m stands some gains
    (record {
      leads = leads;
      directory = directory;
      names = names;
      below_root = h.below_root;
      short = short;
      first = ap (λ ns. walk t ns (Ok 1)) origin ∙ walk_extends s t f.names 1 i gains.extends h.leads;
      object_there = λ e. absurd (other e);
      alone = λ o among e.
          let k = stands.held o among in
          let same : k.number ≡ i = one_number (walk t o.names (Ok 1)) (walk_extends s t o.names 1 k.number gains.extends k.leads) e in
          origin ∙ first ∙ stands.apart f o has among i h.leads (k.leads ∙ ap Ok same);
    })
