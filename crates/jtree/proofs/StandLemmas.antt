-- What stands after some items, and after one name more.
use Rattle.std.proofs.Common.{◌≡◌, ℕ, ◌<◌, ◌≤◌, true, false, List, [], ◌∷◌, ◌++◌, Some, Result, Ok, inl, inr, ap, sym, ◌∙◌, subst, ◌⊎◌, ⊎_elim, arith}
use Rattle.std.specs.Prelude.{Contains}
use Rattle.std.proofs.lemmas.List.Elements.{Contains-append_left, Contains-push, Contains-push_cases}
use Rattle.jmount.specs.Tree.{ObjectOf, State, named, object, is_directory, is_there}
use Rattle.jmount.specs.Find.{walk}
use Rattle.jmount.specs.declared.fault.FindFault.{FindFault}
use Rattle.jmount.proofs.ShapeLemmas.{same_ok}
use Rattle.jtree.proofs.WayLemmas.{Extends, has_long, walk_extends, walk_push}

-- an item as the state has it: its names, those of its object's first path, and the object
pub record Made : Type 0 where
  pub names : List (List ℕ)
  pub origin : List (List ℕ)
  pub object_is : ObjectOf (List ℕ)

pub record IsHeld (s : State) (m : Made) : Type 0 where
  pub number : ℕ
  pub leads : walk s m.names (Ok 1) ≡ Ok number
  pub first : walk s m.origin (Ok 1) ≡ Ok number
  pub below_root : 1 < number
  pub used : number < s.next
  pub there : m.names ≡ m.origin → object s number ≡ Some m.object_is
  pub short : has_long m.names ≡ false

pub record IsNamed (made : List Made) (s : State) (dir : ℕ) (name : List ℕ) : Type 0 where
  pub m : Made
  pub among : Contains made m
  pub way : List (List ℕ)
  pub names : m.names ≡ way ++ name ∷ []
  pub leads : walk s way (Ok 1) ≡ Ok dir

pub record Stands (root : ObjectOf (List ℕ)) (made : List Made) (s : State) : Type 0 where
  pub root_is : object s 1 ≡ Some root
  pub held : (m : Made) → Contains made m → IsHeld s m
  pub names_are : (dir : ℕ) (name : List ℕ) (i : ℕ) → named s dir name ≡ Some i → IsNamed made s dir name
  pub apart : (m o : Made) → Contains made m → Contains made o → (i : ℕ) → walk s m.names (Ok 1) ≡ Ok i → walk s o.names (Ok 1) ≡ Ok i → m.origin ≡ o.origin
  pub objects_are : (i : ℕ) → is_there s i ≡ true → (i ≡ 1) ⊎ ((m : Made) × Contains made m × (walk s m.names (Ok 1) ≡ Ok i))

-- one name more, of an object that was there or is new
pub record Gains (s t : State) (dir : ℕ) (name : List ℕ) (i : ℕ) : Type 0 where
  pub extends : Extends s t
  pub objects : (k : ℕ) → k < s.next → object t k ≡ object s k
  pub entry : named t dir name ≡ Some i
  pub there : is_there t i ≡ true
  pub entries : (d : ℕ) (n : List ℕ) (k : ℕ) → named t d n ≡ Some k → (named s d n ≡ Some k) ⊎ ((d ≡ dir) × (n ≡ name) × (k ≡ i))
  pub next : s.next ≤ t.next
  pub below : i < t.next
  pub no_more : (k : ℕ) → is_there t k ≡ true → (is_there s k ≡ true) ⊎ (k ≡ i)

-- what is known of the item of that name
pub record IsNew (made : List Made) (s t : State) (way : List (List ℕ)) (name : List ℕ) (dir i : ℕ) (m : Made) : Type 0 where
  pub leads : walk s way (Ok 1) ≡ Ok dir
  pub directory : is_directory s dir ≡ true
  pub names : m.names ≡ way ++ name ∷ []
  pub below_root : 1 < i
  pub short : has_long m.names ≡ false
  pub first : walk t m.origin (Ok 1) ≡ Ok i
  pub object_there : m.names ≡ m.origin → object t i ≡ Some m.object_is
  pub alone : (o : Made) → Contains made o → walk t o.names (Ok 1) ≡ Ok i → m.origin ≡ o.origin

pub one_number : {a b : ℕ} (r : Result ℕ FindFault) → r ≡ Ok a → r ≡ Ok b → a ≡ b
one_number {a} {b} r e f = same_ok a b (sym e ∙ f)

new_leads : (made : List Made) (s t : State) (way : List (List ℕ)) (name : List ℕ) (dir i : ℕ) (m : Made) → Gains s t dir name i
    → IsNew made s t way name dir i m
    → walk t m.names (Ok 1) ≡ Ok i
new_leads made s t way name dir i m gains new =
    ap (λ ns. walk t ns (Ok 1)) new.names
    ∙ walk_push t way name 1 dir i (walk_extends s t way 1 dir gains.extends new.leads)
    (record { directory = gains.extends.directories dir new.directory; entry = gains.entry; there = gains.there })

old_held : (s t : State) (dir : ℕ) (name : List ℕ) (i : ℕ) (o : Made) → Gains s t dir name i → IsHeld s o → IsHeld t o
old_held s t dir name i o gains h =
    let used : h.number < s.next = h.used in
    let next : s.next ≤ t.next = gains.next in
    record {
      number = h.number;
      leads = walk_extends s t o.names 1 h.number gains.extends h.leads;
      first = walk_extends s t o.origin 1 h.number gains.extends h.first;
      below_root = h.below_root;
      used = omega arith;
      there = λ e. gains.objects h.number h.used ∙ h.there e;
      short = h.short;
    }

-- an item that stood before leads to the same number after
back : (s t : State) (dir : ℕ) (name : List ℕ) (i : ℕ) (o : Made) → Gains s t dir name i → IsHeld s o → (k : ℕ) → walk t o.names (Ok 1) ≡ Ok k
    → walk s o.names (Ok 1) ≡ Ok k
back s t dir name i o gains h k e =
    h.leads ∙ ap Ok (one_number (walk t o.names (Ok 1)) (walk_extends s t o.names 1 h.number gains.extends h.leads) e)

pub gains_stands : (root : ObjectOf (List ℕ)) (made : List Made) (s t : State) (way : List (List ℕ)) (name : List ℕ) (dir i : ℕ) (m : Made)
    → Stands root made s → 1 < s.next
    → Gains s t dir name i → IsNew made s t way name dir i m → Stands root (made ++ m ∷ []) t
gains_stands root made s t way name dir i m stands some gains new =
    let here : walk t m.names (Ok 1) ≡ Ok i = new_leads made s t way name dir i m gains new in
    record {
      root_is = gains.objects 1 some ∙ stands.root_is;
      held = λ o among.
          ⊎_elim
          (λ old. old_held s t dir name i o gains (stands.held o old))
          (λ (is : m ≡ o). subst (IsHeld t) is (record {
            number = i;
            leads = here;
            first = new.first;
            below_root = new.below_root;
            used = gains.below;
            there = new.object_there;
            short = new.short;
          }))
          (Contains-push_cases made m o among);
      names_are = λ d n k e.
          ⊎_elim
          (λ (old : named s d n ≡ Some k).
          let is = stands.names_are d n k old in
          record {
            m = is.m;
            among = Contains-append_left made (m ∷ []) is.m is.among;
            way = is.way;
            names = is.names;
            leads = walk_extends s t is.way 1 d
                gains.extends is.leads;
          })
          (λ (it : (d ≡ dir) × (n ≡ name) × (k ≡ i)). record {
            m = m;
            among = Contains-push made m;
            way = way;
            names = new.names ∙ ap (λ n. way ++ n ∷ []) (sym it.1);
            leads = walk_extends s t way 1 dir gains.extends new.leads ∙ ap Ok (sym it.0);
          })
          (gains.entries d n k e);
      apart = λ a b in_a in_b k lead_a lead_b.
          ⊎_elim
          (λ old_a. ⊎_elim
          (λ old_b. stands.apart a b old_a old_b k (back s t dir name i a gains (stands.held a old_a) k lead_a)
          (back s t dir name i b gains (stands.held b old_b) k lead_b))
          (λ (is_b : m ≡ b).
          let same : i ≡ k = one_number (walk t m.names (Ok 1)) here (subst (λ o. walk t o.names (Ok 1) ≡ Ok k) (sym is_b) lead_b) in
          sym (new.alone a old_a (lead_a ∙ ap Ok (sym same))) ∙ ap (λ (o : Made). o.origin) is_b)
          (Contains-push_cases made m b in_b))
          (λ (is_a : m ≡ a). ⊎_elim
          (λ old_b.
          let same : i ≡ k = one_number (walk t m.names (Ok 1)) here (subst (λ o. walk t o.names (Ok 1) ≡ Ok k) (sym is_a) lead_a) in
          ap (λ (o : Made). o.origin) (sym is_a) ∙ new.alone b old_b (lead_b ∙ ap Ok (sym same)))
          (λ (is_b : m ≡ b). ap (λ (o : Made). o.origin) (sym is_a) ∙ ap (λ (o : Made). o.origin) is_b)
          (Contains-push_cases made m b in_b))
          (Contains-push_cases made m a in_a);
      objects_are = λ k e.
          ⊎_elim
          (λ (old : is_there s k ≡ true). ⊎_elim
          (λ (is : k ≡ 1). inl is)
          (λ (o : (m : Made) × Contains made m × (walk s m.names (Ok 1) ≡ Ok k)). inr
          (o.0, Contains-append_left made (m ∷ []) o.0 o.1, walk_extends s t o.0.names 1 k gains.extends o.2))
          (stands.objects_are k old))
          (λ (is : k ≡ i). inr (m, Contains-push made m, here ∙ ap Ok (sym is)))
          (gains.no_more k e);
    }
