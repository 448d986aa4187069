-- What a walk does not remember to have met makes no difference in a tree that has its shape.
use Rattle.std.proofs.Common.{◌≡◌, ℕ, not, cond, Bool, true, false, List, [], ◌∷◌, refl, sym, ap, ◌∙◌, subst, Option, Some, None, inl, inr, ◌⊎◌, ⊎_elim}
use Rattle.std.specs.Prelude.{is_some}
use Rattle.std.specs.BTreeSet.{BTreeSet}
use Rattle.std.proofs.lemmas.Bool.{false≢true}
use Rattle.jmount.specs.Tree.{State}
use Rattle.jmount.proofs.ShapeLemmas.{IsShaped, shaped, walk_leads}
use Rattle.jreport.specs.Remembering.{Becomes, RemembersNone, met_if_noted, remembered, remembers}
use Rattle.jreport.specs.TreeText.{Item, Met, none_met, met_after, todo_after}
use Rattle.jreport.specs.Walking.{LeadsToItem, IsTextOf}
use Rattle.jreport.specs.declared.met.MetDirectories.{MetDirectories}
use Rattle.jreport.proofs.AheadLemmas.{names_ahead, same_ahead}
use Rattle.jreport.proofs.ListedOnceLemmas.{AreFresh, fresh_after}
use Rattle.jreport.proofs.PartLemmas.{same_lines}

-- ---- what is remembered

either : {A : Type 0} (b : Bool) (x : A) → cond b x x ≡ x
either true x = refl
either false x = refl

pub becomes_same : (old new : MetDirectories) → new ≡ old → Becomes old new (remembered old)
becomes_same old new same = (ap remembers same, ap remembered same ∙ sym (either (remembers old) (remembered old)))

pub stays_as : (old new : MetDirectories) → Becomes old new (remembered old) → remembered new ≡ remembered old
stays_as old new becomes = becomes.1 ∙ either (remembers old) (remembered old)

forgets : (met : MetDirectories) → remembers met ≡ false → remembered met ≡ none_met
forgets met = by met.noted
  where
    by : (o : Option (BTreeSet ℕ)) → is_some o ≡ false → met_if_noted o ≡ none_met
    by None is = refl
    by (Some set) is = absurd (false≢true (sym is))

-- ---- where nothing is remembered

-- the tree has its shape, and none of what is still to print comes twice
abbrev pub NeedsNone : State → MetDirectories → List Item → Type 0
NeedsNone s met todo = remembers met ≡ false → IsShaped s × AreFresh s none_met todo

pub needs_first : (s : State) (met : MetDirectories) (item : Item) → RemembersNone s met → LeadsToItem s item → NeedsNone s met (item ∷ [])
needs_first s met item none reached is =
    let led = walk_leads s item.0 1 item.1 reached in
    (shaped s (none.1.0 (ap not is)), ((λ d. ((led.0, led.2), λ k m below. false≢true m)), tt, tt))

-- what was met is not needed
fresh_of_all : (s : State) (met : Met) (todo : List Item) → AreFresh s met todo → AreFresh s none_met todo
fresh_of_all s met [] fresh = tt
fresh_of_all s met (item ∷ todo) fresh = ((λ d. ((fresh.0 d).0, λ k is below. false≢true is)), fresh.1, fresh_of_all s met todo fresh.2)

abbrev IsFreshAfter : State → Met → Item → List Item → Type 0
IsFreshAfter s met item todo = AreFresh s met (todo_after s met item todo) × AreFresh s (met_after s met item.1) (todo_after s met item todo)

fresh_both : (s : State) (item : Item) (todo : List Item) → IsShaped s → AreFresh s none_met (item ∷ todo) → IsFreshAfter s none_met item todo
fresh_both s item todo shape fresh =
    let after = fresh_after s none_met item todo shape fresh in
    (fresh_of_all s (met_after s none_met item.1) (todo_after s none_met item todo) after, after)

-- ---- after an item

-- either what was met is remembered, or it makes no difference
pub record MakesNone (s : State) (one other : Met) (todo : List Item) : Type 0 where
  pub shape : IsShaped s
  pub fresh : AreFresh s one todo
  pub too : AreFresh s other todo

pub after_item : (s : State) (old new : MetDirectories) (item : Item) (todo : List Item) → NeedsNone s old (item ∷ todo) → Becomes old new (met_after s (remembered old) item.1)
    → (remembered new ≡ met_after s (remembered old) item.1) ⊎ MakesNone s (remembered new) (met_after s (remembered old) item.1) (todo_after s (remembered old) item todo)
after_item s old new item todo needs becomes = by (remembers old) refl
  where
    is : (b : Bool) → remembers old ≡ b → remembered new ≡ cond b (met_after s (remembered old) item.1) (remembered old)
    is b e = becomes.1 ∙ ap (λ (x : Bool). cond x (met_after s (remembered old) item.1) (remembered old)) e

    by : (b : Bool) → remembers old ≡ b
        → (remembered new ≡ met_after s (remembered old) item.1) ⊎ MakesNone s (remembered new) (met_after s (remembered old) item.1) (todo_after s (remembered old) item todo)
    by true e = inl (is true e)
    by false e =
        let need = needs e in
        let both : IsFreshAfter s (remembered old) item todo =
        subst (λ (m : Met). IsFreshAfter s m item todo) (sym (forgets old e)) (fresh_both s item todo need.0 need.1) in
        inr (record {
          shape = need.0;
          fresh = subst (λ (m : Met). AreFresh s m (todo_after s (remembered old) item todo)) (sym (is false e)) both.0;
          too = both.1;
        })

pub after_text : (s : State) (old new : MetDirectories) (item : Item) (todo : List Item) (rest : List ℕ) → NeedsNone s old (item ∷ todo) → Becomes old new (met_after s (remembered old) item.1)
    → IsTextOf s (remembered new) (todo_after s (remembered old) item todo) rest → IsTextOf s (met_after s (remembered old) item.1) (todo_after s (remembered old) item todo) rest
after_text s old new item todo rest needs becomes text =
    ⊎_elim
    (λ (same : remembered new ≡ met_after s (remembered old) item.1). subst (λ (m : Met). IsTextOf s m (todo_after s (remembered old) item todo) rest) same text)
    (λ (none : MakesNone s (remembered new) (met_after s (remembered old) item.1) (todo_after s (remembered old) item todo)). (
      text.0,
      same_lines s (remembered new) (met_after s (remembered old) item.1) (todo_after s (remembered old) item todo) text.0 none.shape none.fresh none.too text.1,
      text.2,
    ))
    (after_item s old new item todo needs becomes)

pub after_ahead : (s : State) (old new : MetDirectories) (item : Item) (todo : List Item) → NeedsNone s old (item ∷ todo) → Becomes old new (met_after s (remembered old) item.1)
    → names_ahead s (remembered new) (todo_after s (remembered old) item todo) ≡ names_ahead s (met_after s (remembered old) item.1) (todo_after s (remembered old) item todo)
after_ahead s old new item todo needs becomes =
    ⊎_elim
    (λ (same : remembered new ≡ met_after s (remembered old) item.1). ap (λ (m : Met). names_ahead s m (todo_after s (remembered old) item todo)) same)
    (λ (none : MakesNone s (remembered new) (met_after s (remembered old) item.1) (todo_after s (remembered old) item todo)).
    same_ahead s (remembered new) (met_after s (remembered old) item.1) (todo_after s (remembered old) item todo) none.shape none.fresh none.too)
    (after_item s old new item todo needs becomes)

pub after_needs : (s : State) (old new : MetDirectories) (item : Item) (todo : List Item) → NeedsNone s old (item ∷ todo) → Becomes old new (met_after s (remembered old) item.1)
    → NeedsNone s new (todo_after s (remembered old) item todo)
after_needs s old new item todo needs becomes is =
    let e : remembers old ≡ false = sym becomes.0 ∙ is in
    let need = needs e in (
      need.0,
      subst (λ (m : Met). AreFresh s none_met (todo_after s m item todo)) (sym (forgets old e)) (fresh_both s item todo need.0 need.1).0,
    )
