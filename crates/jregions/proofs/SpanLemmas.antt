-- Spans and the units that they are made of.
use Rattle.std.proofs.Common.{◌≡◌, ℕ, zero, suc, ◌+◌, ◌≤◌, true, List, [], ◌∷◌, drop, get_or, length, reverse, arith, refl, sym, ap, ◌∙◌, subst, inl, inr}
use Rattle.std.proofs.Math.Seq.{drop-cons, drop-length}
use Rattle.std.proofs.lemmas.List.Elements.{Contains-append_cases, Contains-append_right, Contains-push_cases}
use Rattle.std.proofs.lemmas.Bool.{and_parts, false≢true, cond-true, cond-false, cases_Bool}
use Rattle.std.specs.Prelude.{Contains, None, Some, nat_lt, slice_get}
use Rattle.jnode.specs.declared.order.Endian.{Endian}
use Rattle.jnode.specs.declared.order.Endian.TheVariants.{Little, Big}
use Rattle.jregions.specs.Laws.{AreSpansFrom, IsInSpan}
use Rattle.jregions.specs.Spans.{foreign_ahead, goes_on, is_of_order, spans_from, unit_before}
use Rattle.jregions.specs.declared.span.Span.{Span}
use Rattle.jregions.specs.declared.unit.UnitKind.{UnitKind}
use Rattle.jregions.specs.declared.unit.UnitKind.TheVariants.{Nodes, Erased, Foreign}

-- spans that are apart from a unit on are so from one before it on
apart_from : (at later : ℕ) (ss : List Span) → at ≤ later → AreSpansFrom later ss → AreSpansFrom at ss
apart_from at later [] before apart = tt
apart_from at later (s ∷ ss) before apart = (omega (arith, before, apart.0), apart.1, apart.2)

before_apart : (gap : ℕ) (e : Endian) (at : ℕ) (ss : List Span) → AreSpansFrom (at + 1) ss → AreSpansFrom at (unit_before gap e at ss)
before_apart gap e at [] apart = (omega arith, omega arith, tt)
before_apart gap e at (s ∷ ss) apart = elim (cases_Bool (goes_on gap e s)) [
  | inl joins ↦ subst (AreSpansFrom at) (sym (cond-true (goes_on gap e s) (record { order = e; from = at; to = s.to } ∷ ss) (record { order = e; from = at; to = at + 1 } ∷ s ∷ ss) joins))
      (omega arith, omega (arith, apart.0, apart.1), apart.2)
  | inr stops ↦ subst (AreSpansFrom at) (sym (cond-false (goes_on gap e s) (record { order = e; from = at; to = s.to } ∷ ss) (record { order = e; from = at; to = at + 1 } ∷ s ∷ ss) stops))
      (omega arith, omega arith, apart)
]

pub spans_apart : (at : ℕ) (units : List UnitKind) → AreSpansFrom at (spans_from at units)
spans_apart at [] = tt
spans_apart at (Nodes e ∷ us) = before_apart (foreign_ahead us) e at (spans_from (at + 1) us) (spans_apart (at + 1) us)
spans_apart at (Erased ∷ us) = apart_from at (at + 1) (spans_from (at + 1) us) (omega arith) (spans_apart (at + 1) us)
spans_apart at (Foreign ∷ us) = apart_from at (at + 1) (spans_from (at + 1) us) (omega arith) (spans_apart (at + 1) us)

-- one unit more, from the last one down
pub record AreTaken (units : List UnitKind) (at gap : ℕ) (spans : List Span) : Type 0 where
  pub ahead : gap ≡ foreign_ahead (drop at units)
  pub made : reverse spans ≡ spans_from at (drop at units)

pub none_taken : (units : List UnitKind) (spans : List Span) → spans ≡ [] → AreTaken units (length units) 0 spans
none_taken units spans none =
    let behind : drop (length units) units ≡ [] = drop-length units in
    record {
      ahead = sym (ap foreign_ahead behind);
      made = ap reverse none ∙ sym (ap (spans_from (length units)) behind);
    }

pub unit_taken : (units : List UnitKind) (at next gap now : ℕ) (kind d : UnitKind) (old new : List Span) → at ≡ next + 1 → at ≤ length units
    → kind ≡ get_or units next d → AreTaken units at gap old
    → ((us : List UnitKind) → gap ≡ foreign_ahead us → reverse old ≡ spans_from (next + 1) us → reverse new ≡ spans_from next (kind ∷ us))
    → ((us : List UnitKind) → gap ≡ foreign_ahead us → now ≡ foreign_ahead (kind ∷ us)) → AreTaken units next now new
unit_taken units at next gap now kind d old new step within here taken puts counts =
    let one : suc next ≡ at = omega (arith, step) in
    let front : drop next units ≡ kind ∷ drop at units =
    drop-cons units next d (omega (arith, step, within)) ∙ ap (λ (k : UnitKind). k ∷ drop (suc next) units) (sym here)
    ∙ ap (λ (n : ℕ). kind ∷ drop n units) one in
    record {
      ahead = counts (drop at units) taken.ahead ∙ ap foreign_ahead (sym front);
      made = puts (drop at units) taken.ahead (taken.made ∙ ap (λ (n : ℕ). spans_from n (drop at units)) step) ∙ ap (spans_from next) (sym front);
    }

-- ---- each unit of nodes lies in a span

same_is : (e f : Endian) → is_of_order e f ≡ true → e ≡ f
same_is Little Little is = refl
same_is Big Big is = refl
same_is Little Big is = absurd (false≢true is)
same_is Big Little is = absurd (false≢true is)

first_is : (x : Span) (xs : List Span) → Contains (x ∷ xs) x
first_is x xs = (0, omega arith, refl)

behind_first : (y x : Span) (xs : List Span) → Contains xs x → Contains (y ∷ xs) x
behind_first y x xs is = Contains-append_right (y ∷ []) xs x is

alone_is : (y x : Span) → Contains (y ∷ []) x → y ≡ x
alone_is y x is = elim (Contains-push_cases [] y x is) [
  | inl none ↦ absurd (omega (arith, none.1))
  | inr same ↦ same
]

abbrev one_unit : Endian → ℕ → Span
one_unit e at = record { order = e; from = at; to = at + 1 }

abbrev longer : Endian → ℕ → Span → Span
longer e at s = record { order = e; from = at; to = s.to }

head_in : (gap : ℕ) (e : Endian) (at : ℕ) (ss : List Span) → AreSpansFrom (at + 1) ss → IsInSpan (unit_before gap e at ss) e at
head_in gap e at [] apart = record {
  span = one_unit e at;
  listed = first_is (one_unit e at) [];
  order = refl;
  from = omega arith;
  to = omega arith;
}
head_in gap e at (s ∷ ss) apart = elim (cases_Bool (goes_on gap e s)) [
  | inl joins ↦
      subst (λ (l : List Span). IsInSpan l e at) (sym (cond-true (goes_on gap e s) (longer e at s ∷ ss) (one_unit e at ∷ s ∷ ss) joins))
      (record {
        span = longer e at s;
        listed = first_is (longer e at s) ss;
        order = refl;
        from = omega arith;
        to = omega (arith, apart.0, apart.1);
      })
  | inr stops ↦
      subst (λ (l : List Span). IsInSpan l e at) (sym (cond-false (goes_on gap e s) (longer e at s ∷ ss) (one_unit e at ∷ s ∷ ss) stops))
      (record {
        span = one_unit e at;
        listed = first_is (one_unit e at) (s ∷ ss);
        order = refl;
        from = omega arith;
        to = omega arith;
      })
]

-- a unit that lies in the first of some spans lies in the longer one that the first becomes
joined_in : (gap : ℕ) (e : Endian) (at : ℕ) (s : Span) (ss : List Span) (f : Endian) (u : ℕ) → AreSpansFrom (at + 1) (s ∷ ss) → goes_on gap e s ≡ true
    → IsInSpan (s ∷ ss) f u → IsInSpan (longer e at s ∷ ss) f u
joined_in gap e at s ss f u apart joins inside = elim (Contains-append_cases (s ∷ []) ss inside.span inside.listed) [
  | inl first ↦
      let same : s ≡ inside.span = alone_is s inside.span first in
      let order : e ≡ s.order = same_is e s.order (and_parts (is_of_order e s.order) (nat_lt gap 16) joins).0 in
      record {
        span = longer e at s;
        listed = first_is (longer e at s) ss;
        order = order ∙ ap (λ (x : Span). x.order) same ∙ inside.order;
        from = omega (arith, apart.0, inside.from, ap (λ (x : Span). x.from) same);
        to = omega (arith, inside.to, ap (λ (x : Span). x.to) same);
      }
  | inr later ↦ record {
    span = inside.span;
    listed = behind_first (longer e at s) inside.span ss later;
    order = inside.order;
    from = inside.from;
    to = inside.to;
  }
]

keep_in : (gap : ℕ) (e : Endian) (at : ℕ) (ss : List Span) (f : Endian) (u : ℕ) → AreSpansFrom (at + 1) ss → IsInSpan ss f u → IsInSpan (unit_before gap e at ss) f u
keep_in gap e at [] f u apart inside = absurd (omega (arith, inside.listed.1))
keep_in gap e at (s ∷ ss) f u apart inside = elim (cases_Bool (goes_on gap e s)) [
  | inl joins ↦
      subst (λ (l : List Span). IsInSpan l f u) (sym (cond-true (goes_on gap e s) (longer e at s ∷ ss) (one_unit e at ∷ s ∷ ss) joins))
      (joined_in gap e at s ss f u apart joins inside)
  | inr stops ↦
      subst (λ (l : List Span). IsInSpan l f u) (sym (cond-false (goes_on gap e s) (longer e at s ∷ ss) (one_unit e at ∷ s ∷ ss) stops))
      (record {
        span = inside.span;
        listed = behind_first (one_unit e at) inside.span (s ∷ ss) inside.listed;
        order = inside.order;
        from = inside.from;
        to = inside.to;
      })
]

-- a unit counted from the next one on
counted_on : (ss : List Span) (e : Endian) (at i : ℕ) → IsInSpan ss e ((at + 1) + i) → IsInSpan ss e (at + suc i)
counted_on ss e at i inside = subst (IsInSpan ss e) (omega arith) inside

nodes_same : (e f : Endian) → Some (Nodes e) ≡ Some (Nodes f) → e ≡ f
nodes_same e f is = cc

pub nodes_in_spans : (at i : ℕ) (units : List UnitKind) (e : Endian) → slice_get units i ≡ Some (Nodes e) → IsInSpan (spans_from at units) e (at + i)
nodes_in_spans at i [] e is = let never : None ≡ Some (Nodes e) = is in absurd (cc)
nodes_in_spans at zero (Nodes f ∷ us) e is =
    subst (λ (o : Endian). IsInSpan (spans_from at (Nodes f ∷ us)) o (at + 0)) (nodes_same f e is)
    (subst (IsInSpan (spans_from at (Nodes f ∷ us)) f) (omega arith) (head_in (foreign_ahead us) f at (spans_from (at + 1) us) (spans_apart (at + 1) us)))
nodes_in_spans at zero (Erased ∷ us) e is = let never : Some Erased ≡ Some (Nodes e) = is in absurd (cc)
nodes_in_spans at zero (Foreign ∷ us) e is = let never : Some Foreign ≡ Some (Nodes e) = is in absurd (cc)
nodes_in_spans at (suc i) (Nodes f ∷ us) e is =
    keep_in (foreign_ahead us) f at (spans_from (at + 1) us) e (at + suc i) (spans_apart (at + 1) us)
    (counted_on (spans_from (at + 1) us) e at i (nodes_in_spans (at + 1) i us e is))
nodes_in_spans at (suc i) (Erased ∷ us) e is = counted_on (spans_from (at + 1) us) e at i (nodes_in_spans (at + 1) i us e is)
nodes_in_spans at (suc i) (Foreign ∷ us) e is = counted_on (spans_from (at + 1) us) e at i (nodes_in_spans (at + 1) i us e is)
