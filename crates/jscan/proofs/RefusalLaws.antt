-- The refusal of an image is that of its first node that refuses.
use Rattle.std.proofs.Common.{◌≡◌, ℕ, List, [], ◌∷◌, ◌++◌, refl, sym, ap, ◌∙◌, Option, None, Some}
use Rattle.std.specs.Prelude.{Contains}
use Rattle.std.specs.List.{AllByRecursion}
use Rattle.jnode.specs.declared.order.Endian.{Endian}
use Rattle.jnode.specs.declared.node.Seen.{Seen}
use Rattle.jscan.specs.Image.{sightings}
use Rattle.jscan.specs.ImageLaws.{IsRefusedAt}
use Rattle.jscan.specs.Scans.{refusal_by, refusal_among, before_refusal, first_refused}
use Rattle.jscan.specs.declared.geometry.ScanFault.{ScanFault}
use Rattle.jscan.proofs.AddressLaws.{of_each}
use Rattle.jscan.proofs.PartialScanLemmas.{before_open, before_shut, before_none, refusal_open, refusal_shut}

record Found (ss : List (ℕ × Seen)) (why : ScanFault) : Type 0 where
  front : List (ℕ × Seen)
  back : List (ℕ × Seen)
  at : ℕ × Seen
  is : ss ≡ front ++ at ∷ back
  refuses : refusal_by at ≡ Some why
  none : AllByRecursion (λ t. refusal_by t ≡ None) front
  in_front : before_refusal ss ≡ front

found_in : (ss : List (ℕ × Seen)) (why : ScanFault) → refusal_among ss ≡ Some why → Found ss why
found_in [] why is = cc
found_in (s ∷ ss) why is = by_cases (found_in ss why) (refusal_by s) refl
  where
    by_cases : (refusal_among ss ≡ Some why → Found ss why) → (o : Option ScanFault) → refusal_by s ≡ o → Found (s ∷ ss) why
    by_cases next None clear =
        let it = next (sym (refusal_open s ss clear) ∙ is) in
        record {
          front = s ∷ it.front;
          back = it.back;
          at = it.at;
          is = ap (λ (l : List (ℕ × Seen)). s ∷ l) it.is;
          refuses = it.refuses;
          none = (clear, it.none);
          in_front = before_open s ss clear ∙ ap (λ (l : List (ℕ × Seen)). s ∷ l) it.in_front;
        }
    by_cases next (Some fault) shut =
        let same : Some fault ≡ Some why = sym (refusal_shut s ss fault shut) ∙ is in
        record { front = []; back = ss; at = s; is = refl; refuses = shut ∙ same; none = tt; in_front = before_shut s ss fault shut }

pub refusal_is_first : (e : Endian) (size : ℕ) (image : List ℕ) (why : ScanFault) → first_refused e size image ≡ Some why
    → (before after : List (ℕ × Seen)) × (s : ℕ × Seen) × IsRefusedAt (sightings e size image) before after s why
refusal_is_first e size image why is =
    let it = found_in (sightings e size image) why is in (
      it.front,
      it.back,
      it.at,
      record {
        is_at = it.is;
        refuses = it.refuses;
        none_before = λ t has. of_each (λ u. refusal_by u ≡ None) it.front t it.none has;
        in_front = it.in_front;
      },
    )

none_in : (ss : List (ℕ × Seen)) → refusal_among ss ≡ None → AllByRecursion (λ t. refusal_by t ≡ None) ss
none_in [] is = tt
none_in (s ∷ ss) is = by_cases (none_in ss) (refusal_by s) refl
  where
    by_cases : (refusal_among ss ≡ None → AllByRecursion (λ t. refusal_by t ≡ None) ss) → (o : Option ScanFault) → refusal_by s ≡ o
        → AllByRecursion (λ t. refusal_by t ≡ None) (s ∷ ss)
    by_cases next None clear = (clear, next (sym (refusal_open s ss clear) ∙ is))
    by_cases next (Some fault) shut = let bad : Some fault ≡ None = sym (refusal_shut s ss fault shut) ∙ is in cc

pub none_refuses : (e : Endian) (size : ℕ) (image : List ℕ) → first_refused e size image ≡ None
    → (before_refusal (sightings e size image) ≡ sightings e size image) × ((s : ℕ × Seen) → Contains (sightings e size image) s → refusal_by s ≡ None)
none_refuses e size image is = (
  before_none (sightings e size image) is,
  λ s has. of_each (λ u. refusal_by u ≡ None) (sightings e size image) s (none_in (sightings e size image) is) has,
)
