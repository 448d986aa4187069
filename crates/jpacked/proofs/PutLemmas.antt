-- Forms that are put one after another, or the beginning of them.
use Rattle.std.proofs.Common.{◌≡◌, ℕ, zero, suc, ◌+◌, ◌-◌, ◌*◌, ◌%◌, ◌<◌, ◌≤◌, leb, List, [], ◌∷◌, ◌++◌, length, map, take, drop, get_or, refl, sym, ap, ◌∙◌, subst, arith, length-append, take_all, append_assoc, take-append-drop, Option, Result, Ok, Err}
use Rattle.std.specs.Prelude.{filter, nat_le, IsTrue}
use Rattle.std.specs.List.{AllByRecursion}
use Rattle.std.specs.Io.KnownBytes.{Appends}
use Rattle.std.proofs.KnownBytes.{Appends-nil, Appends-trans}
use Rattle.std.proofs.Math.Seq.{take-append-add, take-suc}
use Rattle.std.proofs.lemmas.Bool.{cond-true, cond-false, le-leb, lt-leb, and_parts}
use Rattle.std.proofs.lemmas.List.{append-nil, map-append, take-append-le}
use Rattle.std.proofs.lemmas.List.Elements.{filter-append}
use Rattle.flashbase.specs.Bytes.{pad4_of, erased}
use Rattle.flashbase.specs.Device.{PutsPart, next_count}
use Rattle.flashbase.proofs.BytesLemmas.{le_pad4}
use Rattle.jnode.specs.Writing.{filled}
use Rattle.jnode.specs.declared.order.Endian.{Endian}
use Rattle.jsteps.specs.Nodes.{Indexed, advanced, advanced_all}
use Rattle.jsteps.specs.declared.step.Step.{Step}
use Rattle.jsteps.proofs.TakenLemmas.{advanced_all-append}
use Rattle.jlog.specs.Places.{place_after, end_after, places, end_of_all, fit}
use Rattle.jlog.specs.Output.{gap, output}
use Rattle.jlog.specs.Laws.{FitsBlock, OutputIsJoined}
use Rattle.jlog.specs.Running.{shown_place}
use Rattle.jlog.specs.declared.report.Place.{Place}
use Rattle.jlog.specs.declared.writing.Stop.{Stop}
use Rattle.jlog.specs.declared.writing.Stop.TheVariants as stop
use Rattle.jlog.proofs.DoneLemmas.{all_first}
use Rattle.jlog.proofs.IntactLemmas.{first_gap, output_is_long}
use Rattle.jlog.proofs.OutputLemmas.{output_goes_on}
use Rattle.jlog.proofs.PlaceLemmas.{place_is_least}
use Rattle.jlog.proofs.RoomLemmas.{end_is_within, room_goes_on}
use Rattle.jlog.proofs.StepLemmas.{clamped}
use Rattle.jpacked.proofs.Parts.{PutBy, PartBy, PutsBy}

-- ---- where a form goes, and what goes out for it

pub record Spot (e : Endian) (size c : ℕ) (form node : List ℕ) (at pad : ℕ) : Type 0 where
  pub out : output e size c (form ∷ []) ≡ gap e size c at ++ (node ++ erased pad)
  pub place : places size c (form ∷ []) ≡ (at, length node) ∷ []
  pub end : end_of_all size c (form ∷ []) ≡ at + (length node + pad)
  pub reach : c + length (gap e size c at) ≡ at
  pub some : 0 < length node

spot_by : (e : Endian) (size c : ℕ) (form : List ℕ) → size % 4 ≡ 0 → FitsBlock size form → Spot e size c form form (place_after size c (length form)) (pad4_of (length form) - length form)
spot_by e size c form words room = record {
  out = append-nil (gap e size c (place_after size c (length form)) ++ filled form);
  place = refl;
  end = omega (arith, le_pad4 (length form));
  reach = first_gap e size c form words room;
  some = room.some;
}

pub spot_of : (e : Endian) (size c : ℕ) (form node : List ℕ) (len at end : ℕ) → size % 4 ≡ 0 → FitsBlock size form → node ≡ form → len ≡ length node → at ≡ place_after size c len → end ≡ pad4_of len
    → Spot e size c form node at (end - len)
spot_of e size c form node len at end words room is long placed padded =
    let first : Spot e size c form node (place_after size c (length node)) (pad4_of (length node) - length node) =
    subst (λ (n : List ℕ). Spot e size c form n (place_after size c (length n)) (pad4_of (length n) - length n)) (sym is) (spot_by e size c form words room) in
    let second : Spot e size c form node (place_after size c len) (pad4_of len - len) =
    subst (λ (n : ℕ). Spot e size c form node (place_after size c n) (pad4_of n - n)) (sym long) first in
    let third : Spot e size c form node at (pad4_of len - len) = subst (λ (a : ℕ). Spot e size c form node a (pad4_of len - len)) (sym placed) second in
    subst (λ (n : ℕ). Spot e size c form node at (n - len)) (sym padded) third

-- ---- how far it went

abbrev told_within : ℕ → ℕ → List (List ℕ) → ℕ → List Place
told_within size c forms t = map shown_place (filter (λ place. nat_le (place.0 + place.1) (c + t)) (places size c forms))

-- the form is not whole
not_whole : (e : Endian) (size c : ℕ) (form node : List ℕ) (at pad t : ℕ) (p : List Place) → Spot e size c form node at pad → c + t < at + length node → p ≡ p ++ told_within size c (form ∷ []) t
not_whole e size c form node at pad t p spot short =
    sym (append-nil p)
    ∙ ap (λ (l : List (ℕ × ℕ)). p ++ map shown_place l)
    (sym (cond-false (leb (at + length node) (c + t)) ((at, length node) ∷ []) [] (lt-leb (at + length node) (c + t) short))
    ∙ ap (filter (λ place. nat_le (place.0 + place.1) (c + t))) (sym spot.place))

-- the form is whole
whole : (e : Endian) (size c : ℕ) (form node : List ℕ) (at pad t : ℕ) (p : List Place) → Spot e size c form node at pad → at + length node ≤ c + t
    → p ++ shown_place (at, length node) ∷ [] ≡ p ++ told_within size c (form ∷ []) t
whole e size c form node at pad t p spot long =
    ap (λ (l : List (ℕ × ℕ)). p ++ map shown_place l)
    (sym (cond-true (leb (at + length node) (c + t)) ((at, length node) ∷ []) [] (le-leb (at + length node) (c + t) long))
    ∙ ap (filter (λ place. nat_le (place.0 + place.1) (c + t))) (sym spot.place))

part_by : (e : Endian) (size c : ℕ) (x : Indexed) (form : List ℕ) (t : ℕ) (o : List ℕ) (a b : Option (List ℕ)) (p q : List Place) → output e size c (form ∷ []) ≡ o
    → t ≤ length o → Appends a b (take t o) → q ≡ p ++ told_within size c (form ∷ []) t → PartBy e size c x (form ∷ []) t a b p q
part_by e size c x form t o a b p q is within bytes shown =
    record {
      within = subst (λ (l : List ℕ). t ≤ length l) (sym is) within;
      bytes = subst (λ (l : List ℕ). Appends a b (take t l)) (sym is) bytes;
      places = shown;
    }

-- the sink failed in the gap
pub gap_failed : (e : Endian) (size c : ℕ) (x : Indexed) (form node : List ℕ) (at pad : ℕ) (a b : Option (List ℕ)) (p : List Place) → Spot e size c form node at pad
    → PutsPart a b (gap e size c at) → (t : ℕ) × PartBy e size c x (form ∷ []) t a b p p
gap_failed e size c x form node at pad a b p spot part =
    let front : List ℕ = gap e size c at in
    let rest : List ℕ = node ++ erased pad in
    let n = clamped a b front part in
    let t : ℕ = n.0 in
    let within : t ≤ length front = n.1 in (
      t,
      part_by e size c x form t (front ++ rest) a b p p spot.out (omega (arith, length-append front rest))
          (subst (Appends a b) (sym (take-append-le t front rest within)) n.2)
          (not_whole e size c form node at pad t p spot (omega (arith, spot.reach, spot.some))),
    )

-- in the form
pub node_failed : (e : Endian) (size c : ℕ) (x : Indexed) (form node : List ℕ) (at pad k : ℕ) (a b d : Option (List ℕ)) (p : List Place) → Spot e size c form node at pad
    → Appends a b (gap e size c at) → k < length node → Appends b d (take k node) → (t : ℕ) × PartBy e size c x (form ∷ []) t a d p p
node_failed e size c x form node at pad k a b d p spot first short part =
    let front : List ℕ = gap e size c at in
    let rest : List ℕ = node ++ erased pad in
    let t : ℕ = length front + k in
    let same : take t (front ++ rest) ≡ front ++ take k node = take-append-add front rest k ∙ ap (λ (l : List ℕ). front ++ l) (take-append-le k node (erased pad) (omega arith)) in (
      t,
      part_by e size c x form t (front ++ rest) a d p p spot.out (omega (arith, length-append front rest, length-append node (erased pad)))
          (subst (Appends a d) (sym same) (Appends-trans a b d _ _ first part))
          (not_whole e size c form node at pad t p spot (omega (arith, spot.reach))),
    )

-- after it
pub pad_failed : (e : Endian) (size c : ℕ) (x : Indexed) (form node : List ℕ) (at pad : ℕ) (a b d f : Option (List ℕ)) (p : List Place) → Spot e size c form node at pad
    → Appends a b (gap e size c at) → Appends b d node → PutsPart d f (erased pad)
    → (t : ℕ) × PartBy e size c x (form ∷ []) t a f p (p ++ shown_place (at, length node) ∷ [])
pad_failed e size c x form node at pad a b d f p spot first second part =
    let front : List ℕ = gap e size c at in
    let rest : List ℕ = node ++ erased pad in
    let n = clamped d f (erased pad) part in
    let k : ℕ = n.0 in
    let within : k ≤ length (erased pad) = n.1 in
    let t : ℕ = length front + (length node + k) in
    let same : take t (front ++ rest) ≡ front ++ (node ++ take k (erased pad)) =
    take-append-add front rest (length node + k) ∙ ap (λ (l : List ℕ). front ++ l) (take-append-add node (erased pad) k) in (
      t,
      part_by e size c x form t (front ++ rest) a f p (p ++ shown_place (at, length node) ∷ []) spot.out (omega (arith, length-append front rest, length-append node (erased pad)))
          (subst (Appends a f) (sym same) (Appends-trans a b f _ _ first (Appends-trans b d f _ _ second n.2)))
          (whole e size c form node at pad t p spot (omega (arith, spot.reach))),
    )

-- all went out
pub form_put : (e : Endian) (size c : ℕ) (x y : Indexed) (s : Step) (form node : List ℕ) (at pad end : ℕ) (a b d f : Option (List ℕ)) (p : List Place) → Spot e size c form node at pad
    → y ≡ advanced x s → end ≡ at + (length node + pad) → Appends a b (gap e size c at) → Appends b d node → Appends d f (erased pad)
    → PutBy e size c x (s ∷ []) (form ∷ []) end y a f p (p ++ shown_place (at, length node) ∷ [])
form_put e size c x y s form node at pad end a b d f p spot on ends first second third =
    record {
      cursor = ends ∙ sym spot.end;
      index = on;
      bytes = subst (Appends a f) (sym spot.out) (Appends-trans a b f _ _ first (Appends-trans b d f _ _ second third));
      places = ap (λ (l : List (ℕ × ℕ)). p ++ map shown_place l) (sym spot.place);
    }

-- ---- one after another

then_from : (e : Endian) (size from : ℕ) (x : Indexed) (xs ys : List Step) (fs gs : List (List ℕ)) (end : ℕ) (y : Indexed) (a b c : Option (List ℕ)) (p q r : List Place)
    → Appends a b (output e size from fs) → q ≡ p ++ map shown_place (places size from fs)
    → PutBy e size (end_of_all size from fs) (advanced_all x xs) ys gs end y b c q r → PutBy e size from x (xs ++ ys) (fs ++ gs) end y a c p r
then_from e size from x xs ys fs gs end y a b c p q r bytes shown then =
    let on : OutputIsJoined e size from fs gs = output_goes_on e size from fs gs in
    let mid : ℕ = end_of_all size from fs in
    record {
      cursor = then.cursor ∙ sym on.end;
      index = then.index ∙ sym (advanced_all-append x xs ys);
      bytes = subst (Appends a c) (sym on.output) (Appends-trans a b c _ _ bytes then.bytes);
      places = then.places
          ∙ (ap (λ (l : List Place). l ++ map shown_place (places size mid gs)) shown
          ∙ (append_assoc p (map shown_place (places size from fs)) (map shown_place (places size mid gs))
          ∙ ap (λ (l : List Place). p ++ l) (sym (map-append shown_place (places size from fs) (places size mid gs)) ∙ sym (ap (map shown_place) on.places))));
    }

pub put_then : (e : Endian) (size from : ℕ) (x : Indexed) (xs ys : List Step) (fs gs : List (List ℕ)) (mid end : ℕ) (z y : Indexed) (a b c : Option (List ℕ)) (p q r : List Place)
    → PutBy e size from x xs fs mid z a b p q → PutBy e size mid z ys gs end y b c q r → PutBy e size from x (xs ++ ys) (fs ++ gs) end y a c p r
put_then e size from x xs ys fs gs mid end z y a b c p q r first then =
    then_from e size from x xs ys fs gs end y a b c p q r first.bytes first.places
    (subst (λ (w : Indexed). PutBy e size (end_of_all size from fs) w ys gs end y b c q r) first.index
    (subst (λ (m : ℕ). PutBy e size m z ys gs end y b c q r) first.cursor then))

pub put_none : (e : Endian) (size from : ℕ) (x : Indexed) (a : Option (List ℕ)) (p : List Place) → PutBy e size from x [] [] from x a a p p
put_none e size from x a p = record { cursor = refl; index = refl; bytes = Appends-nil a; places = sym (append-nil p) }

-- ---- places that are within, and that are not

none_within : (size from limit : ℕ) (nodes : List (List ℕ)) → size % 4 ≡ 0 → AllByRecursion (FitsBlock size) nodes → limit ≤ from
    → filter (λ place. nat_le (place.0 + place.1) limit) (places size from nodes) ≡ []
none_within size from limit [] words ok up = refl
none_within size from limit (node ∷ nodes) words ok up =
    let len : ℕ = length node in
    let at : ℕ = place_after size from len in
    let some : 0 < len = ok.0.some in
    let high : from ≤ at = (place_is_least size from len words ok.0.some ok.0.within).place.upwards in
    let rest : List (ℕ × ℕ) = filter (λ place. nat_le (place.0 + place.1) limit) (places size (end_after size from len) nodes) in
    cond-false (leb (at + len) limit) ((at, len) ∷ rest) rest (lt-leb (at + len) limit (omega arith))
    ∙ none_within size (end_after size from len) limit nodes words ok.1 (omega arith)

all_within : (e : Endian) (size from limit : ℕ) (nodes : List (List ℕ)) → size % 4 ≡ 0 → AllByRecursion (FitsBlock size) nodes → end_of_all size from nodes ≤ limit
    → filter (λ place. nat_le (place.0 + place.1) limit) (places size from nodes) ≡ places size from nodes
all_within e size from limit [] words ok up = refl
all_within e size from limit (node ∷ nodes) words ok up =
    let len : ℕ = length node in
    let at : ℕ = place_after size from len in
    let end : ℕ = end_after size from len in
    let long : end + length (output e size end nodes) ≡ end_of_all size end nodes = output_is_long e size end nodes words ok.1 in
    let low : at + len ≤ limit = omega (arith, le_pad4 len) in
    let rest : List (ℕ × ℕ) = filter (λ place. nat_le (place.0 + place.1) limit) (places size end nodes) in
    cond-true (leb (at + len) limit) ((at, len) ∷ rest) rest (le-leb (at + len) limit low)
    ∙ ap (λ (l : List (ℕ × ℕ)). (at, len) ∷ l) (all_within e size end limit nodes words ok.1 up)

-- ---- a beginning

-- forms are put, and a beginning of those after them
part_from : (e : Endian) (size from : ℕ) (x z : Indexed) (fs gs : List (List ℕ)) (t : ℕ) (a b c : Option (List ℕ)) (p q r : List Place)
    → size % 4 ≡ 0 → AllByRecursion (FitsBlock size) fs → Appends a b (output e size from fs) → q ≡ p ++ map shown_place (places size from fs)
    → PartBy e size (end_of_all size from fs) z gs t b c q r → PartBy e size from x (fs ++ gs) (length (output e size from fs) + t) a c p r
part_from e size from x z fs gs t a b c p q r words ok bytes shown then =
    let on : OutputIsJoined e size from fs gs = output_goes_on e size from fs gs in
    let mid : ℕ = end_of_all size from fs in
    let out : List ℕ = output e size from fs in
    let more : List ℕ = output e size mid gs in
    let first : List (ℕ × ℕ) = places size from fs in
    let next : List (ℕ × ℕ) = places size mid gs in
    let long : from + length out ≡ mid = output_is_long e size from fs words ok in
    let same : mid + t ≡ from + (length out + t) = omega arith in
    let limit : ℕ = from + (length out + t) in
    let within : t ≤ length more = then.within in
    let intact : filter (λ place. nat_le (place.0 + place.1) limit) first ≡ first = all_within e size from limit fs words ok (omega arith) in
    record {
      within = subst (λ (l : List ℕ). length out + t ≤ length l) (sym on.output) (omega (arith, length-append out more));
      bytes = subst (λ (l : List ℕ). Appends a c (take (length out + t) l)) (sym on.output)
          (subst (Appends a c) (sym (take-append-add out more t)) (Appends-trans a b c _ _ bytes then.bytes));
      places = then.places
          ∙ (ap (λ (l : List Place). l ++ map shown_place (filter (λ place. nat_le (place.0 + place.1) (mid + t)) next)) shown
          ∙ (append_assoc p (map shown_place first) (map shown_place (filter (λ place. nat_le (place.0 + place.1) (mid + t)) next))
          ∙ ap (λ (l : List Place). p ++ l)
          (ap (λ (m : ℕ). map shown_place first ++ map shown_place (filter (λ place. nat_le (place.0 + place.1) m) next)) same
          ∙ (ap (λ (l : List (ℕ × ℕ)). map shown_place l ++ map shown_place (filter (λ place. nat_le (place.0 + place.1) limit) next)) (sym intact)
          ∙ (sym (map-append shown_place (filter (λ place. nat_le (place.0 + place.1) limit) first) (filter (λ place. nat_le (place.0 + place.1) limit) next))
          ∙ ap (map shown_place) (sym (filter-append (λ place. nat_le (place.0 + place.1) limit) first next) ∙ ap (filter (λ place. nat_le (place.0 + place.1) limit)) (sym on.places)))))));
    }

part_then : (e : Endian) (size from : ℕ) (x : Indexed) (xs : List Step) (fs gs : List (List ℕ)) (mid t : ℕ) (z : Indexed) (a b c : Option (List ℕ)) (p q r : List Place)
    → size % 4 ≡ 0 → AllByRecursion (FitsBlock size) fs → PutBy e size from x xs fs mid z a b p q → PartBy e size mid z gs t b c q r
    → PartBy e size from x (fs ++ gs) (length (output e size from fs) + t) a c p r
part_then e size from x xs fs gs mid t z a b c p q r words ok first then =
    part_from e size from x z fs gs t a b c p q r words ok first.bytes first.places (subst (λ (m : ℕ). PartBy e size m z gs t b c q r) first.cursor then)

-- a beginning of forms is one of more forms
part_more : (e : Endian) (size from : ℕ) (x : Indexed) (fs gs : List (List ℕ)) (t : ℕ) (a b : Option (List ℕ)) (p q : List Place)
    → size % 4 ≡ 0 → AllByRecursion (FitsBlock size) fs → AllByRecursion (FitsBlock size) gs → PartBy e size from x fs t a b p q → PartBy e size from x (fs ++ gs) t a b p q
part_more e size from x fs gs t a b p q words ok later begun =
    let on : OutputIsJoined e size from fs gs = output_goes_on e size from fs gs in
    let mid : ℕ = end_of_all size from fs in
    let out : List ℕ = output e size from fs in
    let more : List ℕ = output e size mid gs in
    let first : List (ℕ × ℕ) = places size from fs in
    let next : List (ℕ × ℕ) = places size mid gs in
    let long : from + length out ≡ mid = output_is_long e size from fs words ok in
    let within : t ≤ length out = begun.within in
    let none : filter (λ place. nat_le (place.0 + place.1) (from + t)) next ≡ [] = none_within size mid (from + t) gs words later (omega arith) in
    record {
      within = subst (λ (l : List ℕ). t ≤ length l) (sym on.output) (omega (arith, length-append out more));
      bytes = subst (λ (l : List ℕ). Appends a b (take t l)) (sym on.output) (subst (Appends a b) (sym (take-append-le t out more within)) begun.bytes);
      places = begun.places
          ∙ ap (λ (l : List (ℕ × ℕ)). p ++ map shown_place l)
          (sym (append-nil (filter (λ place. nat_le (place.0 + place.1) (from + t)) first))
          ∙ (ap (λ (l : List (ℕ × ℕ)). filter (λ place. nat_le (place.0 + place.1) (from + t)) first ++ l) (sym none)
          ∙ (sym (filter-append (λ place. nat_le (place.0 + place.1) (from + t)) first next) ∙ ap (filter (λ place. nat_le (place.0 + place.1) (from + t))) (sym on.places))));
    }

-- all of them is a beginning as well
put_part : (e : Endian) (size from : ℕ) (x : Indexed) (xs : List Step) (fs : List (List ℕ)) (mid : ℕ) (z : Indexed) (a b : Option (List ℕ)) (p q : List Place)
    → size % 4 ≡ 0 → AllByRecursion (FitsBlock size) fs → PutBy e size from x xs fs mid z a b p q → PartBy e size from x fs (length (output e size from fs)) a b p q
put_part e size from x xs fs mid z a b p q words ok is =
    let out : List ℕ = output e size from fs in
    let first : List (ℕ × ℕ) = places size from fs in
    let long : from + length out ≡ end_of_all size from fs = output_is_long e size from fs words ok in
    record {
      within = omega arith;
      bytes = subst (Appends a b) (sym (take_all (length out) out (omega arith))) is.bytes;
      places = is.places ∙ ap (λ (l : List (ℕ × ℕ)). p ++ map shown_place l) (sym (all_within e size from (from + length out) fs words ok (omega arith)));
    }

-- ---- the first so many of forms

all_rest : {X : Type 0} (P : X → Type 0) (n : ℕ) (xs : List X) → AllByRecursion P xs → AllByRecursion P (drop n xs)
all_rest P zero xs p = p
all_rest P (suc n) [] p = tt
all_rest P (suc n) (x ∷ xs) p = all_rest P n xs p.1

-- the next one
pub one_more : (e : Endian) (size from : ℕ) (x : Indexed) (steps : List Step) (forms : List (List ℕ)) (i : ℕ) (d s : Step) (v f : List ℕ) (mid end : ℕ) (z y : Indexed) (a b c : Option (List ℕ)) (p q r : List Place)
    → i < length steps → i < length forms → s ≡ get_or steps i d → f ≡ get_or forms i v
    → PutBy e size from x (take i steps) (take i forms) mid z a b p q → PutBy e size mid z (s ∷ []) (f ∷ []) end y b c q r
    → PutBy e size from x (take (suc i) steps) (take (suc i) forms) end y a c p r
one_more e size from x steps forms i d s v f mid end z y a b c p q r below under is has first then =
    let same : take i steps ++ s ∷ [] ≡ take (suc i) steps = ap (λ (t : Step). take i steps ++ t ∷ []) is ∙ sym (take-suc steps i d below) in
    let also : take i forms ++ f ∷ [] ≡ take (suc i) forms = ap (λ (t : List ℕ). take i forms ++ t ∷ []) has ∙ sym (take-suc forms i v under) in
    subst (λ (l : List Step). PutBy e size from x l (take (suc i) forms) end y a c p r) same
    (subst (λ (l : List (List ℕ)). PutBy e size from x (take i steps ++ s ∷ []) l end y a c p r) also
    (put_then e size from x (take i steps) (s ∷ []) (take i forms) (f ∷ []) mid end z y a b c p q r first then))

-- a beginning of the next one
pub one_begun : (e : Endian) (size from : ℕ) (x : Indexed) (steps : List Step) (forms : List (List ℕ)) (i : ℕ) (v f : List ℕ) (mid t : ℕ) (z : Indexed) (a b c : Option (List ℕ)) (p q r : List Place)
    → size % 4 ≡ 0 → AllByRecursion (FitsBlock size) forms → i < length forms → f ≡ get_or forms i v
    → PutBy e size from x (take i steps) (take i forms) mid z a b p q → PartBy e size mid z (f ∷ []) t b c q r
    → PartBy e size from x forms (length (output e size from (take i forms)) + t) a c p r
one_begun e size from x steps forms i v f mid t z a b c p q r words ok under has first then =
    let n : ℕ = length (output e size from (take i forms)) + t in
    let also : take i forms ++ f ∷ [] ≡ take (suc i) forms = ap (λ (t : List ℕ). take i forms ++ t ∷ []) has ∙ sym (take-suc forms i v under) in
    let far : take (suc i) forms ++ drop (suc i) forms ≡ forms = take-append-drop (suc i) forms in
    let begun : PartBy e size from x (take (suc i) forms) n a c p r =
    subst (λ (l : List (List ℕ)). PartBy e size from x l n a c p r) also
    (part_then e size from x (take i steps) (take i forms) (f ∷ []) mid t z a b c p q r words (all_first (FitsBlock size) i forms ok) first then) in
    subst (λ (l : List (List ℕ)). PartBy e size from x l n a c p r) far
    (part_more e size from x (take (suc i) forms) (drop (suc i) forms) n a c p r words (all_first (FitsBlock size) (suc i) forms ok) (all_rest (FitsBlock size) (suc i) forms ok) begun)

-- no more than the first so many
pub only_begun : (e : Endian) (size from : ℕ) (x : Indexed) (steps : List Step) (forms : List (List ℕ)) (i mid : ℕ) (z : Indexed) (a b : Option (List ℕ)) (p q : List Place)
    → size % 4 ≡ 0 → AllByRecursion (FitsBlock size) forms → PutBy e size from x (take i steps) (take i forms) mid z a b p q
    → PartBy e size from x forms (length (output e size from (take i forms))) a b p q
only_begun e size from x steps forms i mid z a b p q words ok first =
    let n : ℕ = length (output e size from (take i forms)) in
    subst (λ (l : List (List ℕ)). PartBy e size from x l n a b p q) (take-append-drop i forms)
    (part_more e size from x (take i forms) (drop i forms) n a b p q words (all_first (FitsBlock size) i forms ok) (all_rest (FitsBlock size) i forms ok)
    (put_part e size from x (take i steps) (take i forms) mid z a b p q words (all_first (FitsBlock size) i forms ok) first))

pub some_out : (e : Endian) (size from : ℕ) (forms : List (List ℕ)) (i : ℕ) → AllByRecursion (FitsBlock size) forms → 0 < i → i < length forms → 0 < length (output e size from (take i forms))
some_out e size from [] i ok some below = absurd (omega arith)
some_out e size from (f ∷ forms) zero ok some below = absurd (omega arith)
some_out e size from (f ∷ forms) (suc i) ok some below =
    let len : ℕ = length f in
    let front : List ℕ = gap e size from (place_after size from len) in
    let rest : List ℕ = output e size (end_after size from len) (take i forms) in
    omega (arith, length-append (front ++ filled f) rest, length-append front (filled f), length-append f (erased (pad4_of len - len)), ok.0.some)

-- a call after it put nothing
pub still : (e : Endian) (size from : ℕ) (x : Indexed) (forms : List (List ℕ)) (t : ℕ) (a b c : Option (List ℕ)) (p q r : List Place)
    → PartBy e size from x forms t a b p q → Appends b c [] → r ≡ q → PartBy e size from x forms t a c p r
still e size from x forms t a b c p q r begun none same =
    record {
      within = begun.within;
      bytes = subst (Appends a c) (append-nil (take t (output e size from forms))) (Appends-trans a b c _ _ begun.bytes none);
      places = same ∙ begun.places;
    }

-- none is put, and none after that
pub nothing : (e : Endian) (size from : ℕ) (x : Indexed) (steps : List Step) (forms : List (List ℕ)) (i mid end : ℕ) (z y : Indexed) (a b c : Option (List ℕ)) (p q r : List Place)
    → i ≡ 0 → PutBy e size from x (take i steps) (take i forms) mid z a b p q → end ≡ mid → y ≡ z → Appends b c [] → r ≡ q
    → (end ≡ from) × (y ≡ x) × Appends a c [] × (r ≡ p)
nothing e size from x steps forms i mid end z y a b c p q r zero_is first ends on none same =
    let is : PutBy e size from x [] [] mid z a b p q = subst (λ (n : ℕ). PutBy e size from x (take n steps) (take n forms) mid z a b p q) zero_is first in
    (ends ∙ is.cursor, on ∙ is.index, subst (Appends a c) (append-nil []) (Appends-trans a b c _ _ is.bytes none), same ∙ (is.places ∙ append-nil p))

-- where the first so many end
pub within_at : (size blocks from : ℕ) (forms : List (List ℕ)) (i : ℕ) → size % 4 ≡ 0 → AllByRecursion (FitsBlock size) forms → from ≤ blocks * size → from % 4 ≡ 0
    → IsTrue (fit size blocks from forms) → (end_of_all size from (take i forms) ≤ blocks * size) × (end_of_all size from (take i forms) % 4 ≡ 0)
within_at size blocks from forms i words ok within aligned fits =
    let near : take i forms ++ drop i forms ≡ forms = take-append-drop i forms in
    let both = and_parts (fit size blocks from (take i forms)) (fit size blocks (end_of_all size from (take i forms)) (drop i forms))
    (subst IsTrue (room_goes_on size blocks from (take i forms) (drop i forms)) (subst (λ (l : List (List ℕ)). IsTrue (fit size blocks from l)) (sym near) fits)) in
    end_is_within size blocks from (take i forms) words (all_first (FitsBlock size) i forms ok) aligned within both.0

-- ---- the answers of putting, by cases

pub at_sink : (e : Endian) (size c : ℕ) (x : Indexed) (steps : List Step) (forms : List (List ℕ)) (end : ℕ) (y : Indexed) (a b : Option (List ℕ)) (f n : ℕ) (p q : List Place) (r : Result (Unit {0}) Stop)
    → r ≡ Err stop.Sink → PutsBy e size c x steps forms end y a b f n p q r → ((t : ℕ) × PartBy e size c x forms t a b p q) × (n ≡ next_count f)
at_sink e size c x steps forms end y a b f n p q r is did = subst (PutsBy e size c x steps forms end y a b f n p q) is did

pub at_begun : (e : Endian) (size c : ℕ) (x : Indexed) (steps : List Step) (forms : List (List ℕ)) (end : ℕ) (y : Indexed) (a b : Option (List ℕ)) (f n : ℕ) (p q : List Place) (r : Result (Unit {0}) Stop)
    → r ≡ Err stop.Begun → PutsBy e size c x steps forms end y a b f n p q r → ((t : ℕ) × (0 < t) × PartBy e size c x forms t a b p q) × (n ≡ f)
at_begun e size c x steps forms end y a b f n p q r is did = subst (PutsBy e size c x steps forms end y a b f n p q) is did

pub at_unbegun : (e : Endian) (size c : ℕ) (x : Indexed) (steps : List Step) (forms : List (List ℕ)) (end : ℕ) (y : Indexed) (a b : Option (List ℕ)) (f n : ℕ) (p q : List Place) (r : Result (Unit {0}) Stop)
    → r ≡ Err stop.Unbegun → PutsBy e size c x steps forms end y a b f n p q r → (end ≡ c) × (y ≡ x) × Appends a b [] × (q ≡ p) × (n ≡ f)
at_unbegun e size c x steps forms end y a b f n p q r is did = subst (PutsBy e size c x steps forms end y a b f n p q) is did

pub at_ok : (u : Unit {0}) (e : Endian) (size c : ℕ) (x : Indexed) (steps : List Step) (forms : List (List ℕ)) (end : ℕ) (y : Indexed) (a b : Option (List ℕ)) (f n : ℕ) (p q : List Place) (r : Result (Unit {0}) Stop)
    → r ≡ Ok u → PutsBy e size c x steps forms end y a b f n p q r → PutBy e size c x steps forms end y a b p q × (n ≡ f)
at_ok u e size c x steps forms end y a b f n p q r is did = subst (PutsBy e size c x steps forms end y a b f n p q) is did
