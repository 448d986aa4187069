-- Steps that are written one after another, and beginnings of them.
use Rattle.std.proofs.Common.{◌≡◌, ℕ, zero, suc, ◌+◌, ◌%◌, ◌<◌, ◌≤◌, leb, List, [], ◌∷◌, ◌++◌, length, map, take, get_or, refl, sym, ap, ◌∙◌, subst, arith, append_assoc, length-append, take_all, Option}
use Rattle.std.specs.Prelude.{filter, nat_le}
use Rattle.std.specs.List.{AllByRecursion}
use Rattle.std.specs.Io.KnownBytes.{Appends}
use Rattle.std.proofs.KnownBytes.{Appends-trans, Appends-nil}
use Rattle.std.proofs.Math.Seq.{take-append-add}
use Rattle.std.proofs.lemmas.Bool.{cond-true, cond-false, le-leb, lt-leb}
use Rattle.std.proofs.lemmas.List.{append-nil, map-append, take-append-le}
use Rattle.std.proofs.lemmas.List.Elements.{filter-append}
use Rattle.flashbase.proofs.BytesLemmas.{le_pad4}
use Rattle.jnode.specs.Writing.{canonical}
use Rattle.jnode.specs.declared.order.Endian.{Endian}
use Rattle.jsteps.specs.Nodes.{Indexed, node_of, nodes_of, advanced, advanced_all}
use Rattle.jscan.specs.Pages.{IsPage}
use Rattle.jsteps.specs.Laws.{IsPlanned}
use Rattle.jsteps.specs.declared.step.Step.{Step}
use Rattle.jsteps.proofs.TakenLemmas.{advanced_all-append}
use Rattle.jlog.specs.Places.{place_after, end_after, places, end_of_all}
use Rattle.jlog.specs.Output.{output}
use Rattle.jlog.specs.Laws.{FitsBlock, OutputIsJoined}
use Rattle.jlog.specs.Running.{written, shown_place, places_of, CanWrite, CanWriteAll}
use Rattle.jlog.proofs.Parts.{BegunBy, WrittenBy}
use Rattle.jlog.specs.declared.report.Place.{Place}
use Rattle.jlog.proofs.PlaceLemmas.{place_is_least}
use Rattle.jlog.proofs.OutputLemmas.{output_goes_on}
use Rattle.jlog.proofs.IntactLemmas.{output_is_long, has_room}
use Rattle.jlog.proofs.HeadlineLemmas.{planned_loggable}

pub written_on : (e : Endian) (x : Indexed) (xs ys : List Step) → written e x (xs ++ ys) ≡ written e x xs ++ written e (advanced_all x xs) ys
written_on e x [] ys = refl
written_on e x (s ∷ xs) ys = ap (λ (l : List (List ℕ)). canonical e (node_of x s) ∷ l) (written_on e (advanced x s) xs ys)

-- what goes out for steps and for those after them
pub record StepsGoOn (e : Endian) (size from : ℕ) (x : Indexed) (xs ys : List Step) : Type 0 where
  pub output_is : output e size from (written e x (xs ++ ys)) ≡ output e size from (written e x xs) ++ output e size (end_of_all size from (written e x xs)) (written e (advanced_all x xs) ys)
  pub places_are : places size from (written e x (xs ++ ys)) ≡ places size from (written e x xs) ++ places size (end_of_all size from (written e x xs)) (written e (advanced_all x xs) ys)
  pub end_is : end_of_all size from (written e x (xs ++ ys)) ≡ end_of_all size (end_of_all size from (written e x xs)) (written e (advanced_all x xs) ys)

pub steps_go_on : (e : Endian) (size from : ℕ) (x : Indexed) (xs ys : List Step) → StepsGoOn e size from x xs ys
steps_go_on e size from x xs ys =
    let on : OutputIsJoined e size from (written e x xs) (written e (advanced_all x xs) ys) = output_goes_on e size from (written e x xs) (written e (advanced_all x xs) ys) in
    record {
      output_is = ap (output e size from) (written_on e x xs ys) ∙ on.output;
      places_are = ap (places size from) (written_on e x xs ys) ∙ on.places;
      end_is = ap (end_of_all size from) (written_on e x xs ys) ∙ on.end;
    }

-- ---- one after another

-- where the first steps leave the log
then_from : (e : Endian) (size from : ℕ) (x : Indexed) (xs ys : List Step) (end : ℕ) (y : Indexed) (a b c : Option (List ℕ)) (p q r : List Place)
    → Appends a b (output e size from (written e x xs)) → q ≡ p ++ places_of e size from x xs
    → WrittenBy e size (end_of_all size from (written e x xs)) (advanced_all x xs) ys end y b c q r
    → WrittenBy e size from x (xs ++ ys) end y a c p r
then_from e size from x xs ys end y a b c p q r bytes shown then =
    let on : StepsGoOn e size from x xs ys = steps_go_on e size from x xs ys in
    let mid : ℕ = end_of_all size from (written e x xs) in
    let z : Indexed = advanced_all x xs in
    record {
      cursor = then.cursor ∙ sym on.end_is;
      index = then.index ∙ sym (advanced_all-append x xs ys);
      bytes = subst (Appends a c) (sym on.output_is) (Appends-trans a b c _ _ bytes then.bytes);
      places = then.places
          ∙ (ap (λ (l : List Place). l ++ places_of e size mid z ys) shown
          ∙ (append_assoc p (places_of e size from x xs) (places_of e size mid z ys)
          ∙ ap (λ (l : List Place). p ++ l) (sym (map-append shown_place (places size from (written e x xs)) (places size mid (written e z ys))) ∙ sym (ap (map shown_place) on.places_are))));
    }

pub written_then : (e : Endian) (size from : ℕ) (x : Indexed) (xs ys : List Step) (mid end : ℕ) (z y : Indexed) (a b c : Option (List ℕ)) (p q r : List Place)
    → WrittenBy e size from x xs mid z a b p q → WrittenBy e size mid z ys end y b c q r → WrittenBy e size from x (xs ++ ys) end y a c p r
written_then e size from x xs ys mid end z y a b c p q r first then =
    then_from e size from x xs ys end y a b c p q r first.bytes first.places
    (subst (λ (w : Indexed). WrittenBy e size (end_of_all size from (written e x xs)) w ys end y b c q r) first.index
    (subst (λ (m : ℕ). WrittenBy e size m z ys end y b c q r) first.cursor then))

-- nothing is written
pub written_none : (e : Endian) (size from : ℕ) (x : Indexed) (a : Option (List ℕ)) (p : List Place) → WrittenBy e size from x [] from x a a p p
written_none e size from x a p = record { cursor = refl; index = refl; bytes = Appends-nil a; places = sym (append-nil p) }

-- ---- places that are within, and that are not

none_within : (size from limit : ℕ) (nodes : List (List ℕ)) → size % 4 ≡ 0 → AllByRecursion (FitsBlock size) nodes → limit ≤ from
    → filter (λ place. nat_le (place.0 + place.1) limit) (places size from nodes) ≡ []
none_within size from limit [] words ok up = refl
none_within size from limit (node ∷ nodes) words ok up =
    let len : ℕ = length node in
    let at : ℕ = place_after size from len in
    let some : 0 < len = ok.0.some in
    let high : from ≤ at = (place_is_least size from len words ok.0.some ok.0.within).place.upwards in
    let rest : List (ℕ × ℕ) = filter (λ place. nat_le (place.0 + place.1) limit) (places size (end_after size from len) nodes) in
    cond-false (leb (at + len) limit) ((at, len) ∷ rest) rest (lt-leb (at + len) limit (omega arith))
    ∙ none_within size (end_after size from len) limit nodes words ok.1 (omega arith)

all_within : (e : Endian) (size from limit : ℕ) (nodes : List (List ℕ)) → size % 4 ≡ 0 → AllByRecursion (FitsBlock size) nodes → end_of_all size from nodes ≤ limit
    → filter (λ place. nat_le (place.0 + place.1) limit) (places size from nodes) ≡ places size from nodes
all_within e size from limit [] words ok up = refl
all_within e size from limit (node ∷ nodes) words ok up =
    let len : ℕ = length node in
    let at : ℕ = place_after size from len in
    let end : ℕ = end_after size from len in
    let long : end + length (output e size end nodes) ≡ end_of_all size end nodes = output_is_long e size end nodes words ok.1 in
    let low : at + len ≤ limit = omega (arith, le_pad4 len) in
    let rest : List (ℕ × ℕ) = filter (λ place. nat_le (place.0 + place.1) limit) (places size end nodes) in
    cond-true (leb (at + len) limit) ((at, len) ∷ rest) rest (le-leb (at + len) limit low)
    ∙ ap (λ (l : List (ℕ × ℕ)). (at, len) ∷ l) (all_within e size end limit nodes words ok.1 up)

-- ---- a beginning

-- steps are written, and a beginning of those after them
begun_from : (e : Endian) (size from : ℕ) (x : Indexed) (xs ys : List Step) (t : ℕ) (a b c : Option (List ℕ)) (p q r : List Place)
    → size % 4 ≡ 0 → AllByRecursion (FitsBlock size) (written e x xs)
    → Appends a b (output e size from (written e x xs)) → q ≡ p ++ places_of e size from x xs
    → BegunBy e size (end_of_all size from (written e x xs)) (advanced_all x xs) ys t b c q r
    → BegunBy e size from x (xs ++ ys) (length (output e size from (written e x xs)) + t) a c p r
begun_from e size from x xs ys t a b c p q r words ok bytes shown then =
    let on : StepsGoOn e size from x xs ys = steps_go_on e size from x xs ys in
    let mid : ℕ = end_of_all size from (written e x xs) in
    let z : Indexed = advanced_all x xs in
    let out : List ℕ = output e size from (written e x xs) in
    let more : List ℕ = output e size mid (written e z ys) in
    let first : List (ℕ × ℕ) = places size from (written e x xs) in
    let next : List (ℕ × ℕ) = places size mid (written e z ys) in
    let long : from + length out ≡ mid = output_is_long e size from (written e x xs) words ok in
    let same : mid + t ≡ from + (length out + t) = omega arith in
    let limit : ℕ = from + (length out + t) in
    let within : t ≤ length more = then.within in
    let intact : filter (λ place. nat_le (place.0 + place.1) limit) first ≡ first = all_within e size from limit (written e x xs) words ok (omega arith) in
    record {
      within = subst (λ (l : List ℕ). length out + t ≤ length l) (sym on.output_is) (omega (arith, length-append out more));
      bytes = subst (λ (l : List ℕ). Appends a c (take (length out + t) l)) (sym on.output_is)
          (subst (Appends a c) (sym (take-append-add out more t)) (Appends-trans a b c _ _ bytes then.bytes));
      places = then.places
          ∙ (ap (λ (l : List Place). l ++ map shown_place (filter (λ place. nat_le (place.0 + place.1) (mid + t)) next)) shown
          ∙ (append_assoc p (map shown_place first) (map shown_place (filter (λ place. nat_le (place.0 + place.1) (mid + t)) next))
          ∙ ap (λ (l : List Place). p ++ l)
          (ap (λ (m : ℕ). map shown_place first ++ map shown_place (filter (λ place. nat_le (place.0 + place.1) m) next)) same
          ∙ (ap (λ (l : List (ℕ × ℕ)). map shown_place l ++ map shown_place (filter (λ place. nat_le (place.0 + place.1) limit) next)) (sym intact)
          ∙ (sym (map-append shown_place (filter (λ place. nat_le (place.0 + place.1) limit) first) (filter (λ place. nat_le (place.0 + place.1) limit) next))
          ∙ ap (map shown_place) (sym (filter-append (λ place. nat_le (place.0 + place.1) limit) first next) ∙ ap (filter (λ place. nat_le (place.0 + place.1) limit)) (sym on.places_are)))))));
    }

pub begun_then : (e : Endian) (size from : ℕ) (x : Indexed) (xs ys : List Step) (mid t : ℕ) (z : Indexed) (a b c : Option (List ℕ)) (p q r : List Place)
    → size % 4 ≡ 0 → AllByRecursion (FitsBlock size) (written e x xs)
    → WrittenBy e size from x xs mid z a b p q → BegunBy e size mid z ys t b c q r
    → BegunBy e size from x (xs ++ ys) (length (output e size from (written e x xs)) + t) a c p r
begun_then e size from x xs ys mid t z a b c p q r words ok first then =
    begun_from e size from x xs ys t a b c p q r words ok first.bytes first.places
    (subst (λ (w : Indexed). BegunBy e size (end_of_all size from (written e x xs)) w ys t b c q r) first.index
    (subst (λ (m : ℕ). BegunBy e size m z ys t b c q r) first.cursor then))

-- a beginning of steps is one of more steps
pub begun_more : (e : Endian) (size from : ℕ) (x : Indexed) (xs ys : List Step) (t : ℕ) (a b : Option (List ℕ)) (p q : List Place)
    → size % 4 ≡ 0 → AllByRecursion (FitsBlock size) (written e x xs) → AllByRecursion (FitsBlock size) (written e (advanced_all x xs) ys)
    → BegunBy e size from x xs t a b p q → BegunBy e size from x (xs ++ ys) t a b p q
begun_more e size from x xs ys t a b p q words ok later begun =
    let on : StepsGoOn e size from x xs ys = steps_go_on e size from x xs ys in
    let mid : ℕ = end_of_all size from (written e x xs) in
    let z : Indexed = advanced_all x xs in
    let out : List ℕ = output e size from (written e x xs) in
    let more : List ℕ = output e size mid (written e z ys) in
    let first : List (ℕ × ℕ) = places size from (written e x xs) in
    let next : List (ℕ × ℕ) = places size mid (written e z ys) in
    let long : from + length out ≡ mid = output_is_long e size from (written e x xs) words ok in
    let within : t ≤ length out = begun.within in
    let none : filter (λ place. nat_le (place.0 + place.1) (from + t)) next ≡ [] = none_within size mid (from + t) (written e z ys) words later (omega arith) in
    record {
      within = subst (λ (l : List ℕ). t ≤ length l) (sym on.output_is) (omega (arith, length-append out more));
      bytes = subst (λ (l : List ℕ). Appends a b (take t l)) (sym on.output_is) (subst (Appends a b) (sym (take-append-le t out more within)) begun.bytes);
      places = begun.places
          ∙ ap (λ (l : List (ℕ × ℕ)). p ++ map shown_place l)
          (sym (append-nil (filter (λ place. nat_le (place.0 + place.1) (from + t)) first))
          ∙ (ap (λ (l : List (ℕ × ℕ)). filter (λ place. nat_le (place.0 + place.1) (from + t)) first ++ l) (sym none)
          ∙ (sym (filter-append (λ place. nat_le (place.0 + place.1) (from + t)) first next) ∙ ap (filter (λ place. nat_le (place.0 + place.1) (from + t))) (sym on.places_are))));
    }

-- all of the steps is a beginning as well
pub written_begun : (e : Endian) (size from : ℕ) (x : Indexed) (xs : List Step) (mid : ℕ) (z : Indexed) (a b : Option (List ℕ)) (p q : List Place)
    → size % 4 ≡ 0 → AllByRecursion (FitsBlock size) (written e x xs)
    → WrittenBy e size from x xs mid z a b p q → BegunBy e size from x xs (length (output e size from (written e x xs))) a b p q
written_begun e size from x xs mid z a b p q words ok is =
    let out : List ℕ = output e size from (written e x xs) in
    let first : List (ℕ × ℕ) = places size from (written e x xs) in
    let long : from + length out ≡ end_of_all size from (written e x xs) = output_is_long e size from (written e x xs) words ok in
    record {
      within = omega arith;
      bytes = subst (Appends a b) (sym (take_whole out)) is.bytes;
      places = is.places ∙ ap (λ (l : List (ℕ × ℕ)). p ++ map shown_place l) (sym (all_within e size from (from + length out) (written e x xs) words ok (omega arith)));
    }
  where
    take_whole : (l : List ℕ) → take (length l) l ≡ l
    take_whole l = take_all (length l) l (omega arith)

-- ---- steps that can be written

pub can_room : (page : ℕ) (e : Endian) (size : ℕ) (x : Indexed) (steps : List Step) → IsPage page → page + 80 ≤ size → CanWriteAll page e x steps → AllByRecursion (FitsBlock size) (written e x steps)
can_room page e size x steps is_page fits can = has_room e size (nodes_of x steps) (planned_loggable page e size (nodes_of x steps) is_page fits (planned page e x steps can))
  where
    planned : (page : ℕ) (e : Endian) (x : Indexed) (steps : List Step) → CanWriteAll page e x steps → AllByRecursion (IsPlanned page e) (nodes_of x steps)
    planned page e x [] can = tt
    planned page e x (s ∷ steps) can = (can.0.node, planned page e (advanced x s) steps can.1)

pub can_at : (page : ℕ) (e : Endian) (x : Indexed) (steps : List Step) (i : ℕ) (d : Step) → CanWriteAll page e x steps → i < length steps
    → CanWrite page e (advanced_all x (take i steps)) (get_or steps i d)
can_at page e x [] i d can below = absurd (omega arith)
can_at page e x (s ∷ steps) zero d can below = can.0
can_at page e x (s ∷ steps) (suc i) d can below = can_at page e (advanced x s) steps i d can.1 (omega arith)

pub can_first : (page : ℕ) (e : Endian) (x : Indexed) (xs ys : List Step) → CanWriteAll page e x (xs ++ ys) → CanWriteAll page e x xs
can_first page e x [] ys can = tt
can_first page e x (s ∷ xs) ys can = (can.0, can_first page e (advanced x s) xs ys can.1)

pub can_rest : (page : ℕ) (e : Endian) (x : Indexed) (xs ys : List Step) → CanWriteAll page e x (xs ++ ys) → CanWriteAll page e (advanced_all x xs) ys
can_rest page e x [] ys can = can
can_rest page e x (s ∷ xs) ys can = can_rest page e (advanced x s) xs ys can.1
