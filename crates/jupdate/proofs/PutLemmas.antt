-- Forms that are put into a row one after another, or the beginning of them.
use Rattle.std.proofs.Common.{◌≡◌, ℕ, zero, suc, ◌+◌, ◌-◌, ◌*◌, ◌%◌, ◌<◌, ◌≤◌, List, [], ◌∷◌, ◌++◌, length, map, take, drop, get_or, refl, sym, ap, ◌∙◌, subst, arith, length-append, take_all, append_assoc, append-nil, take-append-drop, Option, Result, Ok, Err}
use Rattle.std.specs.Prelude.{IsTrue}
use Rattle.std.specs.List.{AllByRecursion}
use Rattle.std.specs.Io.KnownBytes.{Appends}
use Rattle.std.proofs.KnownBytes.{Appends-nil, Appends-trans}
use Rattle.std.proofs.Math.Seq.{take-append-add, take-suc}
use Rattle.std.proofs.lemmas.Bool.{and_parts}
use Rattle.std.proofs.lemmas.List.{map-append, take-append-le}
use Rattle.flashbase.specs.Bytes.{pad4_of, erased}
use Rattle.flashbase.specs.Device.{next_count}
use Rattle.jnode.specs.Writing.{filled}
use Rattle.jnode.specs.declared.order.Endian.{Endian}
use Rattle.jsteps.specs.Nodes.{Indexed, advanced_all}
use Rattle.jsteps.specs.declared.step.Step.{Step}
use Rattle.jsteps.proofs.TakenLemmas.{advanced_all-append}
use Rattle.jlog.specs.Laws.{FitsBlock}
use Rattle.jlog.specs.Output.{gap}
use Rattle.jlog.specs.Places.{place_after}
use Rattle.jlog.specs.Running.{shown_place}
use Rattle.jlog.specs.declared.report.Place.{Place}
use Rattle.jlog.specs.declared.writing.Stop.{Stop}
use Rattle.jlog.specs.declared.writing.Stop.TheVariants as stop
use Rattle.jrests.specs.Shares.{shares, fit_in, places_in}
use Rattle.jrests.specs.declared.opening.Opening.{Opening}
use Rattle.jrests.proofs.ShareLemmas.{all_first, all_behind}
use Rattle.jopenings.specs.After.{row_after, row_after_all, output_to_all}
use Rattle.jopenings.proofs.AfterLemmas.{no_places, room_goes_on, places_go_on, output_goes_on, output_step}
use Rattle.jopenings.specs.declared.placing.Stretch.{Stretch}
use Rattle.jupdate.specs.Writing.{GrowsBy, places_out}
use Rattle.jupdate.proofs.OutLemmas.{all_far, all_near, all_told}
use Rattle.jupdate.proofs.Parts.{PutBy, PartBy, PutsBy}
use Rattle.jupdate.proofs.RowLemmas.{Reached, fit_reached, goes_to, no_output, rows_on}

-- ---- one after another

then_from : (e : Endian) (size : ℕ) (row : List Opening) (x : Indexed) (xs ys : List Step) (fs gs : List (List ℕ)) (next : List Opening) (y : Indexed) (a b c : Option (List ℕ)) (p q r : List Place)
    → Appends a b (output_to_all e size (shares size row fs)) → q ≡ p ++ map shown_place (places_in size (shares size row fs))
    → PutBy e size (row_after_all size row fs) (advanced_all x xs) ys gs next y b c q r → PutBy e size row x (xs ++ ys) (fs ++ gs) next y a c p r
then_from e size row x xs ys fs gs next y a b c p q r bytes shown then =
    let mid : List Opening = row_after_all size row fs in
    let first : List (ℕ × ℕ) = places_in size (shares size row fs) in
    let more : List (ℕ × ℕ) = places_in size (shares size mid gs) in
    record {
      row = then.row ∙ sym (rows_on size row fs gs);
      index = then.index ∙ sym (advanced_all-append x xs ys);
      bytes = subst (Appends a c) (sym (output_goes_on e size row fs gs)) (Appends-trans a b c _ _ bytes then.bytes);
      places = then.places
          ∙ (ap (λ (l : List Place). l ++ map shown_place more) shown
          ∙ (append_assoc p (map shown_place first) (map shown_place more)
          ∙ ap (λ (l : List Place). p ++ l) (sym (map-append shown_place first more) ∙ sym (ap (map shown_place) (places_go_on size row fs gs)))));
    }

pub put_then : (e : Endian) (size : ℕ) (row : List Opening) (x : Indexed) (xs ys : List Step) (fs gs : List (List ℕ)) (mid next : List Opening) (z y : Indexed) (a b c : Option (List ℕ)) (p q r : List Place)
    → PutBy e size row x xs fs mid z a b p q → PutBy e size mid z ys gs next y b c q r → PutBy e size row x (xs ++ ys) (fs ++ gs) next y a c p r
put_then e size row x xs ys fs gs mid next z y a b c p q r first then =
    then_from e size row x xs ys fs gs next y a b c p q r first.bytes first.places
    (subst (λ (w : Indexed). PutBy e size (row_after_all size row fs) w ys gs next y b c q r) first.index
    (subst (λ (m : List Opening). PutBy e size m z ys gs next y b c q r) first.row then))

pub put_none : (e : Endian) (size : ℕ) (row : List Opening) (x : Indexed) (a : Option (List ℕ)) (p : List Place) → PutBy e size row x [] [] row x a a p p
put_none e size row x a p =
    record {
      row = refl;
      index = refl;
      bytes = subst (Appends a a) (sym (no_output e size row)) (Appends-nil a);
      places = sym (append-nil p) ∙ ap (λ (l : List (ℕ × ℕ)). p ++ map shown_place l) (sym (no_places size row));
    }

-- ---- a beginning

-- forms are put, and a beginning of those after them
part_from : (e : Endian) (size : ℕ) (row : List Opening) (x z : Indexed) (fs gs : List (List ℕ)) (t : ℕ) (a b c : Option (List ℕ)) (p q r : List Place)
    → size % 4 ≡ 0 → AllByRecursion (FitsBlock size) fs → Appends a b (output_to_all e size (shares size row fs)) → q ≡ p ++ map shown_place (places_in size (shares size row fs))
    → PartBy e size (row_after_all size row fs) z gs t b c q r → PartBy e size row x (fs ++ gs) (length (output_to_all e size (shares size row fs)) + t) a c p r
part_from e size row x z fs gs t a b c p q r words ok bytes shown then =
    let mid : List Opening = row_after_all size row fs in
    let out : List ℕ = output_to_all e size (shares size row fs) in
    let more : List ℕ = output_to_all e size (shares size mid gs) in
    let first : List (ℕ × ℕ) = places_in size (shares size row fs) in
    let next : List (ℕ × ℕ) = places_out e size (shares size mid gs) t in
    let within : t ≤ length more = then.within in
    record {
      within = subst (λ (l : List ℕ). length out + t ≤ length l) (sym (output_goes_on e size row fs gs)) (omega (arith, length-append out more));
      bytes = subst (λ (l : List ℕ). Appends a c (take (length out + t) l)) (sym (output_goes_on e size row fs gs))
          (subst (Appends a c) (sym (take-append-add out more t)) (Appends-trans a b c _ _ bytes then.bytes));
      places = then.places
          ∙ (ap (λ (l : List Place). l ++ map shown_place next) shown
          ∙ (append_assoc p (map shown_place first) (map shown_place next)
          ∙ ap (λ (l : List Place). p ++ l) (sym (map-append shown_place first next) ∙ ap (map shown_place) (sym (all_far e size row fs gs t words ok)))));
    }

part_then : (e : Endian) (size : ℕ) (row : List Opening) (x : Indexed) (xs : List Step) (fs gs : List (List ℕ)) (mid : List Opening) (t : ℕ) (z : Indexed) (a b c : Option (List ℕ)) (p q r : List Place)
    → size % 4 ≡ 0 → AllByRecursion (FitsBlock size) fs → PutBy e size row x xs fs mid z a b p q → PartBy e size mid z gs t b c q r
    → PartBy e size row x (fs ++ gs) (length (output_to_all e size (shares size row fs)) + t) a c p r
part_then e size row x xs fs gs mid t z a b c p q r words ok first then =
    part_from e size row x z fs gs t a b c p q r words ok first.bytes first.places (subst (λ (m : List Opening). PartBy e size m z gs t b c q r) first.row then)

-- a beginning of forms is one of more forms
part_more : (e : Endian) (size : ℕ) (row : List Opening) (x : Indexed) (fs gs : List (List ℕ)) (t : ℕ) (a b : Option (List ℕ)) (p q : List Place)
    → size % 4 ≡ 0 → AllByRecursion (FitsBlock size) fs → AllByRecursion (FitsBlock size) gs → PartBy e size row x fs t a b p q → PartBy e size row x (fs ++ gs) t a b p q
part_more e size row x fs gs t a b p q words ok later begun =
    let out : List ℕ = output_to_all e size (shares size row fs) in
    let more : List ℕ = output_to_all e size (shares size (row_after_all size row fs) gs) in
    let within : t ≤ length out = begun.within in
    record {
      within = subst (λ (l : List ℕ). t ≤ length l) (sym (output_goes_on e size row fs gs)) (omega (arith, length-append out more));
      bytes = subst (λ (l : List ℕ). Appends a b (take t l)) (sym (output_goes_on e size row fs gs)) (subst (Appends a b) (sym (take-append-le t out more within)) begun.bytes);
      places = begun.places ∙ ap (λ (l : List (ℕ × ℕ)). p ++ map shown_place l) (sym (all_near e size row fs gs t words ok later within));
    }

-- all of them is a beginning as well
put_part : (e : Endian) (size : ℕ) (row : List Opening) (x : Indexed) (xs : List Step) (fs : List (List ℕ)) (mid : List Opening) (z : Indexed) (a b : Option (List ℕ)) (p q : List Place)
    → size % 4 ≡ 0 → AllByRecursion (FitsBlock size) fs → PutBy e size row x xs fs mid z a b p q → PartBy e size row x fs (length (output_to_all e size (shares size row fs))) a b p q
put_part e size row x xs fs mid z a b p q words ok is =
    let out : List ℕ = output_to_all e size (shares size row fs) in
    record {
      within = omega arith;
      bytes = subst (Appends a b) (sym (take_all (length out) out (omega arith))) is.bytes;
      places = is.places ∙ ap (λ (l : List (ℕ × ℕ)). p ++ map shown_place l) (sym (all_told e size row fs words ok));
    }

-- ---- the first so many of forms

-- the next one
pub one_more : (e : Endian) (size : ℕ) (row : List Opening) (x : Indexed) (steps : List Step) (forms : List (List ℕ)) (i : ℕ) (d s : Step) (v f : List ℕ) (mid next : List Opening) (z y : Indexed) (a b c : Option (List ℕ)) (p q r : List Place)
    → i < length steps → i < length forms → s ≡ get_or steps i d → f ≡ get_or forms i v
    → PutBy e size row x (take i steps) (take i forms) mid z a b p q → PutBy e size mid z (s ∷ []) (f ∷ []) next y b c q r
    → PutBy e size row x (take (suc i) steps) (take (suc i) forms) next y a c p r
one_more e size row x steps forms i d s v f mid next z y a b c p q r below under is has first then =
    let same : take i steps ++ s ∷ [] ≡ take (suc i) steps = ap (λ (t : Step). take i steps ++ t ∷ []) is ∙ sym (take-suc steps i d below) in
    let also : take i forms ++ f ∷ [] ≡ take (suc i) forms = ap (λ (t : List ℕ). take i forms ++ t ∷ []) has ∙ sym (take-suc forms i v under) in
    subst (λ (l : List Step). PutBy e size row x l (take (suc i) forms) next y a c p r) same
    (subst (λ (l : List (List ℕ)). PutBy e size row x (take i steps ++ s ∷ []) l next y a c p r) also
    (put_then e size row x (take i steps) (s ∷ []) (take i forms) (f ∷ []) mid next z y a b c p q r first then))

-- a beginning of the next one
pub one_begun : (e : Endian) (size : ℕ) (row : List Opening) (x : Indexed) (steps : List Step) (forms : List (List ℕ)) (i : ℕ) (v f : List ℕ) (mid : List Opening) (t : ℕ) (z : Indexed) (a b c : Option (List ℕ)) (p q r : List Place)
    → size % 4 ≡ 0 → AllByRecursion (FitsBlock size) forms → i < length forms → f ≡ get_or forms i v
    → PutBy e size row x (take i steps) (take i forms) mid z a b p q → PartBy e size mid z (f ∷ []) t b c q r
    → PartBy e size row x forms (length (output_to_all e size (shares size row (take i forms))) + t) a c p r
one_begun e size row x steps forms i v f mid t z a b c p q r words ok under has first then =
    let n : ℕ = length (output_to_all e size (shares size row (take i forms))) + t in
    let also : take i forms ++ f ∷ [] ≡ take (suc i) forms = ap (λ (t : List ℕ). take i forms ++ t ∷ []) has ∙ sym (take-suc forms i v under) in
    let far : take (suc i) forms ++ drop (suc i) forms ≡ forms = take-append-drop (suc i) forms in
    let begun : PartBy e size row x (take (suc i) forms) n a c p r =
    subst (λ (l : List (List ℕ)). PartBy e size row x l n a c p r) also
    (part_then e size row x (take i steps) (take i forms) (f ∷ []) mid t z a b c p q r words (all_first (FitsBlock size) i forms ok) first then) in
    subst (λ (l : List (List ℕ)). PartBy e size row x l n a c p r) far
    (part_more e size row x (take (suc i) forms) (drop (suc i) forms) n a c p r words (all_first (FitsBlock size) (suc i) forms ok) (all_behind (FitsBlock size) (suc i) forms ok) begun)

-- no more than the first so many
pub only_begun : (e : Endian) (size : ℕ) (row : List Opening) (x : Indexed) (steps : List Step) (forms : List (List ℕ)) (i : ℕ) (mid : List Opening) (z : Indexed) (a b : Option (List ℕ)) (p q : List Place)
    → size % 4 ≡ 0 → AllByRecursion (FitsBlock size) forms → PutBy e size row x (take i steps) (take i forms) mid z a b p q
    → PartBy e size row x forms (length (output_to_all e size (shares size row (take i forms)))) a b p q
only_begun e size row x steps forms i mid z a b p q words ok first =
    let n : ℕ = length (output_to_all e size (shares size row (take i forms))) in
    subst (λ (l : List (List ℕ)). PartBy e size row x l n a b p q) (take-append-drop i forms)
    (part_more e size row x (take i forms) (drop i forms) n a b p q words (all_first (FitsBlock size) i forms ok) (all_behind (FitsBlock size) i forms ok)
    (put_part e size row x (take i steps) (take i forms) mid z a b p q words (all_first (FitsBlock size) i forms ok) first))

-- where the first so many fit, and the next one
pub first_fit : (size : ℕ) (row : List Opening) (forms : List (List ℕ)) (i : ℕ) → IsTrue (fit_in size row forms) → IsTrue (fit_in size row (take i forms))
first_fit size row forms i fits =
    let near : take i forms ++ drop i forms ≡ forms = take-append-drop i forms in
    (and_parts (fit_in size row (take i forms)) (fit_in size (row_after_all size row (take i forms)) (drop i forms))
    (subst IsTrue (room_goes_on size row (take i forms) (drop i forms)) (subst (λ (l : List (List ℕ)). IsTrue (fit_in size row l)) (sym near) fits))).0

pub next_fits : (size : ℕ) (row : List Opening) (forms : List (List ℕ)) (i : ℕ) (v f : List ℕ) (now : List Opening) → i < length forms → f ≡ get_or forms i v → IsTrue (fit_in size row forms)
    → now ≡ row_after_all size row (take i forms) → IsTrue (fit_in size now (f ∷ []))
next_fits size row forms i v f now below is fits now_is =
    let both : take (suc i) forms ≡ take i forms ++ f ∷ [] = take-suc forms i v below ∙ ap (λ (g : List ℕ). take i forms ++ g ∷ []) (sym is) in
    let near : IsTrue (fit_in size row (take i forms ++ f ∷ [])) = subst (λ (l : List (List ℕ)). IsTrue (fit_in size row l)) both (first_fit size row forms (suc i) fits) in
    subst (λ (r : List Opening). IsTrue (fit_in size r (f ∷ []))) (sym now_is)
    (and_parts (fit_in size row (take i forms)) (fit_in size (row_after_all size row (take i forms)) (f ∷ [])) (subst IsTrue (room_goes_on size row (take i forms) (f ∷ [])) near)).1

-- some bytes went out for them
pub some_out : (e : Endian) (size : ℕ) (row : List Opening) (forms : List (List ℕ)) (i : ℕ) → AllByRecursion (FitsBlock size) forms → IsTrue (fit_in size row forms) → 0 < i → i < length forms
    → 0 < length (output_to_all e size (shares size row (take i forms)))
some_out e size row [] i ok fits some below = absurd (omega arith)
some_out e size row (f ∷ forms) zero ok fits some below = absurd (omega arith)
some_out e size row (f ∷ forms) (suc i) ok fits some below =
    let one : IsTrue (fit_in size row (f ∷ [])) = first_fit size row (f ∷ forms) 1 fits in
    let at : Reached size row (length f) = fit_reached size row f one in
    let o : Opening = at.opening in
    let goes = goes_to e size row f o at.rest at.is in
    let len : ℕ = length f in
    let front : List ℕ = gap e size o.place (place_after size o.place len) in
    let alone : List ℕ = output_to_all e size (shares size row (f ∷ [])) in
    let rest : List ℕ = output_to_all e size (shares size (row_after size row f) (take i forms)) in
    let long : length alone ≡ length (front ++ filled f) = ap length goes.output ∙ ap length (append-nil (front ++ filled f)) in
    omega (arith, ap length (output_step e size row f (take i forms)), length-append alone rest, long, length-append front (filled f), length-append f (erased (pad4_of len - len)), ok.0.some)

-- a call after it put nothing
pub still : (e : Endian) (size : ℕ) (row : List Opening) (x : Indexed) (forms : List (List ℕ)) (t : ℕ) (a b c : Option (List ℕ)) (p q r : List Place)
    → PartBy e size row x forms t a b p q → Appends b c [] → r ≡ q → PartBy e size row x forms t a c p r
still e size row x forms t a b c p q r begun none same =
    let out : List ℕ = take t (output_to_all e size (shares size row forms)) in
    record {
      within = begun.within;
      bytes = subst (Appends a c) (append-nil out) (Appends-trans a b c _ _ begun.bytes none);
      places = same ∙ begun.places;
    }

-- none is put, and none after that
pub nothing : (e : Endian) (size : ℕ) (row : List Opening) (x : Indexed) (steps : List Step) (forms : List (List ℕ)) (i : ℕ) (mid next : List Opening) (z y : Indexed) (a b c : Option (List ℕ)) (p q r : List Place)
    → i ≡ 0 → PutBy e size row x (take i steps) (take i forms) mid z a b p q → next ≡ mid → y ≡ z → Appends b c [] → r ≡ q
    → (next ≡ row) × (y ≡ x) × Appends a c [] × (r ≡ p)
nothing e size row x steps forms i mid next z y a b c p q r zero_is first ends on none same =
    let is : PutBy e size row x [] [] mid z a b p q = subst (λ (n : ℕ). PutBy e size row x (take n steps) (take n forms) mid z a b p q) zero_is first in
    let bytes : Appends a b [] = subst (Appends a b) (no_output e size row) is.bytes in
    let told : q ≡ p = is.places ∙ (ap (λ (l : List (ℕ × ℕ)). p ++ map shown_place l) (no_places size row) ∙ append-nil p) in
    (ends ∙ is.row, on ∙ is.index, subst (Appends a c) (append-nil []) (Appends-trans a b c _ _ bytes none), same ∙ told)

-- ---- the answers of putting, by cases

pub at_sink : (e : Endian) (size : ℕ) (row : List Opening) (x : Indexed) (steps : List Step) (forms : List (List ℕ)) (next : List Opening) (y : Indexed) (a b : Option (List ℕ)) (f n : ℕ) (p q : List Place) (r : Result (Unit {0}) Stop)
    → r ≡ Err stop.Sink → PutsBy e size row x steps forms next y a b f n p q r → ((t : ℕ) × PartBy e size row x forms t a b p q) × (n ≡ next_count f)
at_sink e size row x steps forms next y a b f n p q r is did = subst (PutsBy e size row x steps forms next y a b f n p q) is did

pub at_begun : (e : Endian) (size : ℕ) (row : List Opening) (x : Indexed) (steps : List Step) (forms : List (List ℕ)) (next : List Opening) (y : Indexed) (a b : Option (List ℕ)) (f n : ℕ) (p q : List Place) (r : Result (Unit {0}) Stop)
    → r ≡ Err stop.Begun → PutsBy e size row x steps forms next y a b f n p q r → ((t : ℕ) × (0 < t) × PartBy e size row x forms t a b p q) × (n ≡ f)
at_begun e size row x steps forms next y a b f n p q r is did = subst (PutsBy e size row x steps forms next y a b f n p q) is did

pub at_unbegun : (e : Endian) (size : ℕ) (row : List Opening) (x : Indexed) (steps : List Step) (forms : List (List ℕ)) (next : List Opening) (y : Indexed) (a b : Option (List ℕ)) (f n : ℕ) (p q : List Place) (r : Result (Unit {0}) Stop)
    → r ≡ Err stop.Unbegun → PutsBy e size row x steps forms next y a b f n p q r → (next ≡ row) × (y ≡ x) × Appends a b [] × (q ≡ p) × (n ≡ f)
at_unbegun e size row x steps forms next y a b f n p q r is did = subst (PutsBy e size row x steps forms next y a b f n p q) is did

pub at_ok : (u : Unit {0}) (e : Endian) (size : ℕ) (row : List Opening) (x : Indexed) (steps : List Step) (forms : List (List ℕ)) (next : List Opening) (y : Indexed) (a b : Option (List ℕ)) (f n : ℕ) (p q : List Place) (r : Result (Unit {0}) Stop)
    → r ≡ Ok u → PutsBy e size row x steps forms next y a b f n p q r → PutBy e size row x steps forms next y a b p q × (n ≡ f)
at_ok u e size row x steps forms next y a b f n p q r is did = subst (PutsBy e size row x steps forms next y a b f n p q) is did

pub grows_unbegun : (e : Endian) (size : ℕ) (row : List Opening) (forms : List (List ℕ)) (ss ts : List Stretch) (r : Result (Unit {0}) Stop) → r ≡ Err stop.Unbegun → GrowsBy e size row forms ss ts r → ts ≡ ss
grows_unbegun e size row forms ss ts r is did = subst (GrowsBy e size row forms ss ts) is did
