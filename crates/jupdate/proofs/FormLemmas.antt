-- A form that is put into the block of an opening, or a beginning of it.
use Rattle.std.proofs.Common.{◌≡◌, ℕ, ◌+◌, ◌-◌, ◌*◌, ◌%◌, ◌<◌, ◌≤◌, leb, true, false, List, [], ◌∷◌, ◌++◌, length, map, take, refl, sym, ap, ◌∙◌, subst, arith, length-append, append-nil, Option, Result, Ok, Err}
use Rattle.std.specs.Prelude.{filter, is_err}
use Rattle.std.specs.Io.KnownBytes.{Appends}
use Rattle.std.proofs.KnownBytes.{Appends-trans}
use Rattle.std.proofs.Math.Seq.{take-append-add}
use Rattle.std.proofs.lemmas.Bool.{cond-true, cond-false, le-leb, lt-leb}
use Rattle.std.proofs.lemmas.List.{take-append-le}
use Rattle.flashbase.specs.Bytes.{erased}
use Rattle.flashbase.specs.Device.{Puts, PutsPart, next_count}
use Rattle.flashbase.specs.declared.sink.PutFault.{PutFault}
use Rattle.jnode.specs.declared.order.Endian.{Endian}
use Rattle.jsteps.specs.Nodes.{Indexed, advanced}
use Rattle.jsteps.specs.declared.step.Step.{Step}
use Rattle.jlog.specs.Output.{gap}
use Rattle.jlog.specs.Places.{places}
use Rattle.jlog.specs.Running.{shown_place}
use Rattle.jlog.specs.declared.report.Place.{Place}
use Rattle.jlog.proofs.StepLemmas.{clamped}
use Rattle.jpacked.proofs.Parts.{change_by}
use Rattle.jpacked.proofs.PutLemmas.{Spot}
use Rattle.jrests.specs.Shares.{share_places, output_to}
use Rattle.jrests.specs.declared.opening.Opening.{Opening}
use Rattle.jopenings.specs.After.{row_after}
use Rattle.jupdate.specs.Writing.{IsFormPart, PutsOneForm, share_places_out}
use Rattle.jupdate.proofs.OutLemmas.{on_flash, within_by}
use Rattle.jupdate.proofs.Parts.{PutBy, PartBy}
use Rattle.jupdate.proofs.RowLemmas.{GoesTo}

abbrev pub FormPart : Endian → ℕ → Opening → List ℕ → ℕ → Option (List ℕ) → Option (List ℕ) → List Place → List Place → Type 0
FormPart e size o form t old new before after = IsFormPart e size (o, form ∷ []) t before after old new

not_whole : (e : Endian) (size : ℕ) (o : Opening) (form node : List ℕ) (at pad t : ℕ) (p : List Place) → Spot e size o.place form node at pad → o.place + t < at + length node
    → p ≡ p ++ map shown_place (share_places_out size (o, form ∷ []) t)
not_whole e size o form node at pad t p spot short =
    let b : ℕ = o.block * size in
    let limit : ℕ = b + o.place + t in
    let high : limit < b + at + length node = omega arith in
    sym (append-nil p)
    ∙ ap (λ (l : List (ℕ × ℕ)). p ++ map shown_place l)
    (sym (cond-false (leb (b + at + length node) limit) ((b + at, length node) ∷ []) [] (lt-leb (b + at + length node) limit high))
    ∙ ap (λ (l : List (ℕ × ℕ)). filter (within_by limit) (map (on_flash b) l)) (sym spot.place))

whole : (e : Endian) (size : ℕ) (o : Opening) (form node : List ℕ) (at pad t : ℕ) (p : List Place) → Spot e size o.place form node at pad → at + length node ≤ o.place + t
    → p ++ shown_place (o.block * size + at, length node) ∷ [] ≡ p ++ map shown_place (share_places_out size (o, form ∷ []) t)
whole e size o form node at pad t p spot long =
    let b : ℕ = o.block * size in
    let limit : ℕ = b + o.place + t in
    let low : b + at + length node ≤ limit = omega arith in
    ap (λ (l : List (ℕ × ℕ)). p ++ map shown_place l)
    (sym (cond-true (leb (b + at + length node) limit) ((b + at, length node) ∷ []) [] (le-leb (b + at + length node) limit low))
    ∙ ap (λ (l : List (ℕ × ℕ)). filter (within_by limit) (map (on_flash b) l)) (sym spot.place))

part_by : (e : Endian) (size : ℕ) (o : Opening) (form : List ℕ) (t : ℕ) (out : List ℕ) (a b : Option (List ℕ)) (p q : List Place) → output_to e size (o, form ∷ []) ≡ out
    → t ≤ length out → Appends a b (take t out) → q ≡ p ++ map shown_place (share_places_out size (o, form ∷ []) t) → FormPart e size o form t a b p q
part_by e size o form t out a b p q is within bytes shown =
    record {
      within = subst (λ (l : List ℕ). t ≤ length l) (sym is) within;
      bytes = subst (λ (l : List ℕ). Appends a b (take t l)) (sym is) bytes;
      places = shown;
    }

-- the sink failed in the gap
pub gap_failed : (e : Endian) (size : ℕ) (o : Opening) (form node : List ℕ) (at pad : ℕ) (a b : Option (List ℕ)) (p : List Place) → Spot e size o.place form node at pad
    → PutsPart a b (gap e size o.place at) → (t : ℕ) × FormPart e size o form t a b p p
gap_failed e size o form node at pad a b p spot part =
    let front : List ℕ = gap e size o.place at in
    let rest : List ℕ = node ++ erased pad in
    let n = clamped a b front part in
    let t : ℕ = n.0 in
    let within : t ≤ length front = n.1 in (
      t,
      part_by e size o form t (front ++ rest) a b p p spot.out (omega (arith, length-append front rest))
          (subst (Appends a b) (sym (take-append-le t front rest within)) n.2)
          (not_whole e size o form node at pad t p spot (omega (arith, spot.reach, spot.some))),
    )

-- in the form
pub node_failed : (e : Endian) (size : ℕ) (o : Opening) (form node : List ℕ) (at pad k : ℕ) (a b d : Option (List ℕ)) (p : List Place) → Spot e size o.place form node at pad
    → Appends a b (gap e size o.place at) → k < length node → Appends b d (take k node) → (t : ℕ) × FormPart e size o form t a d p p
node_failed e size o form node at pad k a b d p spot first short part =
    let front : List ℕ = gap e size o.place at in
    let rest : List ℕ = node ++ erased pad in
    let t : ℕ = length front + k in
    let same : take t (front ++ rest) ≡ front ++ take k node = take-append-add front rest k ∙ ap (λ (l : List ℕ). front ++ l) (take-append-le k node (erased pad) (omega arith)) in (
      t,
      part_by e size o form t (front ++ rest) a d p p spot.out (omega (arith, length-append front rest, length-append node (erased pad)))
          (subst (Appends a d) (sym same) (Appends-trans a b d _ _ first part))
          (not_whole e size o form node at pad t p spot (omega (arith, spot.reach))),
    )

-- after it
pub pad_failed : (e : Endian) (size : ℕ) (o : Opening) (form node : List ℕ) (at pad : ℕ) (a b d f : Option (List ℕ)) (p : List Place) → Spot e size o.place form node at pad
    → Appends a b (gap e size o.place at) → Appends b d node → PutsPart d f (erased pad)
    → (t : ℕ) × FormPart e size o form t a f p (p ++ shown_place (o.block * size + at, length node) ∷ [])
pad_failed e size o form node at pad a b d f p spot first second part =
    let front : List ℕ = gap e size o.place at in
    let rest : List ℕ = node ++ erased pad in
    let n = clamped d f (erased pad) part in
    let k : ℕ = n.0 in
    let within : k ≤ length (erased pad) = n.1 in
    let t : ℕ = length front + (length node + k) in
    let same : take t (front ++ rest) ≡ front ++ (node ++ take k (erased pad)) =
    take-append-add front rest (length node + k) ∙ ap (λ (l : List ℕ). front ++ l) (take-append-add node (erased pad) k) in (
      t,
      part_by e size o form t (front ++ rest) a f p (p ++ shown_place (o.block * size + at, length node) ∷ []) spot.out
          (omega (arith, length-append front rest, length-append node (erased pad)))
          (subst (Appends a f) (sym same) (Appends-trans a b f _ _ first (Appends-trans b d f _ _ second n.2)))
          (whole e size o form node at pad t p spot (omega (arith, spot.reach))),
    )

-- all went out
pub form_put : (e : Endian) (size : ℕ) (o : Opening) (form node : List ℕ) (at pad : ℕ) (a b d f : Option (List ℕ)) (p : List Place) → Spot e size o.place form node at pad
    → Appends a b (gap e size o.place at) → Appends b d node → Appends d f (erased pad)
    → Appends a f (output_to e size (o, form ∷ [])) × (p ++ shown_place (o.block * size + at, length node) ∷ [] ≡ p ++ map shown_place (share_places size (o, form ∷ [])))
form_put e size o form node at pad a b d f p spot first second third =
    let b' : ℕ = o.block * size in (
      subst (Appends a f) (sym spot.out) (Appends-trans a b f _ _ first (Appends-trans b d f _ _ second third)),
      ap (λ (l : List (ℕ × ℕ)). p ++ map shown_place (map (on_flash b') l)) (sym spot.place),
    )

-- ---- what putting it answers

pub form_broke : (e : Endian) (size : ℕ) (o : Opening) (form : List ℕ) (a b : Option (List ℕ)) (f n : ℕ) (p q : List Place) (r : Result (Unit {0}) PutFault) → is_err r ≡ true
    → ((t : ℕ) × FormPart e size o form t a b p q) → n ≡ next_count f → PutsOneForm e size o form p q (change_by a b f n) r
form_broke e size o form a b f n p q (Ok u) bad part count = cc
form_broke e size o form a b f n p q (Err g) bad part count = (part, count)

pub form_end : (e : Endian) (size : ℕ) (o : Opening) (form node : List ℕ) (at pad : ℕ) (a b c d : Option (List ℕ)) (f k n : ℕ) (p q : List Place) (r : Result (Unit {0}) PutFault) → Spot e size o.place form node at pad
    → Appends a b (gap e size o.place at) → Appends b c node → q ≡ p ++ shown_place (o.block * size + at, length node) ∷ [] → k ≡ f → Puts c d k n (erased pad) r
    → PutsOneForm e size o form p q (change_by a d f n) r
form_end e size o form node at pad a b c d f k n p q (Ok u) spot first second shown count (bytes, still) =
    let all = form_put e size o form node at pad a b c d p spot first second bytes in
    (all.0, shown ∙ all.1, still ∙ count)
form_end e size o form node at pad a b c d f k n p q (Err g) spot first second shown count (part, broke) =
    let began = pad_failed e size o form node at pad a b c d p spot first second part in
    ((began.0, subst (FormPart e size o form began.0 a d p) (sym shown) began.1), broke ∙ ap next_count count)

pub form_failed : (e : Endian) (size : ℕ) (o : Opening) (form : List ℕ) (a b : Option (List ℕ)) (f n : ℕ) (p q : List Place) (r : Result (Unit {0}) PutFault) → is_err r ≡ true
    → PutsOneForm e size o form p q (change_by a b f n) r → ((t : ℕ) × FormPart e size o form t a b p q) × (n ≡ next_count f)
form_failed e size o form a b f n p q (Ok u) bad did = cc
form_failed e size o form a b f n p q (Err g) bad did = did

pub form_whole : (e : Endian) (size : ℕ) (o : Opening) (form : List ℕ) (a b : Option (List ℕ)) (f n : ℕ) (p q : List Place) (r : Result (Unit {0}) PutFault) → is_err r ≡ false
    → PutsOneForm e size o form p q (change_by a b f n) r → Appends a b (output_to e size (o, form ∷ [])) × (q ≡ p ++ map shown_place (share_places size (o, form ∷ []))) × (n ≡ f)
form_whole e size o form a b f n p q (Ok u) good did = did
form_whole e size o form a b f n p q (Err g) good did = cc

-- ---- the same in a row

pub part_in_row : (e : Endian) (size : ℕ) (row : List Opening) (x : Indexed) (form : List ℕ) (o : Opening) (rest : List Opening) (t : ℕ) (a b : Option (List ℕ)) (p q : List Place)
    → GoesTo e size row form o rest → FormPart e size o form t a b p q → PartBy e size row x (form ∷ []) t a b p q
part_in_row e size row x form o rest t a b p q goes part =
    record {
      within = subst (λ (l : List ℕ). t ≤ length l) (sym goes.output) part.within;
      bytes = subst (λ (l : List ℕ). Appends a b (take t l)) (sym goes.output) part.bytes;
      places = part.places ∙ ap (λ (l : List (ℕ × ℕ)). p ++ map shown_place l) (sym (goes.told t));
    }

pub put_in_row : (e : Endian) (size : ℕ) (row next : List Opening) (x y : Indexed) (s : Step) (form : List ℕ) (o : Opening) (rest : List Opening) (a b : Option (List ℕ)) (p q : List Place)
    → GoesTo e size row form o rest → next ≡ row_after size row form → y ≡ advanced x s → Appends a b (output_to e size (o, form ∷ []))
    → q ≡ p ++ map shown_place (share_places size (o, form ∷ [])) → PutBy e size row x (s ∷ []) (form ∷ []) next y a b p q
put_in_row e size row next x y s form o rest a b p q goes left on bytes shown =
    record {
      row = left;
      index = on;
      bytes = subst (Appends a b) (sym goes.output) bytes;
      places = shown ∙ ap (λ (l : List (ℕ × ℕ)). p ++ map shown_place l) (sym goes.places);
    }
