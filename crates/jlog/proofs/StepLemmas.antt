-- One step that is written, or the beginning of one.
use Rattle.std.proofs.Common.{◌≡◌, ℕ, ◌+◌, ◌-◌, ◌*◌, ◌%◌, ◌<◌, ◌≤◌, leb, Bool, true, false, List, [], ◌∷◌, ◌++◌, length, map, take, refl, sym, ap, ◌∙◌, subst, arith, length-append, take_all, Option, Result, Ok, Err}
use Rattle.std.specs.Prelude.{filter, nat_le, nat_lt, IsTrue, is_err, OnOk, IfErr, ◌&&◌, ◌==◌}
use Rattle.std.specs.Io.KnownBytes.{Appends}
use Rattle.std.proofs.KnownBytes.{Appends-trans}
use Rattle.std.proofs.Math.Seq.{take-append-add}
use Rattle.std.proofs.lemmas.Bool.{cond-true, cond-false, le-leb, lt-leb, ltb-true, ltb-false, and_parts, eqb-true}
use Rattle.std.proofs.lemmas.List.{append-nil, take-append-le}
use Rattle.flashbase.specs.Bytes.{pad4_of, erased}
use Rattle.flashbase.specs.Device.{PutsPart, Puts, next_count}
use Rattle.flashbase.specs.declared.sink.PutFault.{PutFault}
use Rattle.flashbase.proofs.BytesLemmas.{le_pad4}
use Rattle.jnode.specs.Writing.{canonical, filled}
use Rattle.jnode.specs.declared.order.Endian.{Endian}
use Rattle.jsteps.specs.Nodes.{Indexed, node_of, advanced}
use Rattle.jscan.specs.Pages.{IsPage}
use Rattle.jsteps.specs.declared.step.Step.{Step}
use Rattle.jscan.specs.Image.{is_block_size, greatest_image}
use Rattle.jlog.specs.Places.{place_after, places, end_of_all, is_writable_flash}
use Rattle.jlog.specs.Output.{gap, output}
use Rattle.jlog.specs.Laws.{FitsBlock}
use Rattle.jlog.specs.Running.{written, shown_place, places_within, CanWrite}
use Rattle.jlog.proofs.Parts.{BegunBy, WrittenBy}
use Rattle.jlog.specs.declared.report.Place.{Place}
use Rattle.jlog.proofs.IntactLemmas.{first_gap}
use Rattle.jlog.proofs.RunningLemmas.{can_room}

-- ---- answers of calls

pub failed : {T E : Type 0} (a b : Option (List ℕ)) (n m : ℕ) (l : List ℕ) (r : Result T E) → is_err r ≡ true → Puts a b n m l r → PutsPart a b l × (m ≡ next_count n)
failed a b n m l (Ok x) err puts = cc
failed a b n m l (Err e) err puts = puts

pub went : {T E : Type 0} (a b : Option (List ℕ)) (n m : ℕ) (l : List ℕ) (r : Result T E) → is_err r ≡ false → Puts a b n m l r → Appends a b l × (m ≡ n)
went a b n m l (Ok x) ok puts = puts
went a b n m l (Err e) ok puts = cc

pub on_ok : {T E P : Type 0} (r : Result T E) → is_err r ≡ false → OnOk r P → P
on_ok (Ok x) ok p = p
on_ok (Err e) ok p = cc

pub part_failed : {T : Type 0} (a b : Option (List ℕ)) (n m : ℕ) (l : List ℕ) (r : Result T PutFault) → is_err r ≡ true → Puts a b n m l r
    → IfErr r (λ fault. (fault.taken < length l) × Appends a b (take fault.taken l))
    → (k : ℕ) × (k < length l) × Appends a b (take k l) × (m ≡ next_count n)
part_failed a b n m l (Ok x) err puts part = cc
part_failed a b n m l (Err f) err puts part = (f.taken, part.0, part.1, puts.1)

pub pad4_small : (n : ℕ) → pad4_of n ≤ n + 3
unfolding pad4_of
pad4_small n = omega arith

-- a beginning is one of no more than all
pub clamped : (a b : Option (List ℕ)) (l : List ℕ) → PutsPart a b l → (n : ℕ) × (n ≤ length l) × Appends a b (take n l)
clamped a b l part = by (nat_lt (length l) part.0) refl
  where
    by : (long : Bool) → nat_lt (length l) part.0 ≡ long → (n : ℕ) × (n ≤ length l) × Appends a b (take n l)
    by true e =
        let all : take part.0 l ≡ take (length l) l = take_all part.0 l (omega (arith, ltb-true _ _ e)) ∙ sym (take_all (length l) l (omega arith)) in
        (length l, omega arith, subst (Appends a b) all part.1)
    by false e = (part.0, ltb-false _ _ e, part.1)

-- ---- where the node of a step goes, and what goes out for it

pub record Spot (e : Endian) (size c : ℕ) (x : Indexed) (s : Step) (node : List ℕ) (at pad : ℕ) : Type 0 where
  pub out : output e size c (written e x (s ∷ [])) ≡ gap e size c at ++ (node ++ erased pad)
  pub place : places size c (written e x (s ∷ [])) ≡ (at, length node) ∷ []
  pub end : end_of_all size c (written e x (s ∷ [])) ≡ at + (length node + pad)
  pub reach : c + length (gap e size c at) ≡ at
  pub some : 0 < length node

spot_by : (e : Endian) (size c : ℕ) (x : Indexed) (s : Step) → size % 4 ≡ 0 → FitsBlock size (canonical e (node_of x s))
    → Spot e size c x s (canonical e (node_of x s)) (place_after size c (length (canonical e (node_of x s)))) (pad4_of (length (canonical e (node_of x s))) - length (canonical e (node_of x s)))
spot_by e size c x s words room =
    let node : List ℕ = canonical e (node_of x s) in
    let at : ℕ = place_after size c (length node) in
    record {
      out = append-nil (gap e size c at ++ filled node);
      place = refl;
      end = omega (arith, le_pad4 (length node));
      reach = first_gap e size c node words room;
      some = room.some;
    }

pub spot_of : (page : ℕ) (e : Endian) (size c : ℕ) (x : Indexed) (s : Step) (node : List ℕ) (len at end : ℕ) → IsPage page → page + 80 ≤ size → size % 4 ≡ 0
    → CanWrite page e x s → node ≡ canonical e (node_of x s) → len ≡ length node → at ≡ place_after size c len → end ≡ pad4_of len
    → Spot e size c x s node at (end - len)
spot_of page e size c x s node len at end is_page fits words can is long placed padded =
    let room : FitsBlock size (canonical e (node_of x s)) = (can_room page e size x (s ∷ []) is_page fits (can, tt)).0 in
    let first : Spot e size c x s node (place_after size c (length node)) (pad4_of (length node) - length node) =
    subst (λ (n : List ℕ). Spot e size c x s n (place_after size c (length n)) (pad4_of (length n) - length n)) (sym is) (spot_by e size c x s words room) in
    let second : Spot e size c x s node (place_after size c len) (pad4_of len - len) =
    subst (λ (n : ℕ). Spot e size c x s node (place_after size c n) (pad4_of n - n)) (sym long) first in
    let third : Spot e size c x s node at (pad4_of len - len) = subst (λ (a : ℕ). Spot e size c x s node a (pad4_of len - len)) (sym placed) second in
    subst (λ (n : ℕ). Spot e size c x s node at (n - len)) (sym padded) third

-- ---- how far it went

-- the node is not whole
not_whole : (e : Endian) (size c : ℕ) (x : Indexed) (s : Step) (node : List ℕ) (at pad t : ℕ) (p : List Place) → Spot e size c x s node at pad
    → c + t < at + length node → p ≡ p ++ places_within e size c x (s ∷ []) t
not_whole e size c x s node at pad t p spot short =
    sym (append-nil p)
    ∙ ap (λ (l : List (ℕ × ℕ)). p ++ map shown_place l)
    (sym (cond-false (leb (at + length node) (c + t)) ((at, length node) ∷ []) [] (lt-leb (at + length node) (c + t) short))
    ∙ ap (filter (λ place. nat_le (place.0 + place.1) (c + t))) (sym spot.place))

-- the node is whole
whole : (e : Endian) (size c : ℕ) (x : Indexed) (s : Step) (node : List ℕ) (at pad t : ℕ) (p : List Place) → Spot e size c x s node at pad
    → at + length node ≤ c + t → p ++ shown_place (at, length node) ∷ [] ≡ p ++ places_within e size c x (s ∷ []) t
whole e size c x s node at pad t p spot long =
    ap (λ (l : List (ℕ × ℕ)). p ++ map shown_place l)
    (sym (cond-true (leb (at + length node) (c + t)) ((at, length node) ∷ []) [] (le-leb (at + length node) (c + t) long))
    ∙ ap (filter (λ place. nat_le (place.0 + place.1) (c + t))) (sym spot.place))

begun_by : (e : Endian) (size c : ℕ) (x : Indexed) (s : Step) (t : ℕ) (o : List ℕ) (a b : Option (List ℕ)) (p q : List Place) → output e size c (written e x (s ∷ [])) ≡ o
    → t ≤ length o → Appends a b (take t o) → q ≡ p ++ places_within e size c x (s ∷ []) t → BegunBy e size c x (s ∷ []) t a b p q
begun_by e size c x s t o a b p q is within bytes shown =
    record {
      within = subst (λ (l : List ℕ). t ≤ length l) (sym is) within;
      bytes = subst (λ (l : List ℕ). Appends a b (take t l)) (sym is) bytes;
      places = shown;
    }

-- the sink failed in the gap
pub gap_failed : (e : Endian) (size c : ℕ) (x : Indexed) (s : Step) (node : List ℕ) (at pad : ℕ) (a b : Option (List ℕ)) (p : List Place) → Spot e size c x s node at pad
    → PutsPart a b (gap e size c at) → (t : ℕ) × BegunBy e size c x (s ∷ []) t a b p p
gap_failed e size c x s node at pad a b p spot part =
    let front : List ℕ = gap e size c at in
    let rest : List ℕ = node ++ erased pad in
    let n = clamped a b front part in
    let t : ℕ = n.0 in
    let within : t ≤ length front = n.1 in (
      t,
      begun_by e size c x s t (front ++ rest) a b p p spot.out (omega (arith, length-append front rest))
          (subst (Appends a b) (sym (take-append-le t front rest within)) n.2)
          (not_whole e size c x s node at pad t p spot (omega (arith, spot.reach, spot.some))),
    )

-- in the node
pub node_failed : (e : Endian) (size c : ℕ) (x : Indexed) (s : Step) (node : List ℕ) (at pad k : ℕ) (a b d : Option (List ℕ)) (p : List Place) → Spot e size c x s node at pad
    → Appends a b (gap e size c at) → k < length node → Appends b d (take k node) → (t : ℕ) × BegunBy e size c x (s ∷ []) t a d p p
node_failed e size c x s node at pad k a b d p spot first short part =
    let front : List ℕ = gap e size c at in
    let rest : List ℕ = node ++ erased pad in
    let t : ℕ = length front + k in
    let same : take t (front ++ rest) ≡ front ++ take k node = take-append-add front rest k ∙ ap (λ (l : List ℕ). front ++ l) (take-append-le k node (erased pad) (omega arith)) in (
      t,
      begun_by e size c x s t (front ++ rest) a d p p spot.out (omega (arith, length-append front rest, length-append node (erased pad)))
          (subst (Appends a d) (sym same) (Appends-trans a b d _ _ first part))
          (not_whole e size c x s node at pad t p spot (omega (arith, spot.reach))),
    )

-- after it
pub pad_failed : (e : Endian) (size c : ℕ) (x : Indexed) (s : Step) (node : List ℕ) (at pad : ℕ) (a b d f : Option (List ℕ)) (p : List Place) → Spot e size c x s node at pad
    → Appends a b (gap e size c at) → Appends b d node → PutsPart d f (erased pad)
    → (t : ℕ) × BegunBy e size c x (s ∷ []) t a f p (p ++ shown_place (at, length node) ∷ [])
pad_failed e size c x s node at pad a b d f p spot first second part =
    let front : List ℕ = gap e size c at in
    let rest : List ℕ = node ++ erased pad in
    let n = clamped d f (erased pad) part in
    let k : ℕ = n.0 in
    let within : k ≤ length (erased pad) = n.1 in
    let t : ℕ = length front + (length node + k) in
    let same : take t (front ++ rest) ≡ front ++ (node ++ take k (erased pad)) =
    take-append-add front rest (length node + k) ∙ ap (λ (l : List ℕ). front ++ l) (take-append-add node (erased pad) k) in (
      t,
      begun_by e size c x s t (front ++ rest) a f p (p ++ shown_place (at, length node) ∷ []) spot.out (omega (arith, length-append front rest, length-append node (erased pad)))
          (subst (Appends a f) (sym same) (Appends-trans a b f _ _ first (Appends-trans b d f _ _ second n.2)))
          (whole e size c x s node at pad t p spot (omega (arith, spot.reach))),
    )

-- all went out
pub step_written : (e : Endian) (size c : ℕ) (x y : Indexed) (s : Step) (node : List ℕ) (at pad end : ℕ) (a b d f : Option (List ℕ)) (p : List Place) → Spot e size c x s node at pad
    → y ≡ advanced x s → end ≡ at + (length node + pad) → Appends a b (gap e size c at) → Appends b d node → Appends d f (erased pad)
    → WrittenBy e size c x (s ∷ []) end y a f p (p ++ shown_place (at, length node) ∷ [])
step_written e size c x y s node at pad end a b d f p spot on ends first second third =
    record {
      cursor = ends ∙ sym spot.end;
      index = on;
      bytes = subst (Appends a f) (sym spot.out) (Appends-trans a b f _ _ first (Appends-trans b d f _ _ second third));
      places = ap (λ (l : List (ℕ × ℕ)). p ++ map shown_place l) (sym spot.place);
    }

-- a block's size is whole words
pub size_words : (size blocks : ℕ) → IsTrue (is_writable_flash size blocks) → size % 4 ≡ 0
size_words size blocks ok =
    let last = and_parts (is_block_size size && nat_le 8192 size && nat_lt 0 blocks) (nat_le (blocks * size) greatest_image) ok in
    let some = and_parts (is_block_size size && nat_le 8192 size) (nat_lt 0 blocks) last.0 in
    let sizes = and_parts (is_block_size size) (nat_le 8192 size) some.0 in
    let both = and_parts (nat_le 4096 size && nat_le size 4194304) (size % 4 == 0) sizes.0 in
    eqb-true (size % 4) 0 both.1
