-- Which nodes are intact after a cut: the first ones, as many as are intact.
use Rattle.std.proofs.Common.{◌≡◌, ◌≢◌, ℕ, zero, suc, ◌+◌, ◌-◌, ◌*◌, ◌/◌, ◌%◌, ◌<◌, ◌≤◌, leb, cond, Bool, true, false, List, [], ◌∷◌, ◌++◌, length, take, drop, map, slice_index, refl, sym, ap, ap₂, subst, ◌∙◌, arith, inl, inr, append_assoc, length-append}
use Rattle.std.specs.Prelude.{filter, bytes_eq}
use Rattle.std.specs.List.{AllByRecursion}
use Rattle.std.proofs.lemmas.Bool.{cases_Bool, cases_lt, cond-true, cond-false, le-leb, lt-leb, false_from_ne_true, both_ways}
use Rattle.std.proofs.lemmas.List.{take_at, drop_at, drop-drop, take-replicate, length-take-le, length-replicate, take-append-le}
use Rattle.std.proofs.lemmas.List.Sums.{length-filter}
use Rattle.std.proofs.Math.Seq.{take-append-add}
use Rattle.std.proofs.lemmas.Slice.Eq.{bytes_eq-Decides}
use Rattle.flashbase.specs.Bytes.{pad4_of, erased}
use Rattle.flashbase.proofs.BytesLemmas.{le_pad4, pad4_words}
use Rattle.jnode.specs.Weak.{torn}
use Rattle.jnode.specs.Writing.{canonical, clean_marker, filled}
use Rattle.jnode.specs.declared.node.NodeRef.{NodeRef}
use Rattle.jnode.specs.declared.order.Endian.{Endian}
use Rattle.jnode.proofs.WritingLemmas.{canonical_long, canonical_is_not_erased, length-filled}
use Rattle.jnode.proofs.WeakLemmas.{behind}
use Rattle.jlog.specs.Places.{IsLeastPlace, ArePlaces, place_after, end_after, places, end_of_all}
use Rattle.jlog.specs.Output.{gap, output}
use Rattle.jlog.specs.Left.{bytes_at, is_whole, intact}
use Rattle.jlog.specs.Laws.{FitsBlock, PlacesAreLeast, OutputIsLong, IntactIsCounted, WholeIsBeginning, AllIsIntact}
use Rattle.jlog.specs.LeftLaws.{IsStorable, IsLoggable}
use Rattle.jlog.proofs.PlaceLemmas.{pad4_same, pad4_behind, place_same, times_words, place_is_least, in_block}
use Rattle.jlog.proofs.OutputLemmas.{places_skip}
use Rattle.jlog.proofs.SightLemmas.{marker_long}
use Rattle.jlog.proofs.HereLemmas.{torn_all}

-- ---- places

same_word : (size a b : ℕ) (nodes : List (List ℕ)) → pad4_of a ≡ pad4_of b → places size a nodes ≡ places size b nodes
same_word size a b [] same = refl
same_word size a b (node ∷ nodes) same = places_skip size a b node nodes (place_same size a b (length node) same)

pub places_are_least : PlacesAreLeast
places_are_least size from [] words ok = tt
places_are_least size from (node ∷ nodes) words ok =
    let len : ℕ = length node in
    let at : ℕ = place_after size from len in
    let least : IsLeastPlace size from len at = place_is_least size from len words ok.0.some ok.0.within in
    let up : pad4_of (at + len) ≡ at + pad4_of len = pad4_behind at len least.place.aligned in
    let whole : pad4_of (at + pad4_of len) ≡ at + pad4_of len = pad4_same (at + pad4_of len) (omega (arith, least.place.aligned, pad4_words len)) in
    (least, refl, subst (ArePlaces size (at + len) nodes) (same_word size (at + len) (at + pad4_of len) nodes (up ∙ sym whole)) (places_are_least size (at + len) nodes words ok.1))

-- they all are at or after the address from which on they are taken
places_up : (size low from : ℕ) (nodes : List (List ℕ)) → size % 4 ≡ 0 → AllByRecursion (FitsBlock size) nodes → low ≤ from → AllByRecursion (λ (place : ℕ × ℕ). low ≤ place.0) (places size from nodes)
places_up size low from [] words ok up = tt
places_up size low from (node ∷ nodes) words ok up =
    let len : ℕ = length node in
    let behind_it : from ≤ place_after size from len = (place_is_least size from len words ok.0.some ok.0.within).place.upwards in
    (omega arith, places_up size low (end_after size from len) nodes words ok.1 (omega arith))

-- ---- how long what goes out is

gap_long : (e : Endian) (size from at len : ℕ) → size % 4 ≡ 0 → 0 < len → 12 + len ≤ size → IsLeastPlace size from len at → length (gap e size from at) ≡ at - from
gap_long e size from at len words some room is =
    let q : ℕ = at / size in
    let start : ℕ = q * size in
    elim (cases_lt start from) [
      | inl inside ↦
          ap length (cond-false (leb from start) (erased (start - from) ++ clean_marker e) (erased (at - from)) (lt-leb from start inside)) ∙ length-replicate (at - from) 0xFF
      | inr before ↦
          let whole : start % 4 ≡ 0 = times_words q size words in
          let first : at ≤ start + 12 = is.least (start + 12) (in_block size from len (start + 12) q (omega arith) (omega arith) (omega arith) (omega arith) some) in
          let least : start + 12 ≤ at = is.place.behind_marker in
          ap length (cond-true (leb from start) (erased (start - from) ++ clean_marker e) (erased (at - from)) (le-leb from start before))
          ∙ (length-append (erased (start - from)) (clean_marker e) ∙ omega (arith, length-replicate {A = ℕ} (start - from) 0xFF, marker_long e))
    ]

pub first_gap : (e : Endian) (size from : ℕ) (node : List ℕ) → size % 4 ≡ 0 → FitsBlock size node
    → from + length (gap e size from (place_after size from (length node))) ≡ place_after size from (length node)
first_gap e size from node words ok =
    let least = place_is_least size from (length node) words ok.some ok.within in
    omega (arith, gap_long e size from (place_after size from (length node)) (length node) words ok.some ok.within least, least.place.upwards)

pub first_out : (e : Endian) (size from : ℕ) (node : List ℕ) → size % 4 ≡ 0 → FitsBlock size node
    → from + length (gap e size from (place_after size from (length node)) ++ filled node) ≡ end_after size from (length node)
first_out e size from node words ok =
    omega (arith, length-append (gap e size from (place_after size from (length node))) (filled node), length-filled node, first_gap e size from node words ok)

pub output_is_long : OutputIsLong
output_is_long e size from [] words ok = omega arith
output_is_long e size from (node ∷ nodes) words ok =
    let front : List ℕ = gap e size from (place_after size from (length node)) ++ filled node in
    let end : ℕ = end_after size from (length node) in
    let rest : end + length (output e size end nodes) ≡ end_of_all size end nodes = output_is_long e size end nodes words ok.1 in
    omega (arith, length-append front (output e size end nodes), first_out e size from node words ok.0, rest)

-- ---- what a cut leaves after a front, and in it

torn_behind : (front out : List ℕ) (k : ℕ) → drop (length front) (torn (front ++ out) k) ≡ torn out (k - length front)
torn_behind front out k =
    let f : ℕ = length front in
    let all : length (front ++ out) ≡ f + length out = length-append front out in
    elim (cases_lt k f) [
      | inl inside ↦
          let cut : length (take k front) ≡ k = length-take-le k front (omega arith) in
          let gone : ℕ = length (front ++ out) - k in
          let none : k - f ≡ 0 = omega arith in
          ap (λ (xs : List ℕ). drop f (xs ++ erased gone)) (take-append-le k front out (omega arith))
          ∙ (behind (take k front) gone f (omega arith)
          ∙ (ap erased (omega (arith, cut, all)) ∙ ap (torn out) (sym none)))
      | inr past ↦
          let j : ℕ = k - f in
          let sum : f + j ≡ k = omega arith in
          let cut : take k (front ++ out) ≡ front ++ take j out = ap (λ (i : ℕ). take i (front ++ out)) (sym sum) ∙ take-append-add front out j in
          ap (λ (xs : List ℕ). drop f (xs ++ erased (length (front ++ out) - k))) cut
          ∙ (ap (drop f) (append_assoc front (take j out) (erased (length (front ++ out) - k)))
          ∙ (drop_at front (take j out ++ erased (length (front ++ out) - k)) f refl
          ∙ ap (λ (i : ℕ). take j out ++ erased i) (omega (arith, all))))
    ]

torn_front : (node more : List ℕ) (k : ℕ) → take (length node) (torn (node ++ more) k) ≡ torn node k
torn_front node more k =
    let f : ℕ = length node in
    let all : length (node ++ more) ≡ f + length more = length-append node more in
    let gone : ℕ = length (node ++ more) - k in
    elim (cases_lt k f) [
      | inl inside ↦
          let cut : length (take k node) ≡ k = length-take-le k node (omega arith) in
          let sum : length (take k node) + (f - k) ≡ f = omega arith in
          ap (λ (xs : List ℕ). take f (xs ++ erased gone)) (take-append-le k node more (omega arith))
          ∙ (ap (λ (i : ℕ). take i (take k node ++ erased gone)) (sym sum)
          ∙ (take-append-add (take k node) (erased gone) (f - k)
          ∙ ap (λ (xs : List ℕ). take k node ++ xs) (take-replicate (f - k) gone 0xFF (omega (arith, all)))))
      | inr past ↦
          let j : ℕ = k - f in
          let sum : f + j ≡ k = omega arith in
          let cut : take k (node ++ more) ≡ node ++ take j more = ap (λ (i : ℕ). take i (node ++ more)) (sym sum) ∙ take-append-add node more j in
          ap (λ (xs : List ℕ). take f (xs ++ erased gone)) cut
          ∙ (ap (take f) (append_assoc node (take j more) (erased gone))
          ∙ (take_at node (take j more ++ erased gone) f refl ∙ sym (torn_all node k past)))
    ]

-- ---- whole nodes

-- whether a node stands whole is seen from the address that a front of what goes out ends at
whole_on : (from k : ℕ) (front out : List ℕ) (place : ℕ × ℕ) → from + length front ≤ place.0
    → is_whole from (front ++ out) k place ≡ is_whole (from + length front) out (k - length front) place
whole_on from k front out place up =
    let f : ℕ = length front in
    let i : ℕ = place.0 - (from + f) in
    let at : place.0 - from ≡ f + i = omega arith in
    let left : bytes_at from (torn (front ++ out) k) place ≡ bytes_at (from + f) (torn out (k - f)) place =
    ap (λ (n : ℕ). take place.1 (drop n (torn (front ++ out) k))) at
    ∙ (ap (take place.1) (sym (drop-drop i f (torn (front ++ out) k))) ∙ ap (λ (xs : List ℕ). take place.1 (drop i xs)) (torn_behind front out k)) in
    let whole : bytes_at from (front ++ out) place ≡ bytes_at (from + f) out place =
    ap (λ (n : ℕ). take place.1 (drop n (front ++ out))) at
    ∙ (ap (take place.1) (sym (drop-drop i f (front ++ out))) ∙ ap (λ (xs : List ℕ). take place.1 (drop i xs)) (drop_at front out f refl)) in
    ap₂ bytes_eq left whole

whole_node : (at k : ℕ) (node out : List ℕ) → is_whole at (filled node ++ out) k (at, length node) ≡ bytes_eq (torn node k) node
whole_node at k node out =
    let more : List ℕ = erased (pad4_of (length node) - length node) ++ out in
    let is : filled node ++ out ≡ node ++ more = append_assoc node (erased (pad4_of (length node) - length node)) out in
    let none : at - at ≡ 0 = omega arith in
    ap₂ bytes_eq
    (ap (λ (n : ℕ). take (length node) (drop n (torn (filled node ++ out) k))) none ∙ (ap (λ (xs : List ℕ). take (length node) (torn xs k)) is ∙ torn_front node more k))
    (ap (λ (n : ℕ). take (length node) (drop n (filled node ++ out))) none ∙ (ap (take (length node)) is ∙ take_at node more (length node) refl))

whole_first : (e : Endian) (size from k : ℕ) (node : List ℕ) (nodes : List (List ℕ)) → size % 4 ≡ 0 → FitsBlock size node
    → is_whole from (output e size from (node ∷ nodes)) k (place_after size from (length node), length node)
    ≡ bytes_eq (torn node (k - (place_after size from (length node) - from))) node
whole_first e size from k node nodes words ok =
    let at : ℕ = place_after size from (length node) in
    let g : List ℕ = gap e size from at in
    let rest : List ℕ = output e size (end_after size from (length node)) nodes in
    let sum : from + length g ≡ at = first_gap e size from node words ok in
    ap (λ (out : List ℕ). is_whole from out k (at, length node)) (append_assoc g (filled node) rest)
    ∙ (whole_on from k g (filled node ++ rest) (at, length node) (omega arith)
    ∙ (ap₂ (λ (c i : ℕ). is_whole c (filled node ++ rest) (k - i) (at, length node)) sum (omega (arith, sum))
    ∙ whole_node at (k - (at - from)) node rest))

filter_on : (from k : ℕ) (front out : List ℕ) (ps : List (ℕ × ℕ)) → AllByRecursion (λ (place : ℕ × ℕ). from + length front ≤ place.0) ps
    → filter (is_whole from (front ++ out) k) ps ≡ filter (is_whole (from + length front) out (k - length front)) ps
filter_on from k front out [] up = refl
filter_on from k front out (place ∷ ps) up =
    ap₂ (λ (b : Bool) (l : List (ℕ × ℕ)). cond b (place ∷ l) l) (whole_on from k front out place up.0) (filter_on from k front out ps up.1)

-- without a byte none stands
erased_differs : (node : List ℕ) → 0 < length node → slice_index node 0 ≢ 0xFF → bytes_eq (torn node 0) node ≡ false
erased_differs node some written =
    let long : length node - 0 ≡ suc (length node - 1) = omega arith in
    let first : slice_index (torn node 0) 0 ≡ 0xFF = ap (λ (n : ℕ). slice_index (take 0 node ++ erased n) 0) long in
    false_from_ne_true _ (λ same.
    let is : torn node 0 ≡ node = (bytes_eq-Decides _ _).0 same in
    written (sym (ap (λ (xs : List ℕ). slice_index xs 0) is) ∙ first))

intact_none : (size c k : ℕ) (nodes : List (List ℕ)) → AllByRecursion (FitsBlock size) nodes → k ≡ 0 → intact size c k nodes ≡ 0
intact_none size c k [] ok is = refl
intact_none size c k (node ∷ nodes) ok is =
    let at : ℕ = place_after size c (length node) in
    let none : k - (at - c) ≡ 0 = omega arith in
    cond-false (bytes_eq (torn node (k - (at - c))) node) _ 0 (ap (λ (i : ℕ). bytes_eq (torn node i) node) none ∙ erased_differs node ok.0.some ok.0.written)

-- The nodes that are intact are the first ones, as many as are intact.
pub whole_is_beginning : WholeIsBeginning
whole_is_beginning e size from k [] words ok = nothing_intact (intact size from k [])
  where
    nothing_intact : (n : ℕ) → ([] ≡ take {A = ℕ × ℕ} n [])
    nothing_intact zero = refl
    nothing_intact (suc n) = refl
whole_is_beginning e size from k (node ∷ nodes) words ok =
    let len : ℕ = length node in
    let at : ℕ = place_after size from len in
    let end : ℕ = end_after size from len in
    let front : List ℕ = gap e size from at ++ filled node in
    let rest : List ℕ = output e size end nodes in
    let ps : List (ℕ × ℕ) = places size end nodes in
    let j : ℕ = k - (end - from) in
    let later : ℕ = intact size end j nodes in
    let sum : from + length front ≡ end = first_out e size from node words ok.0 in
    let less : length front ≡ end - from = omega (arith, sum) in
    let behind_it : filter (is_whole from (front ++ rest) k) ps ≡ take later ps =
    filter_on from k front rest ps (places_up size (from + length front) end nodes words ok.1 (omega (arith, sum)))
    ∙ (ap₂ (λ (c i : ℕ). filter (is_whole c rest (k - i)) ps) sum less ∙ whole_is_beginning e size end j nodes words ok.1) in
    let first = whole_first e size from k node nodes words ok.0 in
    let up : from ≤ at = (place_is_least size from len words ok.0.some ok.0.within).place.upwards in
    elim (cases_Bool (bytes_eq (torn node (k - (at - from))) node)) [
      | inl whole ↦
          ap₂ (λ (b : Bool) (l : List (ℕ × ℕ)). cond b ((at, len) ∷ l) l) (first ∙ whole) behind_it
          ∙ sym (ap (λ (n : ℕ). take n ((at, len) ∷ ps)) (cond-true (bytes_eq (torn node (k - (at - from))) node) (suc later) 0 whole))
      | inr cut ↦
          let few : k - (at - from) < len = elim (cases_lt (k - (at - from)) len) [
            | inl fewer ↦ fewer
            | inr all ↦ absurd (both_ways _ cut ((bytes_eq-Decides _ _).1 (torn_all node (k - (at - from)) all)))
          ] in
          let none : later ≡ 0 = intact_none size end j nodes ok.1 (omega (arith, few, le_pad4 len)) in
          ap₂ (λ (b : Bool) (l : List (ℕ × ℕ)). cond b ((at, len) ∷ l) l) (first ∙ cut) (behind_it ∙ ap (λ (n : ℕ). take n ps) none)
          ∙ sym (ap (λ (n : ℕ). take n ((at, len) ∷ ps)) (cond-false (bytes_eq (torn node (k - (at - from))) node) (suc later) 0 cut))
    ]

-- ---- how many they are

intact_most : (size from k : ℕ) (nodes : List (List ℕ)) → intact size from k nodes ≤ length (places size from nodes)
intact_most size from k [] = omega arith
intact_most size from k (node ∷ nodes) =
    let at : ℕ = place_after size from (length node) in
    let end : ℕ = end_after size from (length node) in
    let later : ℕ = intact size end (k - (end - from)) nodes in
    let most : later ≤ length (places size end nodes) = intact_most size end (k - (end - from)) nodes in
    elim (cases_Bool (bytes_eq (torn node (k - (at - from))) node)) [
      | inl whole ↦ rw whole (omega (arith, most))
      | inr cut ↦ rw cut (omega arith)
    ]

pub intact_is_counted : IntactIsCounted
intact_is_counted e size from k nodes words ok =
    sym (length-filter (is_whole from (output e size from nodes) k) (places size from nodes))
    ∙ (ap length (whole_is_beginning e size from k nodes words ok)
    ∙ length-take-le (intact size from k nodes) (places size from nodes) (intact_most size from k nodes))

pub all_is_intact : AllIsIntact
all_is_intact e size from k [] words ok all = refl
all_is_intact e size from k (node ∷ nodes) words ok all =
    let len : ℕ = length node in
    let at : ℕ = place_after size from len in
    let end : ℕ = end_after size from len in
    let front : List ℕ = gap e size from at ++ filled node in
    let rest : List ℕ = output e size end nodes in
    let long : length front + length rest ≤ k = omega (arith, all, length-append front rest) in
    let sum : from + length front ≡ end = first_out e size from node words ok.0 in
    let up : from ≤ at = (place_is_least size from len words ok.0.some ok.0.within).place.upwards in
    let first : bytes_eq (torn node (k - (at - from))) node ≡ true = (bytes_eq-Decides _ _).1 (torn_all node (k - (at - from)) (omega (arith, long, sum, le_pad4 len))) in
    let one_more : intact size from k (node ∷ nodes) ≡ suc (intact size end (k - (end - from)) nodes) =
    cond-true (bytes_eq (torn node (k - (at - from))) node) (suc (intact size end (k - (end - from)) nodes)) 0 first in
    one_more ∙ ap suc (all_is_intact e size end (k - (end - from)) nodes words ok.1 (omega (arith, long, sum)))

-- ---- what may be written has room

pub storable : (e : Endian) (size : ℕ) (xs : List NodeRef) → AllByRecursion (IsLoggable e size) xs → AllByRecursion (IsStorable e size) xs
storable e size [] ok = tt
storable e size (x ∷ xs) ok = (record { fits = ok.0.fits; writable = ok.0.writable; room = ok.0.room }, storable e size xs ok.1)

pub storable_has_room : (e : Endian) (size : ℕ) (xs : List NodeRef) → AllByRecursion (IsStorable e size) xs → AllByRecursion (FitsBlock size) (map (canonical e) xs)
storable_has_room e size [] ok = tt
storable_has_room e size (x ∷ xs) ok =
    (record { some = omega (arith, canonical_long e x); written = canonical_is_not_erased e x; within = ok.0.room }, storable_has_room e size xs ok.1)

pub has_room : (e : Endian) (size : ℕ) (xs : List NodeRef) → AllByRecursion (IsLoggable e size) xs → AllByRecursion (FitsBlock size) (map (canonical e) xs)
has_room e size xs ok = storable_has_room e size xs (storable e size xs ok)
