-- Nodes in the bytes that go out for them.
use Rattle.std.proofs.Common.{◌≡◌, ℕ, ◌+◌, ◌-◌, ◌%◌, ◌<◌, ◌≤◌, List, [], ◌∷◌, ◌++◌, length, take, map, refl, sym, ap, ap₂, subst, ◌∙◌, arith, append_assoc, length-append}
use Rattle.std.specs.List.{AllByRecursion}
use Rattle.std.proofs.lemmas.List.{take_at, drop_at}
use Rattle.flashbase.specs.Bytes.{pad4_of, erased}
use Rattle.jnode.specs.Weak.{IsWrittenForm}
use Rattle.jnode.specs.Writing.{filled}
use Rattle.jnode.specs.declared.order.Endian.{Endian}
use Rattle.jlog.specs.Places.{place_after, end_after, places}
use Rattle.jlog.specs.Output.{gap, output}
use Rattle.jlog.specs.Left.{bytes_at}
use Rattle.jlog.specs.Laws.{FitsBlock}
use Rattle.jlog.specs.Running.{shown_place}
use Rattle.jlog.proofs.PlaceLemmas.{place_is_least}
use Rattle.jlog.proofs.IntactLemmas.{first_gap, first_out}
use Rattle.jcuts.specs.Standing.{standings, standing_at, standing_in, IsNodeIn}
use Rattle.jcuts.specs.declared.standing.Standing.{Standing}

-- a node behind what went out before it
node_is : (start at : ℕ) (before node more : List ℕ) → start + length before ≡ at
    → (bytes_at start (before ++ (filled node ++ more)) (at, length node) ≡ node) × (at - start + length node ≤ length (before ++ (filled node ++ more)))
node_is start at before node more sum =
    let pad : List ℕ = erased (pad4_of (length node) - length node) in
    let skip : length before ≡ at - start = omega arith in
    let behind : filled node ++ more ≡ node ++ (pad ++ more) = append_assoc node pad more in (
      ap (take (length node)) (drop_at before (filled node ++ more) (at - start) skip ∙ behind) ∙ take_at node (pad ++ more) (length node) refl,
      omega (arith, length-append before (filled node ++ more), length-append (filled node) more, length-append node pad),
    )

-- what goes out for nodes, regrouped around the first
regrouped : (e : Endian) (size from : ℕ) (front node : List ℕ) (nodes : List (List ℕ))
    → front ++ output e size from (node ∷ nodes) ≡ (front ++ gap e size from (place_after size from (length node))) ++ (filled node ++ output e size (end_after size from (length node)) nodes)
regrouped e size from front node nodes =
    let g : List ℕ = gap e size from (place_after size from (length node)) in
    let rest : List ℕ = output e size (end_after size from (length node)) nodes in
    ap (λ (l : List ℕ). front ++ l) (append_assoc g (filled node) rest) ∙ sym (append_assoc front g (filled node ++ rest))

-- and after it
passed : (e : Endian) (size from : ℕ) (front node : List ℕ) (nodes : List (List ℕ))
    → front ++ output e size from (node ∷ nodes) ≡ (front ++ (gap e size from (place_after size from (length node)) ++ filled node)) ++ output e size (end_after size from (length node)) nodes
passed e size from front node nodes =
    sym (append_assoc front (gap e size from (place_after size from (length node)) ++ filled node) (output e size (end_after size from (length node)) nodes))

pub standings_are_in : (e : Endian) (size start from : ℕ) (front : List ℕ) (nodes : List (List ℕ)) → size % 4 ≡ 0 → AllByRecursion (FitsBlock size) nodes → start + length front ≡ from
    → map (standing_in e start (front ++ output e size from nodes)) (map shown_place (places size from nodes)) ≡ standings e size from nodes
standings_are_in e size start from front [] words ok sum = refl
standings_are_in e size start from front (node ∷ nodes) words ok sum =
    let len : ℕ = length node in
    let at : ℕ = place_after size from len in
    let g : List ℕ = gap e size from at in
    let here : start + length (front ++ g) ≡ at = omega (arith, length-append front g, first_gap e size from node words ok.0) in
    let next : start + length (front ++ (g ++ filled node)) ≡ end_after size from len = omega (arith, length-append front (g ++ filled node), first_out e size from node words ok.0) in
    let is : bytes_at start (front ++ output e size from (node ∷ nodes)) (at, len) ≡ node =
    ap (λ (l : List ℕ). bytes_at start l (at, len)) (regrouped e size from front node nodes) ∙ (node_is start at (front ++ g) node (output e size (end_after size from len) nodes) here).0 in
    ap₂ (λ (s : Standing) (l : List Standing). s ∷ l) (ap (standing_at e at) is)
    (ap (λ (l : List ℕ). map (standing_in e start l) (map shown_place (places size (end_after size from len) nodes))) (passed e size from front node nodes)
    ∙ standings_are_in e size start (end_after size from len) (front ++ (g ++ filled node)) nodes words ok.1 next)

-- each place ends below an address
abbrev pub EndsBelow : ℕ → List (ℕ × ℕ) → Type 0
EndsBelow limit ps = AllByRecursion (λ (place : ℕ × ℕ). place.0 + place.1 < limit) ps

pub nodes_are_in : (e : Endian) (size start from : ℕ) (front : List ℕ) (nodes : List (List ℕ)) → size % 4 ≡ 0 → AllByRecursion (FitsBlock size) nodes → AllByRecursion (IsWrittenForm e) nodes
    → EndsBelow 0x1_0000_0000 (places size from nodes) → start + length front ≡ from
    → AllByRecursion (IsNodeIn e start (front ++ output e size from nodes)) (map shown_place (places size from nodes))
nodes_are_in e size start from front [] words ok written low sum = tt
nodes_are_in e size start from front (node ∷ nodes) words ok written low sum =
    let len : ℕ = length node in
    let at : ℕ = place_after size from len in
    let g : List ℕ = gap e size from at in
    let up : from ≤ at = (place_is_least size from len words ok.0.some ok.0.within).place.upwards in
    let here : start + length (front ++ g) ≡ at = omega (arith, length-append front g, first_gap e size from node words ok.0) in
    let next : start + length (front ++ (g ++ filled node)) ≡ end_after size from len = omega (arith, length-append front (g ++ filled node), first_out e size from node words ok.0) in
    let both = node_is start at (front ++ g) node (output e size (end_after size from len) nodes) here in
    let same = regrouped e size from front node nodes in (
      record {
        up = omega arith;
        within = subst (λ (l : List ℕ). at - start + len ≤ length l) (sym same) both.1;
        low = low.0;
        node = subst (IsWrittenForm e) (sym (ap (λ (l : List ℕ). bytes_at start l (at, len)) same ∙ both.0)) written.0;
      },
      subst (λ (l : List ℕ). AllByRecursion (IsNodeIn e start l) (map shown_place (places size (end_after size from len) nodes))) (sym (passed e size from front node nodes))
          (nodes_are_in e size start (end_after size from len) (front ++ (g ++ filled node)) nodes words ok.1 written.1 low.1 next),
    )
