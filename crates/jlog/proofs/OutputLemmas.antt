-- What goes out, what is kept and where nodes are placed, one node at a time.
use Rattle.std.proofs.Common.{◌≡◌, ℕ, suc, ◌+◌, ◌-◌, ◌*◌, ◌%◌, ◌<◌, ◌≤◌, leb, cond, List, [], ◌∷◌, ◌++◌, length, refl, sym, ap, ap₂, ◌∙◌, arith, append_assoc}
use Rattle.std.specs.Prelude.{bytes_eq}
use Rattle.std.proofs.lemmas.Bool.{cond-true, cond-false, le-leb, lt-leb}
use Rattle.std.proofs.lemmas.List.{append-nil}
use Rattle.flashbase.specs.Bytes.{pad4_of, erased}
use Rattle.jnode.specs.Weak.{torn}
use Rattle.jnode.specs.Writing.{clean_marker, filled}
use Rattle.jnode.specs.declared.order.Endian.{Endian}
use Rattle.jlog.specs.Places.{place_after, end_after, places, end_of_all}
use Rattle.jlog.specs.Output.{gap, output}
use Rattle.jlog.specs.Left.{intact}
use Rattle.jlog.specs.Laws.{OutputGoesOn, OneMoreGoesOut}
use Rattle.jlog.specs.Forms.{placed_forms}
use Rattle.jlog.proofs.PlaceLemmas.{div_at, place_here, place_front, place_over}

-- ---- more nodes go on where the earlier ones end

-- what goes out for one node
first_out : Endian → ℕ → ℕ → List ℕ → List ℕ
first_out e size from node = gap e size from (place_after size from (length node)) ++ filled node

output_on : (e : Endian) (size from : ℕ) (xs ys : List (List ℕ)) → output e size from (xs ++ ys) ≡ output e size from xs ++ output e size (end_of_all size from xs) ys
output_on e size from [] ys = refl
output_on e size from (x ∷ xs) ys =
    let front : List ℕ = gap e size from (place_after size from (length x)) in
    let end : ℕ = end_after size from (length x) in
    ap (λ (r : List ℕ). front ++ filled x ++ r) (output_on e size end xs ys)
    ∙ sym (append_assoc (front ++ filled x) (output e size end xs) (output e size (end_of_all size end xs) ys))

pub places_on : (size from : ℕ) (xs ys : List (List ℕ)) → places size from (xs ++ ys) ≡ places size from xs ++ places size (end_of_all size from xs) ys
places_on size from [] ys = refl
places_on size from (x ∷ xs) ys =
    ap (λ (r : List (ℕ × ℕ)). (place_after size from (length x), length x) ∷ r) (places_on size (end_after size from (length x)) xs ys)

end_on : (size from : ℕ) (xs ys : List (List ℕ)) → end_of_all size from (xs ++ ys) ≡ end_of_all size (end_of_all size from xs) ys
end_on size from [] ys = refl
end_on size from (x ∷ xs) ys = end_on size (end_after size from (length x)) xs ys

pub output_goes_on : OutputGoesOn
output_goes_on e size from xs ys = record { output = output_on e size from xs ys; places = places_on size from xs ys; end = end_on size from xs ys }

pub one_more_goes_out : OneMoreGoesOut
one_more_goes_out e size from nodes node =
    let c : ℕ = end_of_all size from nodes in
    let one : List ℕ = gap e size c (place_after size c (length node)) ++ filled node in
    record {
      output = output_on e size from nodes (node ∷ []) ∙ ap (λ (r : List ℕ). output e size from nodes ++ r) (append-nil one);
      places = places_on size from nodes (node ∷ []);
      end = end_on size from nodes (node ∷ []);
    }

-- ---- what goes out for a node

gap_by : Endian → ℕ → ℕ → ℕ → ℕ → List ℕ
gap_by e size from at q = cond (leb from (q * size)) (erased (q * size - from) ++ clean_marker e) (erased (at - from))

gap_in : (e : Endian) (size from at q : ℕ) → q * size ≤ at → at < q * size + size → gap e size from at ≡ gap_by e size from at q
unfolding gap_by
gap_in e size from at q low high = ap (λ (b : ℕ). gap_by e size from at b) (div_at at q size low high)

-- none in front of a node at the cursor
gap_here : (e : Endian) (size c d : ℕ) → d * size + 12 ≤ c → c < d * size + size → gap e size c c ≡ []
unfolding gap_by
gap_here e size c d low high =
    let none : c - c ≡ 0 = omega arith in
    gap_in e size c c d (omega arith) high
    ∙ (cond-false (leb c (d * size)) (erased (d * size - c) ++ clean_marker e) (erased (c - c)) (lt-leb c (d * size) (omega arith)) ∙ ap erased none)

-- else erased bytes up to the block's start, and the marker
gap_before : (e : Endian) (size c d : ℕ) → c ≤ d * size → 12 < size → gap e size c (d * size + 12) ≡ erased (d * size - c) ++ clean_marker e
unfolding gap_by
gap_before e size c d low large =
    gap_in e size c (d * size + 12) d (omega arith) (omega arith)
    ∙ cond-true (leb c (d * size)) (erased (d * size - c) ++ clean_marker e) (erased (d * size + 12 - c)) (le-leb c (d * size) low)

output_by : Endian → ℕ → ℕ → ℕ → List ℕ → List (List ℕ) → List ℕ
output_by e size c at node nodes = gap e size c at ++ filled node ++ output e size (at + pad4_of (length node)) nodes

-- in the block of the cursor
pub output_here : (e : Endian) (size c d : ℕ) (node : List ℕ) (nodes : List (List ℕ)) → c % 4 ≡ 0 → d * size + 12 ≤ c → c + length node ≤ d * size + size → 0 < length node
    → output e size c (node ∷ nodes) ≡ filled node ++ output e size (c + pad4_of (length node)) nodes
unfolding output_by
output_here e size c d node nodes words low high some =
    ap (λ (at : ℕ). output_by e size c at node nodes) (place_here size c d (length node) words low high some)
    ∙ ap (λ (g : List ℕ). g ++ filled node ++ output e size (c + pad4_of (length node)) nodes) (gap_here e size c d low (omega arith))

-- at the front of a block: its marker, and then as from after it
pub output_front : (e : Endian) (size c d : ℕ) (node : List ℕ) (nodes : List (List ℕ)) → size % 4 ≡ 0 → c ≡ d * size → (c + 12) % 4 ≡ 0 → 12 + length node ≤ size → 0 < length node
    → output e size c (node ∷ nodes) ≡ clean_marker e ++ output e size (c + 12) (node ∷ nodes)
unfolding output_by
output_front e size c d node nodes sized is words room some =
    let at : ℕ = d * size + 12 in
    let same : at ≡ c + 12 = omega arith in
    let none : d * size - c ≡ 0 = omega arith in
    ap (λ (at : ℕ). output_by e size c at node nodes) (place_front size c d (length node) sized is room some)
    ∙ (ap (λ (g : List ℕ). g ++ filled node ++ output e size (at + pad4_of (length node)) nodes)
    (gap_before e size c d (omega arith) (omega arith) ∙ ap (λ (n : ℕ). erased n ++ clean_marker e) none)
    ∙ (append_assoc (clean_marker e) (filled node) (output e size (at + pad4_of (length node)) nodes)
    ∙ (ap (λ (at : ℕ). clean_marker e ++ (filled node ++ output e size (at + pad4_of (length node)) nodes)) same
    ∙ ap (λ (r : List ℕ). clean_marker e ++ r) (sym (output_here e size (c + 12) d node nodes words (omega arith) (omega arith) some)))))

-- where the node does not fit: erased bytes, and then as from the next block
pub output_over : (e : Endian) (size c d : ℕ) (node : List ℕ) (nodes : List (List ℕ)) → size % 4 ≡ 0 → c % 4 ≡ 0 → d * size + 12 ≤ c → c ≤ d * size + size
    → d * size + size < c + length node → 12 + length node ≤ size → 0 < length node
    → output e size c (node ∷ nodes) ≡ erased (d * size + size - c) ++ output e size (d * size + size) (node ∷ nodes)
unfolding output_by
output_over e size c d node nodes sized words low high over room some =
    let at : ℕ = suc d * size + 12 in
    let next : d * size + size ≡ suc d * size = omega arith in
    let none : suc d * size - (d * size + size) ≡ 0 = omega arith in
    let rest : List ℕ = filled node ++ output e size (at + pad4_of (length node)) nodes in
    let left : output e size c (node ∷ nodes) ≡ erased (suc d * size - c) ++ (clean_marker e ++ rest) =
    ap (λ (at : ℕ). output_by e size c at node nodes) (place_over size c d (length node) sized words low high over room some)
    ∙ (ap (λ (g : List ℕ). g ++ filled node ++ output e size (at + pad4_of (length node)) nodes) (gap_before e size c (suc d) (omega arith) (omega arith))
    ∙ (append_assoc (erased (suc d * size - c) ++ clean_marker e) (filled node) (output e size (at + pad4_of (length node)) nodes)
    ∙ append_assoc (erased (suc d * size - c)) (clean_marker e) rest)) in
    let right : output e size (d * size + size) (node ∷ nodes) ≡ clean_marker e ++ rest =
    ap (λ (at : ℕ). output_by e size (d * size + size) at node nodes) (place_front size (d * size + size) (suc d) (length node) sized next room some)
    ∙ (ap (λ (g : List ℕ). g ++ filled node ++ output e size (at + pad4_of (length node)) nodes)
    (gap_before e size (d * size + size) (suc d) (omega arith) (omega arith) ∙ ap (λ (n : ℕ). erased n ++ clean_marker e) none)
    ∙ append_assoc (clean_marker e) (filled node) (output e size (at + pad4_of (length node)) nodes)) in
    left ∙ ap₂ (λ (n : ℕ) (r : List ℕ). erased (n - c) ++ r) (sym next) (sym right)

-- ---- what is kept

intact_by : ℕ → ℕ → ℕ → ℕ → List ℕ → List (List ℕ) → ℕ
intact_by size c k at node nodes =
    cond (bytes_eq (torn node (k - (at - c))) node) (suc (intact size (at + pad4_of (length node)) (k - (at + pad4_of (length node) - c)) nodes)) 0

pub intact_here : (size c d k : ℕ) (node : List ℕ) (nodes : List (List ℕ)) → c % 4 ≡ 0 → d * size + 12 ≤ c → c + length node ≤ d * size + size → 0 < length node
    → intact size c k (node ∷ nodes) ≡ cond (bytes_eq (torn node k) node) (suc (intact size (c + pad4_of (length node)) (k - pad4_of (length node)) nodes)) 0
unfolding intact_by
intact_here size c d k node nodes words low high some =
    let m : ℕ = pad4_of (length node) in
    let all : k - (c - c) ≡ k = omega arith in
    let less : k - (c + m - c) ≡ k - m = omega arith in
    ap (λ (at : ℕ). intact_by size c k at node nodes) (place_here size c d (length node) words low high some)
    ∙ ap₂ (λ (i j : ℕ). cond (bytes_eq (torn node i) node) (suc (intact size (c + m) j nodes)) 0) all less

-- it is the same from any address up to the node's place, of the bytes that went out from there on
pub intact_skips : (size c c' k : ℕ) (node : List ℕ) (nodes : List (List ℕ)) → c ≤ c' → c' ≤ place_after size c (length node) → place_after size c (length node) ≡ place_after size c' (length node)
    → intact size c k (node ∷ nodes) ≡ intact size c' (k - (c' - c)) (node ∷ nodes)
unfolding intact_by
intact_skips size c c' k node nodes up before same =
    let m : ℕ = pad4_of (length node) in
    let at : ℕ = place_after size c (length node) in
    let one : k - (at - c) ≡ k - (c' - c) - (at - c') = omega arith in
    let two : k - (at + m - c) ≡ k - (c' - c) - (at + m - c') = omega arith in
    ap₂ (λ (i j : ℕ). cond (bytes_eq (torn node i) node) (suc (intact size (at + m) j nodes)) 0) one two
    ∙ ap (λ (at : ℕ). intact_by size c' (k - (c' - c)) at node nodes) same

-- ---- where the nodes are placed

pub places_skip : (size c c' : ℕ) (node : List ℕ) (nodes : List (List ℕ)) → place_after size c (length node) ≡ place_after size c' (length node)
    → places size c (node ∷ nodes) ≡ places size c' (node ∷ nodes)
places_skip size c c' node nodes same =
    ap (λ (at : ℕ). (let ps : List (ℕ × ℕ) = (at, length node) ∷ places size (at + pad4_of (length node)) nodes in ps)) same

pub placed_skip : (size c c' : ℕ) (form : List ℕ) (forms : List (List ℕ)) → place_after size c (length form) ≡ place_after size c' (length form)
    → placed_forms size c (form ∷ forms) ≡ placed_forms size c' (form ∷ forms)
placed_skip size c c' form forms same =
    ap (λ (at : ℕ). (let ps : List (ℕ × List ℕ) = (at, form) ∷ placed_forms size (at + pad4_of (length form)) forms in ps)) same

pub placed_here : (size c d : ℕ) (form : List ℕ) (forms : List (List ℕ)) → c % 4 ≡ 0 → d * size + 12 ≤ c → c + length form ≤ d * size + size → 0 < length form
    → placed_forms size c (form ∷ forms) ≡ (c, form) ∷ placed_forms size (c + pad4_of (length form)) forms
placed_here size c d form forms words low high some =
    ap (λ (at : ℕ). (let ps : List (ℕ × List ℕ) = (at, form) ∷ placed_forms size (at + pad4_of (length form)) forms in ps)) (place_here size c d (length form) words low high some)
