-- The plan of a file that gets other bytes.
use Rattle.std.proofs.Common.{◌≡◌, ℕ, ◌+◌, ◌<◌, ◌≤◌, Bool, true, false, cond, List, [], ◌∷◌, ◌++◌, length, Option, Some, refl, ap, sym, ◌∙◌, subst, arith}
use Rattle.std.specs.Prelude.{◌||◌, ◌&&◌, nat_lt, ◌==◌, ◌-◌, ◌/◌, unwrap_or, option_map, option_and_then, flat_map, take, drop}
use Rattle.std.specs.List.{list_any, AllByRecursion}
use Rattle.std.specs.Ordering.{eq_by_cmp, nat_cmp}
use Rattle.std.specs.Cmp.{nat_cmp_total, unsigned_tied}
use Rattle.std.specs.FinMap.{get, get-insert}
use Rattle.std.proofs.lemmas.Bool.{cond-true, cond-false, eq-eqb, lt-ltb, ltb-true, ltb-false}
use Rattle.jmount.specs.Shown.{top_at}
use Rattle.jmount.specs.Tree.{ObjectOf, object}
use Rattle.jmount.specs.StateOf.{version_of, owner}
use Rattle.jsteps.specs.Nodes.{Indexed, node_of, nodes_of, advanced, advanced_all}
use Rattle.jsteps.specs.Planning.{plain_page, spelling_len, piece_puts, page_puts, puts, zeros_to, write_steps, resize_steps}
use Rattle.jmount.specs.Tree.{Outline}
use Rattle.jsteps.specs.Planning.{steps_of}
use Rattle.jsteps.specs.Refusals.{greatest_size, is_past, has_bad_path, is_bad_path, is_long, is_exhausted, planned_by}
use Rattle.jsteps.specs.Site.{IsSiteOf}
use Rattle.jsteps.specs.Tests.{tests_of, kept_tests}
use Rattle.jsteps.specs.Where.{above, number_there}
use Rattle.jsteps.specs.declared.op.Op.{Op}
use Rattle.jsteps.specs.declared.op.Op.TheVariants as op
use Rattle.jsteps.specs.declared.site.Site.{Site}
use Rattle.jsteps.proofs.ChoiceLemmas.{planned_from}
use Rattle.jsteps.specs.declared.step.Step.{Step}
use Rattle.jsteps.specs.declared.step.Step.TheVariants as step
use Rattle.jsteps.proofs.PlannedLemmas.{not_past, or_none, plan_same, IsFrom}

-- each step's node is the next version of this number
pub IsNext : ℕ → Step → Type 0
IsNext ino s = (y : Indexed) → (owner (node_of y s) ≡ ino) × (version_of (node_of y s) ≡ top_at y.tops ino + 1)

pub top_after : (x : Indexed) (s : Step) (ino v : ℕ) → owner (node_of x s) ≡ ino → version_of (node_of x s) ≡ v → top_at (advanced x s).tops ino ≡ v
top_after x s ino v e f =
    let i = owner (node_of x s) in
    ap (λ (o : Option ℕ). unwrap_or o 0)
    (get-insert nat_cmp_total x.tops i (version_of (node_of x s)) ino
    ∙ cond-true (eq_by_cmp nat_cmp ino i) (Some (version_of (node_of x s))) (get x.tops ino) (unsigned_tied ino i ∙ eq-eqb ino i (sym e)))
    ∙ f

-- the greatest versions after such steps
pub own_top : (x : Indexed) (ino : ℕ) (steps : List Step) → AllByRecursion (IsNext ino) steps → top_at (advanced_all x steps).tops ino ≡ top_at x.tops ino + length steps
unfolding IsNext
own_top x ino [] all = omega arith
own_top x ino (s ∷ steps) all =
    let facts = all.0 x in
    let sum : top_at x.tops ino + 1 + length steps ≡ top_at x.tops ino + length (s ∷ steps) = omega arith in
    own_top (advanced x s) ino steps all.1 ∙ ap (λ t. t + length steps) (top_after x s ino (top_at x.tops ino + 1) facts.0 facts.1) ∙ sum

pub other_top : (x : Indexed) (ino j : ℕ) (steps : List Step) → (j == ino) ≡ false → AllByRecursion (IsNext ino) steps → top_at (advanced_all x steps).tops j ≡ top_at x.tops j
unfolding IsNext
other_top x ino j [] other all = refl
other_top x ino j (s ∷ steps) other all =
    let i = owner (node_of x s) in
    let v = version_of (node_of x s) in
    other_top (advanced x s) ino j steps other all.1
    ∙ ap (λ (o : Option ℕ). unwrap_or o 0)
    (get-insert nat_cmp_total x.tops i v j
    ∙ cond-false (eq_by_cmp nat_cmp j i) (Some v) (get x.tops j) (unsigned_tied j i ∙ ap (λ i. j == i) (all.0 x).0 ∙ other))

one_more : (b rest : Bool) (v p n : ℕ) → p ≤ 0xFFFFFFFF → b ≡ nat_lt 0xFFFFFFFF v → v ≤ n → (v ≤ 0xFFFFFFFF → rest ≡ nat_lt 0xFFFFFFFF n) → ((b || nat_lt 0xFFFFFFFF p) || rest) ≡ nat_lt 0xFFFFFFFF n
one_more true rest v p n le e more h = let past : 0xFFFFFFFF < v = ltb-true 0xFFFFFFFF v (sym e) in sym (lt-ltb 0xFFFFFFFF n (omega arith))
one_more false rest v p n le e more h = ap (λ b. b || rest) (not_past p le) ∙ h (ltb-false 0xFFFFFFFF v (sym e))

pub spent_all : (x : Indexed) (ino : ℕ) (steps : List Step) → ino ≤ 0xFFFFFFFF → AllByRecursion (IsNext ino) steps → top_at x.tops ino ≤ 0xFFFFFFFF
    → list_any is_past (nodes_of x steps) ≡ nat_lt 0xFFFFFFFF (top_at x.tops ino + length steps)
unfolding IsNext
spent_all x ino [] le all top = sym (not_past (top_at x.tops ino + 0) (omega arith))
spent_all x ino (s ∷ steps) le all top =
    let v = top_at x.tops ino + 1 in
    let facts = all.0 x in
    let after : top_at (advanced x s).tops ino ≡ v = top_after x s ino v facts.0 facts.1 in
    let sum : v + length steps ≡ top_at x.tops ino + length (s ∷ steps) = omega arith in
    one_more (nat_lt 0xFFFFFFFF (version_of (node_of x s))) (list_any is_past (nodes_of (advanced x s) steps)) v (owner (node_of x s)) (top_at x.tops ino + length (s ∷ steps))
    (subst (λ i. i ≤ 0xFFFFFFFF) (sym facts.0) le) (ap (nat_lt 0xFFFFFFFF) facts.1) (omega arith)
    (λ within. spent_all (advanced x s) ino steps le all.1 (subst (λ i. i ≤ 0xFFFFFFFF) (sym after) within) ∙ ap (λ t. nat_lt 0xFFFFFFFF (t + length steps)) after ∙ ap (nat_lt 0xFFFFFFFF) sum)

-- ---- the steps of a file

all_cond : (ino : ℕ) (b : Bool) (xs ys : List Step) → AllByRecursion (IsNext ino) xs → AllByRecursion (IsNext ino) ys → AllByRecursion (IsNext ino) (cond b xs ys)
all_cond ino true xs ys h k = h
all_cond ino false xs ys h k = k

all_append : (ino : ℕ) (xs ys : List Step) → AllByRecursion (IsNext ino) xs → AllByRecursion (IsNext ino) ys → AllByRecursion (IsNext ino) (xs ++ ys)
all_append ino [] ys h k = k
all_append ino (x ∷ xs) ys h k = (h.0, all_append ino xs ys h.1 k)

all_flat : (ino : ℕ) (f : ℕ → List Step) → ((n : ℕ) → AllByRecursion (IsNext ino) (f n)) → (ns : List ℕ) → AllByRecursion (IsNext ino) (flat_map f ns)
all_flat ino f h [] = tt
all_flat ino f h (n ∷ ns) = all_append ino (f n) (flat_map f ns) (h n) (all_flat ino f h ns)

put_next : (time ino offset : ℕ) (bytes : List ℕ) → IsNext ino (step.Put time ino offset bytes)
unfolding IsNext
put_next time ino offset bytes = λ y. (refl, refl)

zeros_next : (time ino old new : ℕ) → AllByRecursion (IsNext ino) (zeros_to time ino old new)
unfolding IsNext
zeros_next time ino old new = all_cond ino (nat_lt old new) (step.Zero time ino (new - old) ∷ []) [] ((λ y. (refl, refl)), tt) tt

piece_next : (time ino start : ℕ) (piece : List ℕ) → AllByRecursion (IsNext ino) (piece_puts time ino start piece)
piece_next time ino start piece =
    all_cond ino (length piece == spelling_len) (step.Put time ino start (take plain_page piece) ∷ step.Put time ino (start + plain_page) (drop plain_page piece) ∷ []) (step.Put time ino start piece ∷ [])
    (put_next time ino start (take plain_page piece), (put_next time ino (start + plain_page) (drop plain_page piece), tt))
    (put_next time ino start piece, tt)

pub write_next : (page time ino size offset : ℕ) (bytes : List ℕ) → AllByRecursion (IsNext ino) (write_steps page time ino size offset bytes)
write_next page time ino size offset [] = tt
write_next page time ino size offset (b ∷ bytes) =
    all_append ino (zeros_to time ino size offset) (puts page time ino offset (b ∷ bytes)) (zeros_next time ino size offset)
    (all_flat ino (λ n. page_puts page time ino offset (b ∷ bytes) (offset / page + n)) (λ n. piece_next time ino _ _) _)

pub resize_next : (time ino old new : ℕ) → AllByRecursion (IsNext ino) (resize_steps time ino old new)
unfolding IsNext
resize_next time ino old new = all_cond ino (nat_lt new old) (step.Cut time ino new ∷ []) (zeros_to time ino old new) ((λ y. (refl, refl)), tt) (zeros_next time ino old new)

kept_sites : (t : Outline) (path : List ℕ) (site : Site) (large : Bool) → IsSiteOf t path site
    → kept_tests t (is_long path) (above t path) (number_there t path) large ≡ kept_tests t site.is_long site.above site.number large
kept_sites t path site large has =
    ap (λ b. kept_tests t b (above t path) (number_there t path) large) (sym has.long)
    ∙ ap (λ r. kept_tests t site.is_long r (number_there t path) large) (sym has.above)
    ∙ ap (λ n. kept_tests t site.is_long site.above n large) (sym has.number)

pub file_from : (page : ℕ) (x : Indexed) (o : Op) (path : List ℕ) (site : Site) (large : Bool) (ino : ℕ) (steps : List Step) → IsSiteOf x.tree path site → has_bad_path o ≡ is_bad_path path
    → tests_of x.tree o ≡ kept_tests x.tree (is_long path) (above x.tree path) (number_there x.tree path) large → steps_of page x.tree o ≡ steps
    → ino ≤ 0xFFFFFFFF → AllByRecursion (IsNext ino) steps → top_at x.tops ino ≤ 0xFFFFFFFF
    → IsFrom (planned_by page x o) (kept_tests x.tree site.is_long site.above site.number large) (nat_lt 0xFFFFFFFF (top_at x.tops ino + length steps)) steps
file_from page x o path site large ino steps has bad tests are le all top = record {
  is =
      planned_from page x o
      ∙ plan_same (has_bad_path o) false (tests_of x.tree o) (kept_tests x.tree site.is_long site.above site.number large) (is_exhausted page x o) (nat_lt 0xFFFFFFFF (top_at x.tops ino + length steps)) (steps_of page x.tree o) steps
      (bad ∙ has.good)
      (tests ∙ kept_sites x.tree path site large has)
      (ap (λ ss. list_any is_past (nodes_of x ss)) are ∙ spent_all x ino steps le all top)
      are;
}

pub truncate_from : (page : ℕ) (x : Indexed) (time : ℕ) (path : List ℕ) (size : ℕ) (site : Site) (ino old highest : ℕ) → IsSiteOf x.tree path site → ino ≡ unwrap_or site.number 0 → ino ≤ 0xFFFFFFFF
    → old ≡ unwrap_or (option_map (λ (o : ObjectOf ℕ). o.body) (option_and_then (object x.tree) site.number)) 0 → highest ≡ top_at x.tops ino → highest ≤ 0xFFFFFFFF
    → IsFrom (planned_by page x (op.Truncate time path size)) (kept_tests x.tree site.is_long site.above site.number (nat_lt greatest_size size)) (nat_lt 0xFFFFFFFF (highest + length (resize_steps time ino old size))) (resize_steps time ino old size)
truncate_from page x time path size site ino old highest has ino_is le old_is top_is most =
    subst (λ t. IsFrom (planned_by page x (op.Truncate time path size)) (kept_tests x.tree site.is_long site.above site.number (nat_lt greatest_size size)) (nat_lt 0xFFFFFFFF (t + length (resize_steps time ino old size))) (resize_steps time ino old size)) (sym top_is)
    (file_from page x (op.Truncate time path size) path site (nat_lt greatest_size size) ino (resize_steps time ino old size) has (or_none (is_bad_path path)) (same (nat_lt greatest_size size))
    (ap (λ (n : Option ℕ). resize_steps time (unwrap_or n 0) (unwrap_or (option_map (λ (o : ObjectOf ℕ). o.body) (option_and_then (object x.tree) n)) 0) size) (sym has.number)
    ∙ ap (λ i. resize_steps time i (unwrap_or (option_map (λ (o : ObjectOf ℕ). o.body) (option_and_then (object x.tree) site.number)) 0) size) (sym ino_is)
    ∙ ap (λ i. resize_steps time ino i size) (sym old_is))
    le (resize_next time ino old size) (subst (λ t. t ≤ 0xFFFFFFFF) top_is most))
  where
    same : (b : Bool) → tests_of x.tree (op.Truncate time path size) ≡ kept_tests x.tree (is_long path) (above x.tree path) (number_there x.tree path) (nat_lt greatest_size size)
    same b = simp (or_none) refl

pub write_from : (page : ℕ) (x : Indexed) (time : ℕ) (path : List ℕ) (offset : ℕ) (bytes : List ℕ) (site : Site) (ino old highest : ℕ) → IsSiteOf x.tree path site → ino ≡ unwrap_or site.number 0 → ino ≤ 0xFFFFFFFF
    → old ≡ unwrap_or (option_map (λ (o : ObjectOf ℕ). o.body) (option_and_then (object x.tree) site.number)) 0 → highest ≡ top_at x.tops ino → highest ≤ 0xFFFFFFFF
    → IsFrom (planned_by page x (op.Write time path offset bytes)) (kept_tests x.tree site.is_long site.above site.number (nat_lt 0 (length bytes) && nat_lt greatest_size (offset + length bytes))) (nat_lt 0xFFFFFFFF (highest + length (write_steps page time ino old offset bytes))) (write_steps page time ino old offset bytes)
write_from page x time path offset bytes site ino old highest has ino_is le old_is top_is most =
    subst (λ t. IsFrom (planned_by page x (op.Write time path offset bytes)) (kept_tests x.tree site.is_long site.above site.number (nat_lt 0 (length bytes) && nat_lt greatest_size (offset + length bytes))) (nat_lt 0xFFFFFFFF (t + length (write_steps page time ino old offset bytes))) (write_steps page time ino old offset bytes)) (sym top_is)
    (file_from page x (op.Write time path offset bytes) path site (nat_lt 0 (length bytes) && nat_lt greatest_size (offset + length bytes)) ino (write_steps page time ino old offset bytes) has (or_none (is_bad_path path)) (same (nat_lt 0 (length bytes) && nat_lt greatest_size (offset + length bytes)))
    (ap (λ (n : Option ℕ). write_steps page time (unwrap_or n 0) (unwrap_or (option_map (λ (o : ObjectOf ℕ). o.body) (option_and_then (object x.tree) n)) 0) offset bytes) (sym has.number)
    ∙ ap (λ i. write_steps page time i (unwrap_or (option_map (λ (o : ObjectOf ℕ). o.body) (option_and_then (object x.tree) site.number)) 0) offset bytes) (sym ino_is)
    ∙ ap (λ i. write_steps page time ino i offset bytes) (sym old_is))
    le (write_next page time ino old offset bytes) (subst (λ t. t ≤ 0xFFFFFFFF) top_is most))
  where
    same : (b : Bool) → tests_of x.tree (op.Write time path offset bytes) ≡ kept_tests x.tree (is_long path) (above x.tree path) (number_there x.tree path) (nat_lt 0 (length bytes) && nat_lt greatest_size (offset + length bytes))
    same b = simp (or_none) refl
