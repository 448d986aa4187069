-- Where keys are after a piece was overlaid: at the beginnings and ends of the places in a row that it wins, and nowhere
-- within.
use Rattle.std.proofs.Common.{◌≡◌, ◌≢◌, ℕ, ◌+◌, ◌-◌, ◌<◌, ◌≤◌, Bool, true, false, ◌&&◌, inl, List, refl, sym, ap, subst, arith, Some, None, Option, ◌∙◌}
use Rattle.std.specs.Prelude.{nat_lt, nat_le}
use Rattle.std.specs.Ordering.{nat_cmp}
use Rattle.std.specs.Map.{lookup}
use Rattle.std.specs.BTreeMap.{BTreeMap, get, is_at, IsOrdered}
use Rattle.std.proofs.lemmas.Bool.{ltb-true, ltb-false, leb-true, lt-ltb, le-leb}
use Rattle.jfrag.specs.declared.piece.Piece.{Piece}
use Rattle.jfrag.specs.Pieces.{covers, end_of}
use Rattle.jfrag.specs.IntervalMap.{Interval, interval_at, NoKeyIn, overwritten, is_under, won, IsJoined, IsSettled, IsTight}
use Rattle.jfrag.proofs.IntervalMapLemmas.{case_on, three_ways, some_same, no_some, interval_at_from}
use Rattle.jfrag.proofs.IntervalMapChanges.{same_interval}
use Rattle.jfrag.proofs.Overwriting.{OverwrittenBelow, lt_no, both, pick_yes, pick_no}

not_both : {P : Type 0} (b : Bool) → b ≡ true → b ≡ false → P
not_both b e f = cc

both_left : (a b : Bool) → (a && b) ≡ true → a ≡ true
both_left true b e = refl
both_left false b e = e

both_right : (a b : Bool) → (a && b) ≡ true → b ≡ true
both_right true b e = e
both_right false b e = cc

-- ---- where a piece wins

won_covers : (p : Piece) (es : List (ℕ × Interval)) (i : ℕ) → won p es i ≡ true → covers i p ≡ true
won_covers p es i e = both_left (covers i p) (is_under p.version (interval_at es i)) e

won_under : (p : Piece) (es : List (ℕ × Interval)) (i : ℕ) → won p es i ≡ true → is_under p.version (interval_at es i) ≡ true
won_under p es i e = both_right (covers i p) (is_under p.version (interval_at es i)) e

won_from : (p : Piece) (es : List (ℕ × Interval)) (i : ℕ) → won p es i ≡ true → p.offset ≤ i
won_from p es i e = leb-true p.offset i (both_left (nat_le p.offset i) (nat_lt i (end_of p)) (won_covers p es i e))

won_to : (p : Piece) (es : List (ℕ × Interval)) (i : ℕ) → won p es i ≡ true → i < end_of p
won_to p es i e = ltb-true i (end_of p) (both_right (nat_le p.offset i) (nat_lt i (end_of p)) (won_covers p es i e))

won_yes : (p : Piece) (es : List (ℕ × Interval)) (i : ℕ) → p.offset ≤ i → i < end_of p → is_under p.version (interval_at es i) ≡ true → won p es i ≡ true
won_yes p es i l m e = both (covers i p) (is_under p.version (interval_at es i)) (both (nat_le p.offset i) (nat_lt i (end_of p)) (le-leb p.offset i l) (lt-ltb i (end_of p) m)) e

won_same : (p : Piece) (es fs : List (ℕ × Interval)) → ((i : ℕ) → interval_at fs i ≡ interval_at es i) → (i : ℕ) → won p fs i ≡ won p es i
won_same p es fs h i = ap (λ (r : Interval). covers i p && is_under p.version r) (h i)

-- ---- the loop

pub no_new_more : (m n : BTreeMap ℕ Interval) (at q : ℕ) → ((q : ℕ) → q ≢ at → get nat_cmp n q ≡ get nat_cmp m q) → (get nat_cmp m at ≡ None → get nat_cmp n at ≡ None) → get nat_cmp m q ≡ None → get nat_cmp n q ≡ None
no_new_more m n at q others here none =
    three_ways q at
    (λ l. others q (λ e. omega arith) ∙ none)
    (λ e. ap (get nat_cmp n) e ∙ here (ap (get nat_cmp m) (sym e) ∙ none))
    (λ l. others q (λ e. omega arith) ∙ none)

-- places from `at` on are as they were
still : (p : Piece) (o m : BTreeMap ℕ Interval) (at k : ℕ) → OverwrittenBelow p at o m → at ≤ k → interval_at m.entries k ≡ interval_at o.entries k
still p o m at k so_far l = so_far k ∙ pick_no (nat_lt k at) (overwritten p k (interval_at o.entries k)) (interval_at o.entries k) (lt_no k at l)

pub joined_more : (p : Piece) (o m n : BTreeMap ℕ Interval) (at next : ℕ) (joined wins : Bool) → OverwrittenBelow p at o m → wins ≡ is_under p.version (interval_at m.entries at) → NoKeyIn m (at + 1) next → ((q : ℕ) → q ≢ at → get nat_cmp n q ≡ get nat_cmp m q) → (joined ≡ true → wins ≡ true → get nat_cmp n at ≡ None)
    → ((k : ℕ) → k + 1 ≡ at → won p o.entries k ≡ true → joined ≡ true)
    → ((k : ℕ) → k + 1 < at → won p o.entries k ≡ true → won p o.entries (k + 1) ≡ true → get nat_cmp m (k + 1) ≡ None)
    → (k : ℕ) → k + 1 < next → won p o.entries k ≡ true → won p o.entries (k + 1) ≡ true → get nat_cmp n (k + 1) ≡ None
joined_more p o m n at next joined wins so_far is_won one others removed ends before k l a b =
    three_ways (k + 1) at
    (λ u. others (k + 1) (λ e. omega arith) ∙ before k u a b)
    (λ e. let w : wins ≡ true = is_won ∙ ap (is_under p.version) (still p o m at at so_far (omega arith) ∙ ap (interval_at o.entries) (sym e)) ∙ won_under p o.entries (k + 1) b in
    ap (get nat_cmp n) e ∙ removed (ends k e a) w)
    (λ u. others (k + 1) (λ e. omega arith) ∙ one (k + 1) (omega arith) l)

pub ends_more : (p : Piece) (o m : BTreeMap ℕ Interval) (at next : ℕ) (wins : Bool) → IsOrdered nat_cmp m → OverwrittenBelow p at o m → at < next → wins ≡ is_under p.version (interval_at m.entries at) → NoKeyIn m (at + 1) next
    → (k : ℕ) → k + 1 ≡ next → won p o.entries k ≡ true → wins ≡ true
ends_more p o m at next wins om so_far l is_won one k e a =
    let same : interval_at m.entries k ≡ interval_at m.entries at = same_interval m om at next k one (omega arith) (omega arith) in
    let was : interval_at m.entries k ≡ interval_at o.entries k = still p o m at k so_far (omega arith) in
    is_won ∙ ap (is_under p.version) (sym same ∙ was) ∙ won_under p o.entries k a

-- before the offset the piece wins nothing
pub not_before : {P : Type 0} (p : Piece) (es : List (ℕ × Interval)) (k : ℕ) → k < p.offset → won p es k ≡ true → P
not_before p es k l w = let from : p.offset ≤ k = won_from p es k w in absurd (omega arith)

pub joined_all : (p : Piece) (o n : BTreeMap ℕ Interval) (at : ℕ) → end_of p ≤ at → ((k : ℕ) → k + 1 < at → won p o.entries k ≡ true → won p o.entries (k + 1) ≡ true → get nat_cmp n (k + 1) ≡ None) → IsJoined p o.entries n
joined_all p o n at l h k a b = h k (let to : k + 1 < end_of p = won_to p o.entries (k + 1) b in omega arith) a b

-- ---- the whole

pub joined_moved : (p : Piece) (es fs : List (ℕ × Interval)) (n : BTreeMap ℕ Interval) → ((i : ℕ) → interval_at fs i ≡ interval_at es i) → IsJoined p fs n → IsJoined p es n
joined_moved p es fs n same h j a b = h j (won_same p es fs same j ∙ a) (won_same p es fs same (j + 1) ∙ b)

-- no key is new but where a range that the piece wins begins or ends
abbrev pub AddsEdges : Piece → BTreeMap ℕ Interval → BTreeMap ℕ Interval → Type 0
AddsEdges p m n = (j : ℕ) → get nat_cmp m (j + 1) ≡ None → won p m.entries j ≡ false → won p m.entries (j + 1) ≡ false → get nat_cmp n (j + 1) ≡ None

pub adds_edges : (p : Piece) (m m1 m2 n : BTreeMap ℕ Interval) (end : ℕ) (first last : Bool) → end ≡ end_of p → p.offset < end → first ≡ is_under p.version (interval_at m.entries p.offset) → last ≡ is_under p.version (interval_at m.entries (end - 1))
    → ((q : ℕ) → (first ≡ true → q ≢ p.offset) → get nat_cmp m q ≡ None → get nat_cmp m1 q ≡ None)
    → ((q : ℕ) → (last ≡ true → q ≢ end) → get nat_cmp m1 q ≡ None → get nat_cmp m2 q ≡ None)
    → ((q : ℕ) → get nat_cmp m2 q ≡ None → get nat_cmp n q ≡ None) → AddsEdges p m n
adds_edges p m m1 m2 n end first last is_end l is_first is_last one two three j none a b =
    three (j + 1) (two (j + 1)
    (λ w e. let here : end - 1 ≡ j = omega arith in not_both (won p m.entries j) (won_yes p m.entries j (omega arith) (omega arith) (ap (λ i. is_under p.version (interval_at m.entries i)) (sym here) ∙ sym is_last ∙ w)) a)
    (one (j + 1)
    (λ w e. not_both (won p m.entries (j + 1)) (won_yes p m.entries (j + 1) (omega arith) (omega arith) (ap (λ i. is_under p.version (interval_at m.entries i)) e ∙ sym is_first ∙ w)) b)
    none))

-- ---- what is visible stays settled, and its intervals apart

is_p : (p : Piece) (es fs : List (ℕ × Interval)) → ((i : ℕ) → interval_at fs i ≡ overwritten p i (interval_at es i)) → (i : ℕ) → won p es i ≡ true → interval_at fs i ≡ Some p
is_p p es fs h i w = h i ∙ pick_yes (won p es i) (Some p) (interval_at es i) w

is_old : (p : Piece) (es fs : List (ℕ × Interval)) → ((i : ℕ) → interval_at fs i ≡ overwritten p i (interval_at es i)) → (i : ℕ) → won p es i ≡ false → interval_at fs i ≡ interval_at es i
is_old p es fs h i w = h i ∙ pick_no (won p es i) (Some p) (interval_at es i) w

older_still : (v w : ℕ) (r : Interval) → is_under w r ≡ false → is_under v r ≡ true → nat_lt v w ≡ false
older_still v w None e f = cc
older_still v w (Some r) e f = let a : w ≤ r.version = ltb-false r.version w e in let b : r.version < v = ltb-true r.version v f in lt_no v w (omega arith)

lost_no : (p : Piece) (es : List (ℕ × Interval)) (j : ℕ) → covers j p ≡ true → won p es j ≡ false → is_under p.version (interval_at es j) ≡ false
lost_no p es j c w = sym (ap (λ b. b && is_under p.version (interval_at es j)) c) ∙ w

pub keeps_settled : (p : Piece) (es fs : List (ℕ × Interval)) → IsSettled es → ((i : ℕ) → interval_at fs i ≡ overwritten p i (interval_at es i)) → IsSettled fs
keeps_settled p es fs s h i j q at_i c_j =
    case_on (won p es i)
    (λ w. let same : p ≡ q = some_same (interval_at fs i) p q (is_p p es fs h i w) at_i in
    subst (λ (x : Piece). covers j x ≡ true → is_under x.version (interval_at fs j) ≡ false) same
    (λ c. case_on (won p es j)
    (λ u. ap (is_under p.version) (is_p p es fs h j u) ∙ lt_no p.version p.version (omega arith))
    (λ u. ap (is_under p.version) (is_old p es fs h j u) ∙ lost_no p es j c u)) c_j)
    (λ w. let was : interval_at es i ≡ Some q = sym (is_old p es fs h i w) ∙ at_i in
    let old : is_under q.version (interval_at es j) ≡ false = s i j q was c_j in
    case_on (won p es j)
    (λ u. ap (is_under q.version) (is_p p es fs h j u) ∙ older_still p.version q.version (interval_at es j) old (won_under p es j u))
    (λ u. ap (is_under q.version) (is_old p es fs h j u) ∙ old))

interval_at_key : (m : BTreeMap ℕ Interval) → IsOrdered nat_cmp m → (k : ℕ) (r : Interval) → get nat_cmp m k ≡ Some r → interval_at m.entries k ≡ r
interval_at_key m om k r e = interval_at_from m om k r (inl (k, omega arith, e, λ q a b. absurd (omega arith)))

by_option : {X P : Type 0} (o : Option X) → (o ≡ None → P) → ((x : X) → o ≡ Some x → P) → P
by_option None f g = f refl
by_option (Some x) f g = g x refl

pub keeps_tight : (p : Piece) (m n : BTreeMap ℕ Interval) → IsOrdered nat_cmp m → IsOrdered nat_cmp n → IsSettled m.entries → IsTight m → ((i : ℕ) → interval_at n.entries i ≡ overwritten p i (interval_at m.entries i)) → IsJoined p m.entries n → AddsEdges p m n → IsTight n
keeps_tight p m n om on s t h joined edges j q at_key before =
    let es : List (ℕ × Interval) = m.entries in
    let fs : List (ℕ × Interval) = n.entries in
    let here : interval_at fs (j + 1) ≡ Some q = interval_at_key n on (j + 1) (Some q) at_key in
    case_on (won p es j)
    (λ wj. case_on (won p es (j + 1))
    (λ wk. no_some (get nat_cmp n (j + 1)) (Some q) (joined j wj wk) at_key)
    (λ lk. let same : p ≡ q = some_same (interval_at fs j) p q (is_p p es fs h j wj) before in
    let visible : interval_at es (j + 1) ≡ Some p = sym (is_old p es fs h (j + 1) lk) ∙ here ∙ ap (λ (x : Piece). Some x) (sym same) in
    not_both (is_under p.version (interval_at es j)) (won_under p es j wj) (s (j + 1) j p visible (won_covers p es j wj))))
    (λ lj. case_on (won p es (j + 1))
    (λ wk. let same : p ≡ q = some_same (interval_at fs (j + 1)) p q (is_p p es fs h (j + 1) wk) here in
    let visible : interval_at es j ≡ Some p = sym (is_old p es fs h j lj) ∙ before ∙ ap (λ (x : Piece). Some x) (sym same) in
    not_both (is_under p.version (interval_at es (j + 1))) (won_under p es (j + 1) wk) (s j (j + 1) p visible (won_covers p es (j + 1) wk)))
    (λ lk. let was_j : interval_at es j ≡ Some q = sym (is_old p es fs h j lj) ∙ before in
    let was_k : interval_at es (j + 1) ≡ Some q = sym (is_old p es fs h (j + 1) lk) ∙ here in
    by_option (get nat_cmp m (j + 1))
    (λ none. no_some (get nat_cmp n (j + 1)) (Some q) (edges j none lj lk) at_key)
    (λ r some. t j q (some ∙ ap (λ (x : Interval). Some x) (sym (interval_at_key m om (j + 1) r some) ∙ was_k)) was_j)))

pub tight_unchanged : (m n : BTreeMap ℕ Interval) → n.entries ≡ m.entries → IsTight m → IsTight n
tight_unchanged m n e t j q at_key before =
    t j q (ap (λ (es : List (ℕ × Interval)). lookup (is_at (nat_cmp (j + 1))) es) (sym e) ∙ at_key) (ap (λ (es : List (ℕ × Interval)). interval_at es j) (sym e) ∙ before)
