-- A piece is overlaid on the intervals from its offset on, one interval after another.
use Rattle.std.proofs.Common.{None, ◌^◌, ◌≡◌, ℕ, ◌+◌, ◌-◌, ◌<◌, ◌≤◌, Bool, true, false, ◌&&◌, List, refl, sym, ap, subst, arith, Some, Result, Ok, Err, OnOk, OnErr, ◌∙◌}
use Rattle.std.specs.Prelude.{if◌then◌else◌, nat_lt, nat_le}
use Rattle.std.specs.Ordering.{nat_cmp}
use Rattle.std.specs.BTreeMap.{BTreeMap, IsOrdered}
use Rattle.std.proofs.lemmas.Bool.{ltb-true, ltb-false, leb-true, lt-ltb, le-leb}
use Rattle.jfrag.specs.declared.piece.Piece.{Piece}
use Rattle.jfrag.specs.Pieces.{covers, byte_of, end_of}
use Rattle.jfrag.specs.Overlays.{Visible, outranks, overlaid}
use Rattle.jfrag.specs.Laws as law
use Rattle.jfrag.specs.IntervalMap.{Interval, interval_at, NoKeyIn, overwritten, is_under, between, IsCovered}
use Rattle.jfrag.proofs.IntervalMapLemmas.{case_on, some_same}
use Rattle.jfrag.proofs.IntervalMapChanges.{same_interval}

pub lt_no : (a b : ℕ) → b ≤ a → nat_lt a b ≡ false
lt_no a b l = case_on (nat_lt a b) (λ e. let h : a < b = ltb-true a b e in absurd (omega arith)) (λ e. e)

le_no : (a b : ℕ) → b < a → nat_le a b ≡ false
le_no a b l = case_on (nat_le a b) (λ e. let h : a ≤ b = leb-true a b e in absurd (omega arith)) (λ e. e)

pub both : (a b : Bool) → a ≡ true → b ≡ true → (a && b) ≡ true
both a b e f = rw (e, f) refl

left_no : (a b : Bool) → a ≡ false → (a && b) ≡ false
left_no a b e = rw e refl

right_no : (a b : Bool) → b ≡ false → (a && b) ≡ false
right_no true b e = e
right_no false b e = refl

pub inside : (k hi i : ℕ) → k ≤ i → i < hi → between k hi i ≡ true
inside k hi i l m = both (nat_le k i) (nat_lt i hi) (le-leb k i l) (lt-ltb i hi m)

below : (k hi i : ℕ) → i < k → between k hi i ≡ false
below k hi i l = left_no (nat_le k i) (nat_lt i hi) (le_no k i l)

past : (k hi i : ℕ) → hi ≤ i → between k hi i ≡ false
past k hi i l = right_no (nat_le k i) (nat_lt i hi) (lt_no i hi l)

pub pick_yes : {X : Type 0} (b : Bool) (x y : X) → b ≡ true → (if b then x else y) ≡ x
pick_yes b x y e = rw e refl

pub pick_no : {X : Type 0} (b : Bool) (x y : X) → b ≡ false → (if b then x else y) ≡ y
pick_no b x y e = rw e refl

pub not_covered : (p : Piece) (i : ℕ) (r : Interval) → covers i p ≡ false → overwritten p i r ≡ r
not_covered p i r e = pick_no (covers i p && is_under p.version r) (Some p) r (left_no (covers i p) (is_under p.version r) e)

-- where each place below `at` is overwritten, and each other as it was
abbrev pub OverwrittenBelow : Piece → ℕ → BTreeMap ℕ Interval → BTreeMap ℕ Interval → Type 0
OverwrittenBelow p at old new = (i : ℕ) → interval_at new.entries i ≡ (if nat_lt i at then overwritten p i (interval_at old.entries i) else interval_at old.entries i)

-- before the first step nothing is overwritten
pub overwritten_none : (p : Piece) (i : ℕ) (r : Interval) → r ≡ (if nat_lt i p.offset then overwritten p i r else r)
overwritten_none p i r =
    case_on (nat_lt i p.offset)
    (λ e. sym (pick_yes (nat_lt i p.offset) (overwritten p i r) r e ∙ not_covered p i r (left_no (nat_le p.offset i) (nat_lt i (end_of p)) (le_no p.offset i (ltb-true i p.offset e)))))
    (λ e. sym (pick_no (nat_lt i p.offset) (overwritten p i r) r e))

pub overwritten_more : (p : Piece) (o m n : BTreeMap ℕ Interval) → IsOrdered nat_cmp m → (at next : ℕ) (won : Bool) → p.offset ≤ at → at < next → next ≤ end_of p → OverwrittenBelow p at o m → NoKeyIn m (at + 1) next → won ≡ is_under p.version (interval_at m.entries at) → ((i : ℕ) → interval_at n.entries i ≡ (if between at next i && won then Some p else interval_at m.entries i)) → OverwrittenBelow p next o n
overwritten_more p o m n om at next won from room to so_far one is_won step i =
    case_on (nat_lt i at)
    (λ e. let l : i < at = ltb-true i at e in
    step i ∙ pick_no (between at next i && won) (Some p) (interval_at m.entries i) (left_no (between at next i) won (below at next i l))
    ∙ so_far i ∙ pick_yes (nat_lt i at) (overwritten p i (interval_at o.entries i)) (interval_at o.entries i) e
    ∙ sym (pick_yes (nat_lt i next) (overwritten p i (interval_at o.entries i)) (interval_at o.entries i) (lt-ltb i next (omega arith))))
    (λ e. let l : at ≤ i = ltb-false i at e in
    let was : interval_at m.entries i ≡ interval_at o.entries i = so_far i ∙ pick_no (nat_lt i at) (overwritten p i (interval_at o.entries i)) (interval_at o.entries i) e in
    case_on (nat_lt i next)
    (λ f. let u : i < next = ltb-true i next f in
    let same : interval_at m.entries i ≡ interval_at m.entries at = same_interval m om at next i one l u in
    let wins : won ≡ is_under p.version (interval_at o.entries i) = is_won ∙ ap (is_under p.version) (sym same ∙ was) in
    let inner : between at next i ≡ covers i p = inside at next i l u ∙ sym (inside p.offset (end_of p) i (omega arith) (omega arith)) in
    step i
    ∙ ap (λ (b : Bool). if b && won then Some p else interval_at m.entries i) inner
    ∙ ap (λ (b : Bool). if covers i p && b then Some p else interval_at m.entries i) wins
    ∙ ap (λ (r : Interval). if covers i p && is_under p.version (interval_at o.entries i) then Some p else r) was
    ∙ sym (pick_yes (nat_lt i next) (overwritten p i (interval_at o.entries i)) (interval_at o.entries i) f))
    (λ f. step i ∙ pick_no (between at next i && won) (Some p) (interval_at m.entries i) (left_no (between at next i) won (past at next i (ltb-false i next f)))
    ∙ was ∙ sym (pick_no (nat_lt i next) (overwritten p i (interval_at o.entries i)) (interval_at o.entries i) f)))

-- the piece is visible right before the place where its last interval ends
pub visible_before : (p : Piece) (m n : BTreeMap ℕ Interval) (at next : ℕ) (won : Bool) → won ≡ true → at < next → ((i : ℕ) → interval_at n.entries i ≡ (if between at next i && won then Some p else interval_at m.entries i)) → interval_at n.entries (next - 1) ≡ Some p
visible_before p m n at next won e l step =
    step (next - 1) ∙ pick_yes (between at next (next - 1) && won) (Some p) (interval_at m.entries (next - 1)) (both (between at next (next - 1)) won (inside at next (next - 1) (omega arith) (omega arith)) e)

-- at the end all is overwritten
pub overwritten_all : (p : Piece) (o n : BTreeMap ℕ Interval) → OverwrittenBelow p (end_of p) o n → (i : ℕ) → interval_at n.entries i ≡ overwritten p i (interval_at o.entries i)
overwritten_all p o n h i =
    case_on (nat_lt i (end_of p))
    (λ e. h i ∙ pick_yes (nat_lt i (end_of p)) (overwritten p i (interval_at o.entries i)) (interval_at o.entries i) e)
    (λ e. h i ∙ pick_no (nat_lt i (end_of p)) (overwritten p i (interval_at o.entries i)) (interval_at o.entries i) e
    ∙ sym (not_covered p i (interval_at o.entries i) (right_no (nat_le p.offset i) (nat_lt i (end_of p)) e)))

-- what covers places its still does after a piece was overlaid, or was refused
pub keeps_covered : {T E : Type 0} (r : Result T E) (p : Piece) (es fs : List (ℕ × Interval)) → IsCovered es → end_of p < 2 ^ 32 → OnOk r ((i : ℕ) → interval_at fs i ≡ overwritten p i (interval_at es i)) → OnErr r (fs ≡ es) → IsCovered fs
keeps_covered (Err e) p es fs h fit ok err = subst IsCovered (sym err) h
keeps_covered (Ok x) p es fs h fit ok err = λ i q at_i.
    case_on (covers i p)
    (λ c. case_on (is_under p.version (interval_at es i))
    (λ w. let is_p : interval_at fs i ≡ Some p = ok i ∙ pick_yes (covers i p && is_under p.version (interval_at es i)) (Some p) (interval_at es i) (both (covers i p) (is_under p.version (interval_at es i)) c w) in
    let same : p ≡ q = some_same (interval_at fs i) p q is_p at_i in
    subst (λ (x : Piece). (covers i x ≡ true) × (end_of x < 2 ^ 32)) same (c, fit))
    (λ w. h i q (sym (ok i ∙ pick_no (covers i p && is_under p.version (interval_at es i)) (Some p) (interval_at es i) (right_no (covers i p) (is_under p.version (interval_at es i)) w)) ∙ at_i)))
    (λ c. h i q (sym (ok i ∙ not_covered p i (interval_at es i) c) ∙ at_i))

-- ---- a piece that changes nothing that is visible

overlaid_wins : (i : ℕ) (p : Piece) (s : Visible) → (covers i p && outranks p.version s) ≡ true → overlaid i p s ≡ Some (p.version, byte_of i p)
overlaid_wins i p s e = pick_yes (covers i p && outranks p.version s) (Some (p.version, byte_of i p)) s e

version_at : Visible → ℕ
version_at None = 0
version_at (Some there) = there.0

newer_differs : {P : Type 0} (v b : ℕ) (there : ℕ × ℕ) → Some (v, b) ≡ Some there → nat_lt there.0 v ≡ true → P
unfolding version_at
newer_differs v b there e f = let same : v ≡ there.0 = ap version_at e in let l : there.0 < v = ltb-true there.0 v f in absurd (omega arith)

pub idle_is_not_taken : law.IdleIsNotTaken
idle_is_not_taken p i None h =
    case_on (covers i p && true)
    (λ e. let wins : overlaid i p None ≡ Some (p.version, byte_of i p) = overlaid_wins i p None e in let no : Some (p.version, byte_of i p) ≡ None = sym wins ∙ h in cc)
    (λ e. pick_no (covers i p && true) (Some p) None e)
idle_is_not_taken p i (Some q) h =
    case_on (covers i p && nat_lt q.version p.version)
    (λ e. newer_differs p.version (byte_of i p) (q.version, byte_of i q) (sym (overlaid_wins i p (Some (q.version, byte_of i q)) e) ∙ h) (right_of (covers i p) (nat_lt q.version p.version) e))
    (λ e. pick_no (covers i p && nat_lt q.version p.version) (Some p) (Some q) e)
  where
    right_of : (a b : Bool) → (a && b) ≡ true → b ≡ true
    right_of true b e = e
    right_of false b e = cc
