-- A reader finds its first interval and goes on from entry to entry.
use Rattle.std.proofs.Common.{◌≡◌, ℕ, ◌+◌, ◌-◌, ◌<◌, ◌≤◌, Bool, true, false, not, ◌&&◌, List, [], ◌∷◌, refl, sym, ap, subst, arith, get_or, IfSome, Some, None, ◌∙◌}
use Rattle.std.specs.Prelude.{nat_lt, filter}
use Rattle.std.specs.Ordering.{nat_cmp, is_lt}
use Rattle.std.specs.declared.cmp.Ordering.TheVariants.{Less, Equal, Greater}
use Rattle.std.specs.declared.ops.Bound.TheVariants.{Included, Excluded}
use Rattle.std.specs.Cmp.{nat_cmp_is}
use Rattle.std.specs.Map.{keys_of}
use Rattle.std.specs.List.Sorted.{IsStrictlySortedBy}
use Rattle.std.specs.BTreeMap.Range.{range_contains, entries_between}
use Rattle.std.proofs.lemmas.Bool.{ltb-true, ltb-false, lt-ltb}
use Rattle.std.proofs.lemmas.Map.Keys.{sorted_tail, below_from_sorted}
use Rattle.jfrag.specs.Pieces.{end_of}
use Rattle.jfrag.specs.Overlays.{byte_at}
use Rattle.jfrag.specs.IntervalMap.{Interval, interval_from, interval_at, seen, IsCovered}
use Rattle.jfrag.proofs.Reading.{far_is_bare, from_covers}
use Rattle.jfrag.proofs.IntervalMapLemmas.{case_on, three_ways}

-- ---- which keys lie past lo and up to hi

lies : ℕ → ℕ → ℕ → Bool
lies lo hi k = range_contains nat_cmp (Excluded lo) (Included hi) k

is_less : (a b : ℕ) → a < b → is_lt (nat_cmp a b) ≡ true
is_less a b l = sym (ap is_lt (nat_cmp_is a b Less l))

not_less : (a b : ℕ) → b ≤ a → is_lt (nat_cmp a b) ≡ false
not_less a b l =
    three_ways a b
    (λ m. absurd (omega arith))
    (λ e. sym (ap is_lt (nat_cmp_is a b Equal e)))
    (λ m. sym (ap is_lt (nat_cmp_is a b Greater m)))

left_no : (a b : Bool) → a ≡ false → (a && b) ≡ false
left_no a b e = rw e refl

lies_within : (lo hi k : ℕ) → lo < k → k ≤ hi → lies lo hi k ≡ true
unfolding lies
lies_within lo hi k l m = rw (is_less lo k l, not_less hi k m) refl

lies_not_below : (lo hi k : ℕ) → k ≤ lo → lies lo hi k ≡ false
unfolding lies
lies_not_below lo hi k l = left_no (is_lt (nat_cmp lo k)) (not (is_lt (nat_cmp hi k))) (not_less lo k l)

lies_not_above : (lo hi k : ℕ) → hi < k → lies lo hi k ≡ false
unfolding lies
lies_not_above lo hi k l = case_on (is_lt (nat_cmp lo k)) (λ e. rw (e, is_less hi k l) refl) (λ e. left_no (is_lt (nat_cmp lo k)) (not (is_lt (nat_cmp hi k))) e)

-- ---- the intervals of a range

abbrev kept : ℕ → ℕ → List (ℕ × Interval) → List (ℕ × Interval)
kept lo hi es = filter (λ e. lies lo hi e.0) es

keep_head : (lo hi : ℕ) (e : ℕ × Interval) (es : List (ℕ × Interval)) → lies lo hi e.0 ≡ true → kept lo hi (e ∷ es) ≡ e ∷ kept lo hi es
keep_head lo hi e es h = rw h refl

drop_head : (lo hi : ℕ) (e : ℕ × Interval) (es : List (ℕ × Interval)) → lies lo hi e.0 ≡ false → kept lo hi (e ∷ es) ≡ kept lo hi es
drop_head lo hi e es h = rw h refl

-- the second key is past the first
next_key : (k : ℕ) (e : ℕ × Interval) (es : List (ℕ × Interval)) → IsStrictlySortedBy nat_cmp (k ∷ keys_of (e ∷ es)) → k < e.0
next_key k e es s = below_from_sorted (k ∷ keys_of (e ∷ es)) 0 1 0 s (omega arith) (omega arith)

none_kept : (lo hi k : ℕ) (es : List (ℕ × Interval)) → hi ≤ k → IsStrictlySortedBy nat_cmp (k ∷ keys_of es) → kept lo hi es ≡ []
none_kept lo hi k [] l s = refl
none_kept lo hi k (e ∷ es) l s =
    let past : k < e.0 = next_key k e es s in
    drop_head lo hi e es (lies_not_above lo hi e.0 (omega arith)) ∙ none_kept lo hi e.0 es (omega arith) (sorted_tail nat_cmp k (keys_of (e ∷ es)) s)

interval_before : (d : Interval) (e : ℕ × Interval) (es : List (ℕ × Interval)) (j : ℕ) → j < e.0 → interval_from d (e ∷ es) j ≡ d
interval_before d e es j l = rw (lt-ltb j e.0 l) refl

interval_past : (d : Interval) (e : ℕ × Interval) (es : List (ℕ × Interval)) (j : ℕ) → e.0 ≤ j → interval_from d (e ∷ es) j ≡ interval_from e.1 es j
interval_past d e es j l = case_on (nat_lt j e.0) (λ f. let m : j < e.0 = ltb-true j e.0 f in absurd (omega arith)) (λ f. rw f refl)

-- past lo, only what was kept counts
one_kept : (lo hi j : ℕ) (d : Interval) (e : ℕ × Interval) (es : List (ℕ × Interval)) → lo < e.0 → IsStrictlySortedBy nat_cmp (keys_of (e ∷ es)) → j ≤ hi → interval_from e.1 es j ≡ interval_from e.1 (kept lo hi es) j → interval_from d (e ∷ es) j ≡ interval_from d (kept lo hi (e ∷ es)) j
one_kept lo hi j d e es past s m rest =
    case_on (nat_lt hi e.0)
    (λ f. let u : hi < e.0 = ltb-true hi e.0 f in
    interval_before d e es j (omega arith)
    ∙ ap (λ (xs : List (ℕ × Interval)). interval_from d xs j) (sym (drop_head lo hi e es (lies_not_above lo hi e.0 u) ∙ none_kept lo hi e.0 es (omega arith) s)))
    (λ f. let u : e.0 ≤ hi = ltb-false hi e.0 f in
    let head : kept lo hi (e ∷ es) ≡ e ∷ kept lo hi es = keep_head lo hi e es (lies_within lo hi e.0 past u) in
    case_on (nat_lt j e.0)
    (λ g. let v : j < e.0 = ltb-true j e.0 g in interval_before d e es j v ∙ sym (ap (λ (xs : List (ℕ × Interval)). interval_from d xs j) head ∙ interval_before d e (kept lo hi es) j v))
    (λ g. let v : e.0 ≤ j = ltb-false j e.0 g in interval_past d e es j v ∙ rest ∙ sym (ap (λ (xs : List (ℕ × Interval)). interval_from d xs j) head ∙ interval_past d e (kept lo hi es) j v)))

all_kept : (lo hi k j : ℕ) (d : Interval) (es : List (ℕ × Interval)) → lo ≤ k → IsStrictlySortedBy nat_cmp (k ∷ keys_of es) → j ≤ hi → interval_from d es j ≡ interval_from d (kept lo hi es) j
all_kept lo hi k j d [] l s m = refl
all_kept lo hi k j d (e ∷ es) l s m =
    let past : k < e.0 = next_key k e es s in
    let tail = sorted_tail nat_cmp k (keys_of (e ∷ es)) s in
    one_kept lo hi j d e es (omega arith) tail m (all_kept lo hi e.0 j e.1 es (omega arith) tail m)

-- a reader that knows the interval at lo needs only the entries past it
pub walk : (lo hi j : ℕ) (d : Interval) (es : List (ℕ × Interval)) → IsStrictlySortedBy nat_cmp (keys_of es) → lo ≤ j → j ≤ hi → interval_from d es j ≡ interval_from (interval_from d es lo) (entries_between nat_cmp (Excluded lo) (Included hi) es) j
unfolding lies
walk lo hi j d [] s l m = refl
walk lo hi j d (e ∷ es) s l m =
    case_on (nat_lt lo e.0)
    (λ f. let u : lo < e.0 = ltb-true lo e.0 f in
    one_kept lo hi j d e es u s m (all_kept lo hi e.0 j e.1 es (omega arith) s m) ∙ sym (ap (λ (r : Interval). interval_from r (kept lo hi (e ∷ es)) j) (interval_before d e es lo u)))
    (λ f. let u : e.0 ≤ lo = ltb-false lo e.0 f in
    interval_past d e es j (omega arith) ∙ walk lo hi j e.1 es (sorted_tail nat_cmp e.0 (keys_of es) s) l m
    ∙ ap (λ (xs : List (ℕ × Interval)). interval_from (interval_from e.1 es lo) xs j) (sym (drop_head lo hi e es (lies_not_below lo hi e.0 u)))
    ∙ ap (λ (r : Interval). interval_from r (kept lo hi (e ∷ es)) j) (sym (interval_past d e es lo u)))

-- ---- what is left of a range

-- the keys ascend from k on, up to hi
abbrev pub Ascends : ℕ → ℕ → List (ℕ × Interval) → Type 0
Ascends k hi [] = Unit {0}
Ascends k hi (e ∷ es) = (k < e.0) × (e.0 ≤ hi) × Ascends e.0 hi es

ascends_head : (lo hi k : ℕ) (e : ℕ × Interval) (es : List (ℕ × Interval)) → lo < e.0 → k < e.0 → IsStrictlySortedBy nat_cmp (keys_of (e ∷ es)) → Ascends e.0 hi (kept lo hi es) → Ascends k hi (kept lo hi (e ∷ es))
ascends_head lo hi k e es past l s rest =
    case_on (nat_lt hi e.0)
    (λ f. let u : hi < e.0 = ltb-true hi e.0 f in
    subst (Ascends k hi) (sym (drop_head lo hi e es (lies_not_above lo hi e.0 u) ∙ none_kept lo hi e.0 es (omega arith) s)) tt)
    (λ f. let u : e.0 ≤ hi = ltb-false hi e.0 f in
    subst (Ascends k hi) (sym (keep_head lo hi e es (lies_within lo hi e.0 past u))) (l, u, rest))

ascends_kept : (lo hi k : ℕ) (es : List (ℕ × Interval)) → lo ≤ k → IsStrictlySortedBy nat_cmp (k ∷ keys_of es) → Ascends k hi (kept lo hi es)
ascends_kept lo hi k [] l s = tt
ascends_kept lo hi k (e ∷ es) l s =
    let past : k < e.0 = next_key k e es s in
    let tail = sorted_tail nat_cmp k (keys_of (e ∷ es)) s in
    ascends_head lo hi k e es (omega arith) past tail (ascends_kept lo hi e.0 es (omega arith) tail)

pub ascends : (lo hi : ℕ) (es : List (ℕ × Interval)) → IsStrictlySortedBy nat_cmp (keys_of es) → Ascends lo hi (entries_between nat_cmp (Excluded lo) (Included hi) es)
unfolding lies
ascends lo hi [] s = tt
ascends lo hi (e ∷ es) s =
    case_on (nat_lt lo e.0)
    (λ f. let u : lo < e.0 = ltb-true lo e.0 f in ascends_head lo hi lo e es u u s (ascends_kept lo hi e.0 es (omega arith) s))
    (λ f. let u : e.0 ≤ lo = ltb-false lo e.0 f in
    subst (Ascends lo hi) (sym (drop_head lo hi e es (lies_not_below lo hi e.0 u))) (ascends lo hi es (sorted_tail nat_cmp e.0 (keys_of es) s)))

-- ---- one step of the reader

-- an interval's piece has a byte for each place at which it is visible
pub part_fits : (es : List (ℕ × Interval)) → IsCovered es → (r : Interval) (a b : ℕ) → a < b → ((j : ℕ) → a ≤ j → j < b → interval_at es j ≡ r) → IfSome r (λ p. (p.offset ≤ a) × (b ≤ end_of p))
part_fits es h None a b l visible_at = tt
part_fits es h (Some p) a b l visible_at =
    let first = from_covers p a (h a p (visible_at a (omega arith) l)).0 in
    let last : b - 1 < end_of p = (from_covers p (b - 1) (h (b - 1) p (visible_at (b - 1) (omega arith) (omega arith))).0).1 in
    (first.0, omega arith)

-- up to the next key the interval goes on
pub visible_until : (es it rest : List (ℕ × Interval)) (r : Interval) (key last : ℕ) (next : Interval) (k : ℕ) → it ≡ (key, next) ∷ rest → Ascends k last it → ((j : ℕ) → k ≤ j → j ≤ last → interval_at es j ≡ interval_from r it j) → (j : ℕ) → k ≤ j → j < key → interval_at es j ≡ r
visible_until es it rest r key last next k e up ahead j l m =
    let there = subst (Ascends k last) e up in
    let at_most : key ≤ last = there.1 in
    ahead j l (omega arith) ∙ ap (λ (xs : List (ℕ × Interval)). interval_from r xs j) e ∙ interval_before r (key, next) rest j m

pub goes_on : (es it rest : List (ℕ × Interval)) (r : Interval) (key last : ℕ) (next : Interval) (k : ℕ) → it ≡ (key, next) ∷ rest → Ascends k last it → ((j : ℕ) → k ≤ j → j ≤ last → interval_at es j ≡ interval_from r it j) → (j : ℕ) → key ≤ j → j ≤ last → interval_at es j ≡ interval_from next rest j
goes_on es it rest r key last next k e up ahead j l m =
    let there = subst (Ascends k last) e up in
    let past : k < key = there.0 in
    ahead j (omega arith) m ∙ ap (λ (xs : List (ℕ × Interval)). interval_from r xs j) e ∙ interval_past r (key, next) rest j l

-- past the last key the interval goes on as far as is read
pub visible_on : (es : List (ℕ × Interval)) → IsCovered es → (r : Interval) (k last : ℕ) → ((j : ℕ) → k ≤ j → j ≤ last → interval_at es j ≡ r) → k ≤ last → (j to : ℕ) → k ≤ j → j < to → (last + 1 < to → last ≡ 4294967295) → interval_at es j ≡ r
visible_on es h r k last ahead l j to m n reaches =
    case_on (nat_lt last j)
    (λ e. let u : last < j = ltb-true last j e in
    let cap : last ≡ 4294967295 = reaches (omega arith) in
    far_is_bare es h j (omega arith) ∙ sym (far_is_bare es h last (omega arith)) ∙ ahead last l (omega arith))
    (λ e. ahead j m (ltb-false last j e))

pub read_on : (es : List (ℕ × Interval)) (from done upto : ℕ) (old new : List ℕ) (r : Interval) → ((j : ℕ) → j < done → get_or old j 0 ≡ byte_at (seen (interval_at es (from + j)) (from + j))) → ((k : ℕ) → k < done → get_or new k 0 ≡ get_or old k 0) → ((k : ℕ) → done ≤ k → k < upto → get_or new k 0 ≡ byte_at (seen r (from + k))) → ((j : ℕ) → from + done ≤ j → j < from + upto → interval_at es j ≡ r) → (j : ℕ) → j < upto → get_or new j 0 ≡ byte_at (seen (interval_at es (from + j)) (from + j))
read_on es from done upto old new r so_far before shown visible_at j l =
    case_on (nat_lt j done)
    (λ e. let u : j < done = ltb-true j done e in before j u ∙ so_far j u)
    (λ e. let u : done ≤ j = ltb-false j done e in shown j u l ∙ ap (λ (x : Interval). byte_at (seen x (from + j))) (sym (visible_at (from + j) (omega arith) (omega arith))))
