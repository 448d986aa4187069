-- What is visible at a place, over a list of pieces, one piece more at a time.
use Rattle.std.proofs.Common.{Result, Ok, Err, IfOk, ◌≡◌, ◌≢◌, ℕ, ◌+◌, ◌^◌, ◌<◌, ◌≤◌, Bool, true, false, ◌&&◌, cond, List, [], ◌∷◌, ◌++◌, length, get_or, take, refl, sym, ap, subst, arith, Option, Some, None, suc, zero, min, ◌∙◌, length-append}
use Rattle.std.specs.Prelude.{nat_lt, nat_le, option_map, filter, Contains}
use Rattle.std.specs.List.Sorted.{IsPermutation}
use Rattle.std.proofs.lemmas.List.Sorted.{All-permutation, Contains-permutation, IsPermutation-sym}
use Rattle.std.specs.List.{All, Any}
use Rattle.std.proofs.lemmas.List.{get_or_append_left, take_more, take_all, length-take, get_or_default}
use Rattle.std.proofs.lemmas.List.Elements.{All-push}
use Rattle.std.proofs.lemmas.List.Quantifiers.{Any-push}
use Rattle.std.proofs.lemmas.Bool.{ltb-true, ltb-false, leb-true}
use Rattle.std.proofs.lemmas.Grind.{same_number_lists}
use Rattle.flashbase.specs.Lists.{newest, each_below}
use Rattle.flashbase.proofs.ListLemmas.{after_last, newest-filter-push, length-each_below, get_or-each_below}
use Rattle.jfrag.specs.declared.piece.Piece.{Piece}
use Rattle.jfrag.specs.Pieces.{covers, byte_of, end_of}
use Rattle.jfrag.specs.Overlays.{Visible, byte_at, GivesAt, IsHighestAt, visible, outranks, overlaid}
use Rattle.jfrag.specs.Laws as law

pub case_on : {P : Type 0} (b : Bool) → (b ≡ true → P) → (b ≡ false → P) → P
case_on true f g = f refl
case_on false f g = g refl

not_both : {P : Type 0} (b : Bool) → b ≡ true → b ≡ false → P
not_both b e f = cc

-- ---- one more piece

abbrev version : Piece → ℕ
version piece = piece.version

abbrev sight : ℕ → Piece → ℕ × ℕ
sight i piece = (piece.version, byte_of i piece)

some_cond : {X Y : Type 0} (f : X → Y) (x y : X) (c : Bool) → Some (f (cond c x y)) ≡ cond c (Some (f x)) (Some (f y))
some_cond f x y true = refl
some_cond f x y false = refl

overlaid_any : (i : ℕ) (piece : Piece) (b : Bool) (there : Option Piece) → covers i piece ≡ b
    → option_map (sight i) (cond b (Some (after_last version there piece)) there) ≡ overlaid i piece (option_map (sight i) there)
overlaid_any i piece true None e = rw e refl
overlaid_any i piece false None e = rw e refl
overlaid_any i piece true (Some y) e = rw e (some_cond (sight i) piece y (nat_lt y.version piece.version))
overlaid_any i piece false (Some y) e = rw e refl

pub one_more_piece : law.OneMorePiece
one_more_piece pieces piece i =
    ap (option_map (sight i)) (newest-filter-push version (covers i) pieces piece) ∙ overlaid_any i piece (covers i piece) (newest version (filter (covers i) pieces)) refl

-- one more of a list that is gone through
pub visible_more : (ps : List Piece) (k i : ℕ) (d : Piece) → k < length ps → visible (take (k + 1) ps) i ≡ overlaid i (get_or ps k d) (visible (take k ps) i)
visible_more ps k i d l = ap (λ (qs : List Piece). visible qs i) (take_more ps k d l) ∙ one_more_piece (take k ps) (get_or ps k d) i

pub content_is_visible : law.ContentIsVisible
content_is_visible pieces n i h = (length-each_below n (λ i. byte_at (visible pieces i)), get_or-each_below n i (λ i. byte_at (visible pieces i)) 0 h)

-- ---- the highest version

Any-left : {X : Type 0} (P : X → Type 0) (xs ys : List X) → Any P xs → Any P (xs ++ ys)
Any-left P xs ys (k, x, l, e, p) = (k, x, omega (arith, length-append xs ys), get_or_append_left xs ys x k l ∙ e, p)

pub highest_none : (i : ℕ) → IsHighestAt [] i None
highest_none i = λ k d l. absurd (omega arith)

pub highest_push : (ps : List Piece) (p : Piece) (i : ℕ) (s : Visible) → IsHighestAt ps i s → IsHighestAt (ps ++ p ∷ []) i (overlaid i p s)
highest_push ps p i None h =
    case_on (covers i p)
    (λ e. rw e (Any-push (GivesAt i (p.version, byte_of i p)) ps p (e, refl, refl), All-push (λ q. covers i q ≡ true → q.version ≤ p.version) ps p (λ k d l c. absurd (h k d l c)) (λ _. omega arith)))
    (λ e. rw e (All-push (λ q. covers i q ≢ true) ps p h (λ c. not_both (covers i p) c e)))
highest_push ps p i (Some t) h =
    case_on (covers i p)
    (λ e. case_on (nat_lt t.0 p.version)
    (λ f. rw (e, f) (Any-push (GivesAt i (p.version, byte_of i p)) ps p (e, refl, refl), All-push (λ q. covers i q ≡ true → q.version ≤ p.version) ps p (λ k d l c. let u : (get_or ps k d).version ≤ t.0 = h.1 k d l c in omega (arith, ltb-true t.0 p.version f)) (λ _. omega arith)))
    (λ f. rw (e, f) (Any-left (GivesAt i t) ps (p ∷ []) h.0, All-push (λ q. covers i q ≡ true → q.version ≤ t.0) ps p h.1 (λ _. omega (arith, ltb-false t.0 p.version f)))))
    (λ e. rw e (Any-left (GivesAt i t) ps (p ∷ []) h.0, All-push (λ q. covers i q ≡ true → q.version ≤ t.0) ps p h.1 (λ c. not_both (covers i p) c e)))

-- one piece more of a list
pub highest_more : (ps : List Piece) (j i : ℕ) (p d : Piece) (s t : Visible) → j < length ps → p ≡ get_or ps j d → t ≡ overlaid i p s → IsHighestAt (take j ps) i s → IsHighestAt (take (j + 1) ps) i t
highest_more ps j i p d s t l e f h =
    let pushed : IsHighestAt (take j ps ++ p ∷ []) i (overlaid i p s) = highest_push (take j ps) p i s h in
    let list : take j ps ++ p ∷ [] ≡ take (j + 1) ps = ap (λ (q : Piece). take j ps ++ q ∷ []) e ∙ sym (take_more ps j d l) in
    let moved : IsHighestAt (take (j + 1) ps) i (overlaid i p s) = subst (λ (qs : List Piece). IsHighestAt qs i (overlaid i p s)) list pushed in
    subst (IsHighestAt (take (j + 1) ps) i) (sym f) moved

pub highest_all : (ps : List Piece) (j i : ℕ) (s : Visible) → length ps ≤ j → IsHighestAt (take j ps) i s → IsHighestAt ps i s
highest_all ps j i s l h = subst (λ (qs : List Piece). IsHighestAt qs i s) (take_all j ps l) h

-- the function's answer, by the pieces from the last to the first
snoc_highest : (n : ℕ) (ps : List Piece) (i : ℕ) → length ps ≡ n → IsHighestAt ps i (visible ps i)
snoc_highest zero [] i e = highest_none i
snoc_highest zero (p ∷ ps) i e = absurd (omega arith)
snoc_highest (suc n) [] i e = absurd (omega arith)
snoc_highest (suc n) (p ∷ ps) i e =
    let l : n < length (p ∷ ps) = omega arith in
    let before : IsHighestAt (take n (p ∷ ps)) i (visible (take n (p ∷ ps)) i) = snoc_highest n (take n (p ∷ ps)) i (length-take n (p ∷ ps) ∙ omega arith) in
    let after : IsHighestAt (take (n + 1) (p ∷ ps)) i (visible (take (n + 1) (p ∷ ps)) i) = highest_more (p ∷ ps) n i (get_or (p ∷ ps) n p) p (visible (take n (p ∷ ps)) i) (visible (take (n + 1) (p ∷ ps)) i) l refl (visible_more (p ∷ ps) n i p l) before in
    subst (λ (qs : List Piece). IsHighestAt qs i (visible qs i)) (take_all (n + 1) (p ∷ ps) (omega arith)) after

pub visible_is_highest : law.VisibleIsHighest
visible_is_highest ps i = snoc_highest (length ps) ps i refl

-- ---- one answer is the highest

-- the element at an index, under another default
same_at : (ps : List Piece) (k : ℕ) (p d : Piece) → k < length ps → get_or ps k p ≡ p → get_or ps k d ≡ p
same_at ps k p d l e = get_or_default ps k d p l ∙ e

-- what gives the byte, and what gives another of the same version, give one byte
one_byte : (ps : List Piece) (i : ℕ) (s t : ℕ × ℕ) → law.AgreeAt ps i → s.0 ≡ t.0 → Any (GivesAt i s) ps → Any (GivesAt i t) ps → s.1 ≡ t.1
one_byte ps i s t agree same (k, p, k_in, at_k, (p_covers, p_version, p_byte)) (j, q, j_in, at_j, (q_covers, q_version, q_byte)) =
    let versions : p.version ≡ q.version = p_version ∙ same ∙ sym q_version in
    let here : get_or ps k p ≡ p = at_k in
    let there : get_or ps j p ≡ q = same_at ps j q p j_in at_j in
    let pair : (x y : Piece) → x ≡ p → y ≡ q → (x.version ≡ y.version → covers i x ≡ true → covers i y ≡ true → byte_of i x ≡ byte_of i y) → byte_of i p ≡ byte_of i q =
    λ x y e f agrees. sym (ap (byte_of i) e) ∙ agrees (ap version e ∙ versions ∙ sym (ap version f)) (ap (covers i) e ∙ p_covers) (ap (covers i) f ∙ q_covers) ∙ ap (byte_of i) f in
    let riap : (x y : Piece) → x ≡ q → y ≡ p → (x.version ≡ y.version → covers i x ≡ true → covers i y ≡ true → byte_of i x ≡ byte_of i y) → byte_of i p ≡ byte_of i q =
    λ x y e f agrees. sym (sym (ap (byte_of i) e) ∙ agrees (ap version e ∙ sym versions ∙ sym (ap version f)) (ap (covers i) e ∙ q_covers) (ap (covers i) f ∙ p_covers) ∙ ap (byte_of i) f) in
    let bytes : byte_of i p ≡ byte_of i q =
    case_on (nat_lt k j)
    (λ e. pair (get_or ps k p) (get_or ps j p) here there (agree k j p (ltb-true k j e) j_in))
    (λ e. case_on (nat_lt j k)
    (λ f. riap (get_or ps j p) (get_or ps k p) there here (agree j k p (ltb-true j k f) k_in))
    (λ f. let u : j ≤ k = ltb-false k j e in let v : k ≤ j = ltb-false j k f in let eq : k ≡ j = omega arith in
    ap (byte_of i) (sym here ∙ ap (λ n. get_or ps n p) eq ∙ there))) in
    sym p_byte ∙ bytes ∙ q_byte

-- a version that is given is at most the highest
at_most : (ps : List Piece) (i m : ℕ) (t : ℕ × ℕ) → Any (GivesAt i t) ps → All (λ p. covers i p ≡ true → p.version ≤ m) ps → t.0 ≤ m
at_most ps i m t (k, p, k_in, at_k, (p_covers, p_version, p_byte)) all =
    let h : (get_or ps k p).version ≤ m = all k p k_in (ap (covers i) at_k ∙ p_covers) in
    let e : (get_or ps k p).version ≡ p.version = ap version at_k in
    omega arith

none_gives : {P : Type 0} (ps : List Piece) (i : ℕ) (t : ℕ × ℕ) → Any (GivesAt i t) ps → All (λ p. covers i p ≢ true) ps → P
none_gives ps i t (k, p, k_in, at_k, (p_covers, p_version, p_byte)) none = absurd (none k p k_in (ap (covers i) at_k ∙ p_covers))

same_pair : (s t : ℕ × ℕ) → s.0 ≡ t.0 → s.1 ≡ t.1 → Some s ≡ Some t
same_pair (v, b) (w, c) e f = cc

one_highest : (ps : List Piece) (i : ℕ) (s t : Visible) → law.AgreeAt ps i → IsHighestAt ps i s → IsHighestAt ps i t → s ≡ t
one_highest ps i None None agree h g = refl
one_highest ps i None (Some t) agree h g = none_gives ps i t g.0 h
one_highest ps i (Some s) None agree h g = none_gives ps i s h.0 g
one_highest ps i (Some s) (Some t) agree h g =
    let below : s.0 ≤ t.0 = at_most ps i t.0 s h.0 g.1 in
    let above : t.0 ≤ s.0 = at_most ps i s.0 t g.0 h.1 in
    let versions : s.0 ≡ t.0 = omega arith in
    same_pair s t versions (one_byte ps i s t agree versions h.0 g.0)

pub only_one_is_highest : law.OnlyOneIsHighest
only_one_is_highest ps i s agree h = one_highest ps i s (visible ps i) agree h (visible_is_highest ps i)

-- ---- where a piece wins, and where it does not

stays : (i : ℕ) (p : Piece) (s : Visible) → (covers i p && outranks p.version s) ≡ false → overlaid i p s ≡ s
stays i p s e = rw e refl

left_no : (a b : Bool) → a ≡ false → (a && b) ≡ false
left_no a b e = rw e refl

right_no : (a b : Bool) → b ≡ false → (a && b) ≡ false
right_no true b e = e
right_no false b e = refl

lt_no : (a b : ℕ) → b ≤ a → nat_lt a b ≡ false
lt_no a b l = case_on (nat_lt a b) (λ e. let h : a < b = ltb-true a b e in absurd (omega arith)) (λ e. e)

pub past_end : (i : ℕ) (p : Piece) → end_of p ≤ i → covers i p ≡ false
past_end i p l = right_no (nat_le p.offset i) (nat_lt i (end_of p)) (lt_no i (end_of p) l)

contained : (ps : List Piece) (p : Piece) (i m : ℕ) → Contains ps p → covers i p ≡ true → All (λ p. covers i p ≡ true → p.version ≤ m) ps → p.version ≤ m
contained ps p i m (k, k_in, at_k) c all =
    let h : (get_or ps k p).version ≤ m = all k p k_in (ap (covers i) at_k ∙ c) in
    let e : (get_or ps k p).version ≡ p.version = ap version at_k in
    omega arith

pub again_changes_nothing : law.AgainChangesNothing
again_changes_nothing ps p i None (k, k_in, at_k) h =
    case_on (covers i p)
    (λ c. absurd (h k p k_in (ap (covers i) at_k ∙ c)))
    (λ c. stays i p None (left_no (covers i p) true c))
again_changes_nothing ps p i (Some t) there h =
    case_on (covers i p)
    (λ c. stays i p (Some t) (right_no (covers i p) (nat_lt t.0 p.version) (lt_no t.0 p.version (contained ps p i t.0 there c h.1))))
    (λ c. stays i p (Some t) (left_no (covers i p) (nat_lt t.0 p.version) c))

pub empty_changes_nothing : law.EmptyChangesNothing
empty_changes_nothing p i s e =
    case_on (nat_le p.offset i)
    (λ f. stays i p s (left_no (covers i p) (outranks p.version s) (past_end i p (let l : p.offset ≤ i = leb-true p.offset i f in omega arith))))
    (λ f. stays i p s (left_no (covers i p) (outranks p.version s) (left_no (nat_le p.offset i) (nat_lt i (end_of p)) f)))

-- ---- past every piece

visible_past : (ps : List Piece) (i : ℕ) (s : Visible) → All (λ p. end_of p < 2 ^ 32) ps → 4294967295 ≤ i → IsHighestAt ps i s → s ≡ None
visible_past ps i None h l at_i = refl
visible_past ps i (Some t) h l ((k, p, k_in, at_k, (p_covers, p_version, p_byte)), all) =
    let fits : end_of (get_or ps k p) < 2 ^ 32 = h k p k_in in
    let same : end_of (get_or ps k p) ≡ end_of p = ap end_of at_k in
    not_both (covers i p) p_covers (past_end i p (omega arith))

-- nothing is visible from 2 ^ 32 - 1 on, so a place past every piece may be taken for another such place
pub byte_capped : (ps : List Piece) (i j : ℕ) → All (λ p. end_of p < 2 ^ 32) ps → j ≡ min i 18446744073709551615 → byte_at (visible ps j) ≡ byte_at (visible ps i)
byte_capped ps i j h e =
    case_on (nat_lt i 18446744073709551615)
    (λ f. let l : i < 18446744073709551615 = ltb-true i 18446744073709551615 f in let same : j ≡ i = omega arith in ap (λ k. byte_at (visible ps k)) same)
    (λ f. let l : 18446744073709551615 ≤ i = ltb-false i 18446744073709551615 f in
    ap byte_at (visible_past ps j (visible ps j) h (omega arith) (visible_is_highest ps j)) ∙ sym (ap byte_at (visible_past ps i (visible ps i) h (omega arith) (visible_is_highest ps i))))

-- ---- a slice that was filled

pub filled : (out old : List ℕ) (f : ℕ → ℕ) → length out ≡ length old → ((k : ℕ) → k < length out → get_or out k 0 ≡ f k) → out ≡ each_below (length old) f
filled out old f e h =
    same_number_lists out (each_below (length old) f) (e ∙ sym (length-each_below (length old) f))
    (λ k l. h k l ∙ sym (get_or-each_below (length old) k f 0 (omega arith)))

-- ---- pieces in another order

any_permuted : {X : Type 0} (P : X → Type 0) (xs ys : List X) → IsPermutation xs ys → Any P xs → Any P ys
any_permuted P xs ys moved (k, x, k_in, at_k, here) =
    let there : Contains ys x = Contains-permutation xs ys x moved (k, k_in, at_k) in
    (there.0, x, there.1, there.2, here)

pub highest_permuted : (ps qs : List Piece) → IsPermutation ps qs → (i : ℕ) (s : Visible) → IsHighestAt qs i s → IsHighestAt ps i s
highest_permuted ps qs moved i None h = All-permutation (λ p. covers i p ≢ true) qs ps (IsPermutation-sym ps qs moved) h
highest_permuted ps qs moved i (Some t) h =
    let back : IsPermutation qs ps = IsPermutation-sym ps qs moved in
    (any_permuted (GivesAt i t) qs ps back h.0, All-permutation (λ p. covers i p ≡ true → p.version ≤ t.0) qs ps back h.1)

pub if_ok : {T E : Type 0} (r : Result T E) (P Q : T → Type 0) → ((x : T) → P x → Q x) → IfOk r P → IfOk r Q
if_ok (Ok x) P Q f h = f x h
if_ok (Err e) P Q f h = h
