-- The walk over what a write left: what is told from a cursor on, for a form in the block of the cursor.
use Rattle.std.proofs.Common.{◌≡◌, ◌≢◌, ℕ, suc, ◌+◌, ◌-◌, ◌*◌, ◌/◌, ◌%◌, ◌<◌, ◌≤◌, true, false, List, None, [], ◌∷◌, ◌++◌, length, take, drop, get_or, map, refl, sym, ap, ap₂, subst, ◌∙◌, arith, inl, inr, length-append}
use Rattle.std.specs.Prelude.{IsTrue, bytes_eq}
use Rattle.std.specs.List.{AllByRecursion}
use Rattle.std.proofs.lemmas.Bool.{cases_Bool, cases_lt, cond-true, cond-false, and_parts, both_ways}
use Rattle.std.proofs.lemmas.List.{get_or-take, drop-drop, take-append-drop, take-append-le, take_all, append-nil, length-take-le, length-replicate, ext_get_or}
use Rattle.std.proofs.lemmas.Nat.{div-mul-add, mod-mul-add}
use Rattle.std.proofs.lemmas.Slice.Eq.{bytes_eq-Decides}
use Rattle.flashbase.specs.Bytes.{pad4_of, erased}
use Rattle.flashbase.proofs.BytesLemmas.{le_pad4, pad4_words, pad4_least}
use Rattle.jnode.specs.Laws.{IsPlain}
use Rattle.jnode.specs.Weak.{torn, is_weak, IsLeastWeak}
use Rattle.jnode.specs.Writing.{filled}
use Rattle.jnode.specs.declared.node.Seen.{Seen}
use Rattle.jnode.specs.declared.order.Endian.{Endian}
use Rattle.jnode.proofs.WritingLemmas.{length-filled}
use Rattle.jnode.proofs.WeakLemmas.{behind}
use Rattle.jlog.specs.Places.{place_after, fit}
use Rattle.jlog.specs.Output.{output}
use Rattle.jlog.specs.Left.{intact}
use Rattle.jlog.specs.Forms.{IsStorableForm, IsLoggableForm, NoFormWeak, placed_forms, form_sighted}
use Rattle.jlog.proofs.ByteLemmas.{erased_end, erased_is, past_cut, cut_node}
use Rattle.jlog.proofs.PlaceLemmas.{times_words, place_here}
use Rattle.jlog.proofs.OutputLemmas.{output_here, intact_here, placed_here}
use Rattle.jlog.proofs.SightLemmas.{told, erased_told, marked_told, form_then, form_cut_told}
use Rattle.jlog.proofs.FlashLemmas.{Cursor, Flash, BlockLeft, Holds, clear_up, flash_moves, holds_behind, met, nothing_out, rest_byte, rest_long, up}

-- ---- what the walk is to give

-- the form stands in its block
abbrev pub StandsAt : ℕ → (ℕ → List ℕ) → ℕ × List ℕ → Type 0
StandsAt size flash placed = (more : List ℕ) × (drop (placed.0 % size) (flash (placed.0 / size)) ≡ filled placed.1 ++ more)

-- these are met from a cursor on, and nothing else
pub record GivesOf (e : Endian) (size : ℕ) (flash : ℕ → List ℕ) (d p n : ℕ) (kept : List (ℕ × List ℕ)) : Type 0 where
  pub told : met e size flash d p n ≡ map (form_sighted e) kept
  pub stand : AllByRecursion (StandsAt size flash) kept

abbrev pub Gives : Endian → ℕ → (ℕ → List ℕ) → ℕ → ℕ → ℕ → ℕ → ℕ → List (List ℕ) → Type 0
Gives e size flash c d p n k xs = GivesOf e size flash d p n (take (intact size c k xs) (placed_forms size c xs))

pub gives_none : (e : Endian) (size : ℕ) (flash : ℕ → List ℕ) (d p n : ℕ) (kept : List (ℕ × List ℕ)) → met e size flash d p n ≡ [] → kept ≡ [] → GivesOf e size flash d p n kept
gives_none e size flash d p n kept none are = subst (GivesOf e size flash d p n) (sym are) (record { told = none; stand = tt })

pub gives_moved : (e : Endian) (size : ℕ) (flash : ℕ → List ℕ) (d p n d' p' n' : ℕ) (kept kept' : List (ℕ × List ℕ)) → met e size flash d p n ≡ met e size flash d' p' n' → kept ≡ kept'
    → GivesOf e size flash d' p' n' kept' → GivesOf e size flash d p n kept
gives_moved e size flash d p n d' p' n' kept kept' same are on = subst (GivesOf e size flash d p n) (sym are) (record { told = same ∙ on.told; stand = on.stand })

-- each cut of these is seen: their lengths spell no node where a header is torn, and none is weak
abbrev pub CutsSeen : Endian → List (List ℕ) → Type 0
CutsSeen e xs = AllByRecursion (λ x. IsPlain (length x) × IsLeastWeak e x None) xs

pub cuts_seen : (e : Endian) (size : ℕ) (xs : List (List ℕ)) → AllByRecursion (IsLoggableForm e size) xs → NoFormWeak e xs → CutsSeen e xs
cuts_seen e size [] ok none = tt
cuts_seen e size (x ∷ xs) ok none = ((ok.0.plain, none.0), cuts_seen e size xs ok.1 none.1)

-- None of the first nodes is cut, and a cut of each of those after them is seen.
pub record Sure (e : Endian) (size c k : ℕ) (xs : List (List ℕ)) : Type 0 where
  pub first : List (List ℕ)
  pub rest : List (List ℕ)
  pub both : xs ≡ first ++ rest
  pub uncut : length (output e size c first) ≤ k
  pub seen : CutsSeen e rest

all_seen : (e : Endian) (size c k : ℕ) (xs : List (List ℕ)) → CutsSeen e xs → Sure e size c k xs
all_seen e size c k xs seen = record { first = []; rest = xs; both = refl; uncut = omega arith; seen = seen }

pub none_weak : (e : Endian) (size c k : ℕ) (xs : List (List ℕ)) → AllByRecursion (IsLoggableForm e size) xs → NoFormWeak e xs → Sure e size c k xs
none_weak e size c k xs ok none = all_seen e size c k xs (cuts_seen e size xs ok none)

pub none_cut : (e : Endian) (size c k : ℕ) (xs : List (List ℕ)) → length (output e size c xs) ≤ k → Sure e size c k xs
none_cut e size c k xs all = record { first = xs; rest = []; both = sym (append-nil xs); uncut = all; seen = tt }

-- after the first node
sure_on : (e : Endian) (size c c' m k : ℕ) (x : List ℕ) (xs first rest : List (List ℕ))
    → ((ys : List (List ℕ)) → length (output e size c (x ∷ ys)) ≡ m + length (output e size c' ys))
    → x ∷ xs ≡ first ++ rest → length (output e size c first) ≤ k → CutsSeen e rest → Sure e size c' (k - m) xs
sure_on e size c c' m k x xs [] rest len both uncut seen = all_seen e size c' (k - m) xs (subst (CutsSeen e) (sym both) seen).1
sure_on e size c c' m k x xs (y ∷ first) rest len both uncut seen =
    let head : y ≡ x = cc in
    let tail : xs ≡ first ++ rest = cc in
    let long : length (output e size c (x ∷ first)) ≤ k = subst (λ (z : List ℕ). length (output e size c (z ∷ first)) ≤ k) head uncut in
    record { first = first; rest = rest; both = tail; uncut = omega (arith, long, len first); seen = seen }

-- and from an address up to which no node begins
pub sure_skips : (e : Endian) (size c c' k : ℕ) (front : List ℕ) (x : List ℕ) (xs : List (List ℕ))
    → ((ys : List (List ℕ)) → output e size c (x ∷ ys) ≡ front ++ output e size c' (x ∷ ys))
    → Sure e size c k (x ∷ xs) → Sure e size c' (k - length front) (x ∷ xs)
sure_skips e size c c' k front x xs out_is sure = by sure.first sure.rest sure.both sure.uncut sure.seen
  where
    by : (first rest : List (List ℕ)) → x ∷ xs ≡ first ++ rest → length (output e size c first) ≤ k → CutsSeen e rest → Sure e size c' (k - length front) (x ∷ xs)
    by [] rest both uncut seen = all_seen e size c' (k - length front) (x ∷ xs) (subst (CutsSeen e) (sym both) seen)
    by (y ∷ first) rest both uncut seen =
        let head : y ≡ x = cc in
        let long : length (output e size c (x ∷ first)) ≤ k = subst (λ (z : List ℕ). length (output e size c (z ∷ first)) ≤ k) head uncut in
        record {
          first = x ∷ first;
          rest = rest;
          both = subst (λ (z : List ℕ). x ∷ xs ≡ z ∷ (first ++ rest)) head both;
          uncut = omega (arith, long, ap length (out_is first), length-append front (output e size c' (x ∷ first)));
          seen = seen;
        }

-- n blocks follow the cursor's, these nodes fit there, and the flash is as a stop after k of their bytes leaves it
pub record Stands (e : Endian) (size blocks : ℕ) (flash : ℕ → List ℕ) (c d p n k : ℕ) (xs : List (List ℕ)) : Type 0 where
  pub cursor : Cursor size c d p
  pub ends : suc (d + n) ≡ blocks
  pub room : IsTrue (fit size blocks c xs)
  pub sure : Sure e size c k xs
  pub left : Flash e size c blocks flash (output e size c xs) k

abbrev pub Walks : Endian → ℕ → ℕ → (ℕ → List ℕ) → List (List ℕ) → Type 0
Walks e size blocks flash xs = (c d p n k : ℕ) → Stands e size blocks flash c d p n k xs → Gives e size flash c d p n k xs

-- ---- no node left

rest_clear : (e : Endian) (size c k d p : ℕ) (block : List ℕ) → Cursor size c d p → length block ≡ size → BlockLeft e size c [] k block d → told e (d * size) p (drop p block) ≡ []
rest_clear e size c k d p block at long (inl holds) =
    ap (told e (d * size) p)
    (erased_is (drop p block) (size - p) (rest_long size p block long) (λ i inside. rest_byte size c d p (take k []) block at.at holds i inside ∙ nothing_out i k))
    ∙ erased_told e (d * size) p (size - p)
rest_clear e size c k d p block at long (inr (j, m)) =
    let none : p ≡ 0 = omega (arith, m.unwritten, at.at) in
    ap (λ (q : ℕ). told e (d * size) q (drop q block)) none
    ∙ (ap (told e (d * size) 0) m.is ∙ marked_told e (d * size) size j m.most (omega (arith, at.large)))

pub walks_none : (e : Endian) (size blocks : ℕ) (flash : ℕ → List ℕ) → Walks e size blocks flash []
walks_none e size blocks flash c d p n k at =
    let ends : suc (d + n) ≡ blocks = at.ends in
    let large : 12 ≤ size = omega (arith, at.cursor.large) in
    let next : c ≤ suc d * size = omega (arith, at.cursor.at, at.cursor.high) in
    record {
      told = ap (λ (ss : List (ℕ × Seen)). ss ++ up e size flash (suc d) n)
          (rest_clear e size c k d p (flash d) at.cursor (at.left.long d (omega arith)) (at.left.each d (omega arith)))
          ∙ clear_up e size c k blocks [] flash (suc d) n large (λ i. nothing_out i k) next (omega arith) at.left;
      stand = tt;
    }

-- ---- one more node, in the block of the cursor

-- it is intact
rest_whole : (size c k d p : ℕ) (node out block : List ℕ) → c ≡ d * size + p → length block ≡ size → p + pad4_of (length node) ≤ size
    → Holds size c (take k (filled node ++ out)) block d → torn node k ≡ node
    → drop p block ≡ filled node ++ drop (p + pad4_of (length node)) block
rest_whole size c k d p node out block at long room holds whole =
    let m : ℕ = pad4_of (length node) in
    let rest : List ℕ = drop p block in
    let len : length (take m rest) ≡ m = length-take-le m rest (omega (arith, rest_long size p block long)) in
    let front : take m rest ≡ filled node =
    ext_get_or 0xFF (take m rest) (filled node) (len ∙ sym (length-filled node)) (λ i inside.
    let few : i < m = omega (arith, inside, len) in
    get_or-take m rest i 0xFF few
    ∙ (rest_byte size c d p (take k (filled node ++ out)) block at holds i (omega arith)
    ∙ (cut_node node out k i few
    ∙ (ap (λ (xs : List ℕ). get_or xs i 0xFF) whole
    ∙ sym (erased_end node (pad4_of (length node) - length node) i))))) in
    sym (take-append-drop m rest) ∙ ap₂ (λ (xs ys : List ℕ). xs ++ ys) front (drop-drop m p block)

-- or it was cut
rest_cut : (size c k d p : ℕ) (node out block : List ℕ) → c ≡ d * size + p → length block ≡ size → k < length node → p + length node ≤ size
    → Holds size c (take k (filled node ++ out)) block d
    → drop p block ≡ take k node ++ erased (size - p - k)
rest_cut size c k d p node out block at long cut room holds =
    let rest : List ℕ = drop p block in
    let front : length (take k node) ≡ k = length-take-le k node (omega arith) in
    let within : k ≤ length (filled node) = omega (arith, length-filled node, le_pad4 (length node)) in
    let same : take k (filled node ++ out) ≡ take k node =
    take-append-le k (filled node) out within ∙ take-append-le k node (erased (pad4_of (length node) - length node)) (omega arith) in
    let len : length rest ≡ length (take k node ++ erased (size - p - k)) =
    omega (arith, rest_long size p block long, length-append (take k node) (erased (size - p - k)), front, length-replicate {A = ℕ} (size - p - k) 0xFF) in
    ext_get_or 0xFF rest (take k node ++ erased (size - p - k)) len (λ i inside.
    rest_byte size c d p (take k (filled node ++ out)) block at holds i (omega (arith, inside, rest_long size p block long))
    ∙ (ap (λ (xs : List ℕ). get_or xs i 0xFF) same ∙ sym (erased_end (take k node) (size - p - k) i)))

cursor_on : (size c d p len : ℕ) → Cursor size c d p → 12 ≤ p → p + len ≤ size → Cursor size (c + pad4_of len) d (p + pad4_of len)
cursor_on size c d p len at behind room =
    let words : pad4_of len % 4 ≡ 0 = pad4_words len in
    let within : pad4_of len ≤ size - p = pad4_least len (size - p) (omega arith) (omega (arith, at.words, at.sized, at.high)) in
    record {
      sized = at.sized;
      large = at.large;
      small = at.small;
      at = omega (arith, at.at);
      words = omega (arith, at.words);
      high = omega (arith, at.high);
      beside = inr (omega arith);
    }

pub torn_all : (node : List ℕ) (k : ℕ) → length node ≤ k → torn node k ≡ node
torn_all node k all =
    let none : length node - k ≡ 0 = omega arith in
    ap₂ (λ (xs : List ℕ) (n : ℕ). xs ++ erased n) (take_all k node all) none ∙ append-nil node

pub cursor_words : (size c d p : ℕ) → Cursor size c d p → c % 4 ≡ 0
cursor_words size c d p at = omega (arith, at.at, at.words, times_words d size at.sized)

room_on : (size blocks c : ℕ) (node : List ℕ) (nodes : List (List ℕ)) → IsTrue (fit size blocks c (node ∷ nodes))
    → IsTrue (fit size blocks (place_after size c (length node) + pad4_of (length node)) nodes)
room_on size blocks c node nodes room = (and_parts _ _ room).1

-- what is left of the rest, after a node in the block of the cursor
stands_on : (e : Endian) (size blocks : ℕ) (flash : ℕ → List ℕ) (c d p n k : ℕ) (x : List ℕ) (xs : List (List ℕ)) → IsStorableForm e size x → 12 ≤ p → p + length x ≤ size
    → Stands e size blocks flash c d p n k (x ∷ xs)
    → Stands e size blocks flash (c + pad4_of (length x)) d (p + pad4_of (length x)) n (k - pad4_of (length x)) xs
stands_on e size blocks flash c d p n k x xs ok behind room at =
    let node : List ℕ = x in
    let m : ℕ = pad4_of (length node) in
    let some : 0 < length node = omega (arith, ok.is.least) in
    let words : c % 4 ≡ 0 = cursor_words size c d p at.cursor in
    let low : d * size + 12 ≤ c = omega (arith, at.cursor.at) in
    let high : c + length node ≤ d * size + size = omega (arith, at.cursor.at) in
    let next : List ℕ = output e size (c + m) xs in
    let out_is : output e size c (node ∷ xs) ≡ filled node ++ next = output_here e size c d node xs words low high some in
    let cursor : Cursor size (c + m) d (p + m) = cursor_on size c d p (length node) at.cursor behind room in
    let sum : c + length (filled node) ≡ c + m = ap (λ (n : ℕ). c + n) (length-filled node) in
    let len : (ys : List (List ℕ)) → length (output e size c (x ∷ ys)) ≡ m + length (output e size (c + m) ys) = λ ys.
    ap length (output_here e size c d node ys words low high some)
    ∙ (length-append (filled node) (output e size (c + m) ys) ∙ ap (λ (n : ℕ). n + length (output e size (c + m) ys)) (length-filled node)) in
    let moved : Flash e size (c + m) blocks flash next (k - length (filled node)) =
    flash_moves e size c (c + m) d (p + m) k blocks flash (filled node) next cursor sum (subst (λ (o : List ℕ). Flash e size c blocks flash o k) out_is at.left) in
    let fits : IsTrue (fit size blocks (place_after size c (length node) + m) xs) = room_on size blocks c node xs at.room in
    record {
      cursor = cursor;
      ends = at.ends;
      room = subst (λ (q : ℕ). IsTrue (fit size blocks (q + m) xs)) (place_here size c d (length node) words low high some) fits;
      sure = sure_on e size c (c + m) m k x xs at.sure.first at.sure.rest (λ ys. len ys) at.sure.both at.sure.uncut at.sure.seen;
      left = subst (λ (n : ℕ). Flash e size (c + m) blocks flash next (k - n)) (length-filled node) moved;
    }

cut_is_seen : (e : Endian) (size c k : ℕ) (x : List ℕ) (xs : List (List ℕ)) → Sure e size c k (x ∷ xs) → ((ys : List (List ℕ)) → length (output e size c (x ∷ ys)) ≤ k → ⊥)
    → IsPlain (length x) × (is_weak e x k ≡ false)
cut_is_seen e size c k x xs sure cut = by sure.first sure.rest sure.both sure.uncut sure.seen
  where
    by : (first rest : List (List ℕ)) → x ∷ xs ≡ first ++ rest → length (output e size c first) ≤ k → CutsSeen e rest → IsPlain (length x) × (is_weak e x k ≡ false)
    by [] rest both uncut seen = let its = (subst (CutsSeen e) (sym both) seen).0 in (its.0, its.1 k)
    by (y ∷ first) rest both uncut seen =
        let head : y ≡ x = cc in
        absurd (cut first (subst (λ (z : List ℕ). length (output e size c (z ∷ first)) ≤ k) head uncut))

-- it is intact, and the walk goes on after it
here_whole : (e : Endian) (size blocks : ℕ) (flash : ℕ → List ℕ) (c d p n k : ℕ) (x : List ℕ) (xs : List (List ℕ)) → IsStorableForm e size x → Walks e size blocks flash xs
    → 12 ≤ p → p + length x ≤ size → Stands e size blocks flash c d p n k (x ∷ xs) → bytes_eq (torn x k) x ≡ true
    → Gives e size flash c d p n k (x ∷ xs)
here_whole e size blocks flash c d p n k x xs ok walks behind room at whole =
    let node : List ℕ = x in
    let m : ℕ = pad4_of (length node) in
    let some : 0 < length node = omega (arith, ok.is.least) in
    let words : c % 4 ≡ 0 = cursor_words size c d p at.cursor in
    let low : d * size + 12 ≤ c = omega (arith, at.cursor.at) in
    let high : c + length node ≤ d * size + size = omega (arith, at.cursor.at) in
    let ends : suc (d + n) ≡ blocks = at.ends in
    let next : List ℕ = output e size (c + m) xs in
    let on = stands_on e size blocks flash c d p n k x xs ok behind room at in
    let left : Flash e size c blocks flash (filled node ++ next) k =
    subst (λ (o : List ℕ). Flash e size c blocks flash o k) (output_here e size c d node xs words low high some) at.left in
    let holds : Holds size c (take k (filled node ++ next)) (flash d) d =
    holds_behind e size c k d p (filled node ++ next) (flash d) at.cursor.at behind (left.each d (omega arith)) in
    let shown : drop p (flash d) ≡ filled node ++ drop (p + m) (flash d) =
    rest_whole size c k d p node next (flash d) at.cursor.at (left.long d (omega arith)) (omega (arith, on.cursor.high)) holds ((bytes_eq-Decides _ _).0 whole) in
    let later : ℕ = intact size (c + m) (k - m) xs in
    let kept : List (ℕ × List ℕ) = take later (placed_forms size (c + m) xs) in
    let count : intact size c k (x ∷ xs) ≡ suc later =
    intact_here size c d k node xs words low high some ∙ cond-true (bytes_eq (torn node k) node) (suc later) 0 whole in
    let are : take (intact size c k (x ∷ xs)) (placed_forms size c (x ∷ xs)) ≡ (c, x) ∷ kept =
    ap₂ (λ (i : ℕ) (ns : List (ℕ × List ℕ)). take i ns) count (placed_here size c d x xs words low high some) in
    let rest : Gives e size flash (c + m) d (p + m) n (k - m) xs = walks (c + m) d (p + m) n (k - m) on in
    let same : d * size + p ≡ c = sym at.cursor.at in
    let inside : p < size = omega (arith, room, some) in
    let which : c / size ≡ d = ap (λ (a : ℕ). a / size) at.cursor.at ∙ div-mul-add d size p inside in
    let place : c % size ≡ p = ap (λ (a : ℕ). a % size) at.cursor.at ∙ mod-mul-add d size p inside in
    let there : drop (c % size) (flash (c / size)) ≡ filled x ++ drop (p + m) (flash d) =
    ap (λ (b : ℕ). drop (c % size) (flash b)) which ∙ (ap (λ (a : ℕ). drop a (flash d)) place ∙ shown) in
    subst (GivesOf e size flash d p n) (sym are)
    (record {
      told = ap (λ (ss : List (ℕ × Seen)). ss ++ up e size flash (suc d) n)
          (ap (told e (d * size) p) shown ∙ form_then e (d * size) p x (drop (p + m) (flash d)) ok.is)
          ∙ (ap (λ (ss : List (ℕ × Seen)). form_sighted e (d * size + p, x) ∷ ss) rest.told
          ∙ ap (λ (q : ℕ). form_sighted e (q, x) ∷ map (form_sighted e) kept) same);
      stand = ((drop (p + m) (flash d), there), rest.stand);
    })

-- it was cut, and nothing is told from there on
here_cut : (e : Endian) (size blocks : ℕ) (flash : ℕ → List ℕ) (c d p n k : ℕ) (x : List ℕ) (xs : List (List ℕ)) → IsStorableForm e size x
    → 12 ≤ p → p + length x ≤ size → Stands e size blocks flash c d p n k (x ∷ xs) → bytes_eq (torn x k) x ≡ false
    → Gives e size flash c d p n k (x ∷ xs)
here_cut e size blocks flash c d p n k x xs ok behind room at differs =
    let node : List ℕ = x in
    let m : ℕ = pad4_of (length node) in
    let some : 0 < length node = omega (arith, ok.is.least) in
    let words : c % 4 ≡ 0 = cursor_words size c d p at.cursor in
    let low : d * size + 12 ≤ c = omega (arith, at.cursor.at) in
    let high : c + length node ≤ d * size + size = omega (arith, at.cursor.at) in
    let ends : suc (d + n) ≡ blocks = at.ends in
    let next : List ℕ = output e size (c + m) xs in
    let on = stands_on e size blocks flash c d p n k x xs ok behind room at in
    let out_is : output e size c (x ∷ xs) ≡ filled node ++ next = output_here e size c d node xs words low high some in
    let left : Flash e size c blocks flash (filled node ++ next) k = subst (λ (o : List ℕ). Flash e size c blocks flash o k) out_is at.left in
    let holds : Holds size c (take k (filled node ++ next)) (flash d) d =
    holds_behind e size c k d p (filled node ++ next) (flash d) at.cursor.at behind (left.each d (omega arith)) in
    let changed : torn node k ≢ node = λ is. both_ways _ differs ((bytes_eq-Decides _ _).1 is) in
    let cut : k < length node = elim (cases_lt k (length node)) [ inl less ↦ less | inr all ↦ absurd (changed (torn_all node k all)) ] in
    let seen : IsPlain (length node) × (is_weak e node k ≡ false) =
    cut_is_seen e size c k x xs at.sure (λ ys all.
    omega (arith, all, ap length (output_here e size c d node ys words low high some), length-append (filled node) (output e size (c + m) ys), length-filled node, le_pad4 (length node))) in
    let shown : drop p (flash d) ≡ take k node ++ erased (size - p - k) =
    rest_cut size c k d p node next (flash d) at.cursor.at (left.long d (omega arith)) cut room holds in
    let none : told e (d * size) p (drop p (flash d)) ≡ [] =
    ap (told e (d * size) p) shown
    ∙ form_cut_told e (d * size) p k (size - p - k) x ok.is seen.0 (omega arith) (omega (arith, on.cursor.high)) (omega (arith, at.cursor.small)) changed seen.1 in
    let clear : k - m ≡ 0 = omega (arith, le_pad4 (length node)) in
    let above : c + m ≤ suc d * size = omega (arith, on.cursor.at, on.cursor.high) in
    let later : ℕ = intact size (c + m) (k - m) xs in
    let count : intact size c k (x ∷ xs) ≡ 0 =
    intact_here size c d k node xs words low high some ∙ cond-false (bytes_eq (torn node k) node) (suc later) 0 differs in
    gives_none e size flash d p n (take (intact size c k (x ∷ xs)) (placed_forms size c (x ∷ xs)))
    (ap (λ (ss : List (ℕ × Seen)). ss ++ up e size flash (suc d) n) none
    ∙ clear_up e size (c + m) (k - m) blocks next flash (suc d) n (omega (arith, at.cursor.large)) (λ i. past_cut next (k - m) i (omega (arith, clear))) above (omega arith) on.left)
    (ap (λ (i : ℕ). take i (placed_forms size c (x ∷ xs))) count)

pub here : (e : Endian) (size blocks : ℕ) (flash : ℕ → List ℕ) (c d p n k : ℕ) (x : List ℕ) (xs : List (List ℕ)) → IsStorableForm e size x → Walks e size blocks flash xs
    → 12 ≤ p → p + length x ≤ size → Stands e size blocks flash c d p n k (x ∷ xs) → Gives e size flash c d p n k (x ∷ xs)
here e size blocks flash c d p n k x xs ok walks behind room at = elim (cases_Bool (bytes_eq (torn x k) x)) [
  | inl whole ↦ here_whole e size blocks flash c d p n k x xs ok walks behind room at whole
  | inr differs ↦ here_cut e size blocks flash c d p n k x xs ok behind room at differs
]
