-- A walk through the openings of a row, form by form.
use Rattle.std.proofs.Common.{◌≡◌, ℕ, zero, suc, Option, Some, ◌+◌, ◌-◌, ◌*◌, ◌/◌, ◌%◌, ◌<◌, ◌≤◌, Bool, false, List, [], ◌∷◌, ◌++◌, length, map, take, drop, get_or, refl, sym, ap, ap₂, subst, ◌∙◌, arith, inl, inr, append_assoc, append-nil, length-append}
use Rattle.std.specs.Prelude.{IsTrue, ◌==◌, nat_le, slice_get}
use Rattle.std.specs.List.{AllByRecursion}
use Rattle.std.proofs.lemmas.Bool.{cases_Bool, cond-true, cond-false, eq-eqb, leb-true}
use Rattle.std.proofs.Math.Seq.{drop-cons}
use Rattle.std.proofs.lemmas.List.{drop_all, drop_at, length-map, take_at}
use Rattle.std.proofs.lemmas.Option.{slice_get-get_or}
use Rattle.std.proofs.lemmas.Nat.{div-mul-add}
use Rattle.flashbase.specs.Bytes.{erased, pad4_of}
use Rattle.flashbase.proofs.BytesLemmas.{le_pad4}
use Rattle.jnode.specs.Weak.{IsWrittenForm}
use Rattle.jnode.specs.Writing.{filled}
use Rattle.jnode.specs.declared.order.Endian.{Endian}
use Rattle.jlog.specs.Laws.{FitsBlock}
use Rattle.jlog.specs.Left.{bytes_at}
use Rattle.jlog.specs.Output.{gap}
use Rattle.jlog.specs.Places.{place_after, end_after, is_writable_flash}
use Rattle.jlog.specs.Running.{shown_place}
use Rattle.jlog.specs.declared.report.Place.{Place}
use Rattle.jlog.specs.declared.writing.Blocks.{Blocks}
use Rattle.jlog.proofs.CodeLemmas.{flash_limits}
use Rattle.jlog.proofs.IntactLemmas.{first_gap, first_out}
use Rattle.jlog.proofs.PlaceLemmas.{place_is_least}
use Rattle.jcuts.specs.Standing.{IsNodeIn, least_weak, standing_at, standing_in, whole_len}
use Rattle.jcuts.specs.declared.standing.Standing.{Standing}
use Rattle.jcuts.proofs.PlanLemmas.{flash_words}
use Rattle.jrow.proofs.RowCodeLemmas.{block_within}
use Rattle.jrow.proofs.WithRowLemmas.{not_same}
use Rattle.jrests.specs.Openings.{AreUpwards}
use Rattle.jrests.specs.Shares.{shares, places_in, fit_in}
use Rattle.jrests.specs.declared.opening.Opening.{Opening}
use Rattle.jopenings.specs.After.{moved_opening, output_to_all, row_after, row_after_all}
use Rattle.jopenings.proofs.AfterLemmas.{no_places, output_step, places_step}
use Rattle.jopenings.specs.declared.placing.Stretch.{Stretch}
use Rattle.jupdate.specs.Rows.{IsOpen, begins_of, gone_on, opened, reached}
use Rattle.jupdate.proofs.RowLemmas.{gone, goes_to, left_none, reached_here, reached_next, reached_open, row_stays_open}
use Rattle.jhalts.specs.InShares.{row_address, standings_in_shares}
use Rattle.jhalts.specs.Walk.{ArePutIn, IsRowOpen, from_block, row_of_walk}
use Rattle.jhalts.specs.declared.walking.Walk.{Walk}
use Rattle.jhalts.proofs.StandingLemmas.{first_form, no_standings, reached_upwards, standings_next}

-- ---- the opening of a block

pub block_here : (b : ℕ) (o : Opening) (row : List Opening) → o.block ≡ b → from_block b (o ∷ row) ≡ o ∷ row
block_here b o row same = cond-true (o.block == b) (o ∷ row) (from_block b row) (eq-eqb o.block b same)

pub block_next : (b : ℕ) (o : Opening) (row : List Opening) → (o.block == b) ≡ false → from_block b (o ∷ row) ≡ from_block b row
block_next b o row other = cond-false (o.block == b) (o ∷ row) (from_block b row) other

-- the first opening that takes a form is the one of its block
pub reached_block : (size lo blocks len : ℕ) (row : List Opening) (o : Opening) (rest : List Opening) → AreUpwards lo blocks row → reached size row len ≡ o ∷ rest → from_block o.block row ≡ o ∷ rest
reached_block size lo blocks len [] o rest up is = cc
reached_block size lo blocks len (q ∷ row) o rest up is = elim (cases_Bool (nat_le (place_after size q.place len + len) size)) [
  | inl inside ↦
      let at : q ∷ row ≡ o ∷ rest = sym (reached_here size len q row inside) ∙ is in
      let first : q ≡ o = cc in
      block_here o.block q row (ap (λ (p : Opening). p.block) first) ∙ at
  | inr outside ↦
      let next : reached size row len ≡ o ∷ rest = sym (reached_next size len q row outside) ∙ is in
      let later = reached_upwards size (q.block + 1) blocks len row o rest up.2 next in
      block_next o.block q row (not_same q.block o.block (λ same. omega (arith, same, later.0))) ∙ reached_block size (q.block + 1) blocks len row o rest up.2 next
]

-- ---- where a walk is

pub begin_at : (ss : List Stretch) (i : ℕ) (s : Stretch) → slice_get ss i ≡ Some s → gone_on (drop i (begins_of ss)) s.place ≡ drop i (begins_of ss)
begin_at [] i s is = cc
begin_at (x ∷ ss) zero s is =
    let same : s ≡ x = cc in
    ap (λ (y : Stretch). gone (opened x) y.place ∷ begins_of ss) same
begin_at (x ∷ ss) (suc i) s is = begin_at ss i s is

pub row_some : (ss : List Stretch) (i p : ℕ) (s : Stretch) → slice_get ss i ≡ Some s → gone_on (drop i (begins_of ss)) p ≡ gone (opened s) p ∷ drop (suc i) (begins_of ss)
row_some [] i p s is = cc
row_some (x ∷ ss) zero p s is =
    let same : x ≡ s = cc in
    ap (λ (y : Stretch). gone (opened y) p ∷ begins_of ss) same
row_some (x ∷ ss) (suc i) p s is = row_some ss i p s is

pub row_none : (ss : List Stretch) (i p : ℕ) → length ss ≤ i → gone_on (drop i (begins_of ss)) p ≡ []
row_none ss i p past = left_none (begins_of ss) i p (omega (arith, past, length-map ss opened))

pub gone_row : (ss : List Stretch) (i p : ℕ) (d : Stretch) → i < length ss → gone_on (drop i (begins_of ss)) p ≡ gone (opened (get_or ss i d)) p ∷ drop (suc i) (begins_of ss)
gone_row ss i p d below = row_some ss i p (get_or ss i d) (slice_get-get_or ss i d below)

-- an address on the flash
pub address_small : (flash : Blocks) (ss : List Stretch) (walk : Walk) (s : Stretch) → slice_get ss walk.passed ≡ Some s → IsRowOpen flash (row_of_walk ss walk) → s.block * flash.size + walk.place ≤ 268435456
address_small flash ss walk s is open_row =
    let each = subst (AllByRecursion (IsOpen flash.size flash.count)) (row_some ss walk.passed walk.place s is) open_row.each in
    let low : s.block * flash.size + flash.size ≤ 268435456 = block_within flash.size flash.count s.block 268435456 each.0.within (flash_limits flash.size flash.count open_row.writable).small in
    omega (arith, low, each.0.inside)

-- ---- the next form

-- a node behind what went out before it
node_is : (start at : ℕ) (before node more : List ℕ) → start + length before ≡ at
    → (bytes_at start (before ++ (filled node ++ more)) (at, length node) ≡ node) × (at - start + length node ≤ length (before ++ (filled node ++ more)))
node_is start at before node more sum =
    let pad : List ℕ = erased (pad4_of (length node) - length node) in
    let skip : length before ≡ at - start = omega arith in
    let behind : filled node ++ more ≡ node ++ (pad ++ more) = append_assoc node pad more in (
      ap (take (length node)) (drop_at before (filled node ++ more) (at - start) skip ∙ behind) ∙ take_at node (pad ++ more) (length node) refl,
      omega (arith, length-append before (filled node ++ more), length-append (filled node) more, length-append node pad),
    )

-- The first of some places, of forms that were put to a row, is that of a form in the opening of its
-- block.
pub record NextForm (e : Endian) (flash : Blocks) (row : List Opening) (forms : List (List ℕ)) (out : List ℕ) (p : Place) (ps : List Place) : Type 0 where
  pub x : List ℕ
  pub xs : List (List ℕ)
  pub opening : Opening
  pub rest : List Opening
  pub forms_are : forms ≡ x ∷ xs
  pub after : row_after flash.size row x ≡ moved_opening flash.size opening x ∷ rest
  pub block : p.addr / flash.size ≡ opening.block
  pub reached : from_block (p.addr / flash.size) row ≡ opening ∷ rest
  pub addr : p.addr ≡ opening.block * flash.size + place_after flash.size opening.place (length x)
  pub long : p.totlen ≡ length x
  pub is_open : IsOpen flash.size flash.count opening
  pub up : opening.place ≤ place_after flash.size opening.place (length x)
  pub ends : end_after flash.size opening.place (length x) ≤ flash.size
  pub low : opening.block * flash.size + flash.size ≤ 268435456
  pub first : IsNodeIn e (opening.block * flash.size + opening.place) out p
  pub told : standings_in_shares e flash.size (shares flash.size row forms)
      ≡ standing_in e (opening.block * flash.size + opening.place) out p ∷ standings_in_shares e flash.size (shares flash.size (moved_opening flash.size opening x ∷ rest) xs)
  pub passes : end_after flash.size opening.place (length x) - opening.place ≤ length out
  pub next : ArePutIn e flash (moved_opening flash.size opening x ∷ rest) xs (drop (end_after flash.size opening.place (length x) - opening.place) out) ps

-- places of no forms are none
some_forms : (e : Endian) (flash : Blocks) (row : List Opening) (out : List ℕ) (p : Place) (ps : List Place) → ArePutIn e flash row [] out (p ∷ ps) → ⊥
some_forms e flash row out p ps put =
    let none : p ∷ ps ≡ [] = put.placed ∙ ap (map shown_place) (no_places flash.size row) in
    cc

pub next_form : (e : Endian) (flash : Blocks) (row : List Opening) (forms : List (List ℕ)) (out : List ℕ) (p : Place) (ps : List Place) → ArePutIn e flash row forms out (p ∷ ps)
    → NextForm e flash row forms out p ps
next_form e flash row [] out p ps put = absurd (some_forms e flash row out p ps put)
next_form e flash row (x ∷ xs) out p ps put =
    let size : ℕ = flash.size in
    let it = first_form e size row x xs put.fits in
    let o : Opening = it.opening in
    let len : ℕ = length x in
    let at : ℕ = place_after size o.place len in
    let end : ℕ = end_after size o.place len in
    let b : ℕ = o.block * size in
    let next : List Opening = moved_opening size o x ∷ it.rest in
    let goes = goes_to e size row x o it.rest it.is in
    let words : size % 4 ≡ 0 = flash_words size flash.count put.writable in
    let limits = flash_limits size flash.count put.writable in
    let is_open : IsOpen size flash.count o = reached_open size flash.count len row o it.rest put.each it.is in
    let up : o.place ≤ at = (place_is_least size o.place len words put.room.0.some put.room.0.within).place.upwards in
    let inside : at + len ≤ size = leb-true _ _ goes.takes in
    let moved : AllByRecursion (IsOpen size flash.count) next = subst (AllByRecursion (IsOpen size flash.count)) it.after (row_stays_open size flash.count row x words put.room.0 put.each) in
    let low : b + size ≤ 268435456 = block_within size flash.count o.block 268435456 is_open.within limits.small in
    let both : places_in size (shares size row (x ∷ xs)) ≡ (b + at, len) ∷ places_in size (shares size next xs) =
    places_step size row x xs ∙ ap₂ (λ (l : List (ℕ × ℕ)) (r : List Opening). l ++ places_in size (shares size r xs)) goes.places it.after in
    let all : p ∷ ps ≡ shown_place (b + at, len) ∷ map shown_place (places_in size (shares size next xs)) = put.placed ∙ ap (map shown_place) both in
    let p_is : p ≡ shown_place (b + at, len) = cc in
    let ps_are : ps ≡ map shown_place (places_in size (shares size next xs)) = cc in
    let addr : p.addr ≡ b + at = ap (λ (q : Place). q.addr) p_is in
    let long : p.totlen ≡ len = ap (λ (q : Place). q.totlen) p_is in
    let some : 0 < len = put.room.0.some in
    let small : at < size = omega (arith, inside, some) in
    let block : p.addr / size ≡ o.block = ap (λ (n : ℕ). n / size) addr ∙ div-mul-add o.block size at small in
    let front : List ℕ = gap e size o.place at in
    let later : List ℕ = output_to_all e size (shares size next xs) in
    let bytes : out ≡ front ++ (filled x ++ later) =
    put.bytes
    ∙ (output_step e size row x xs
    ∙ (ap₂ (λ (l : List ℕ) (r : List Opening). l ++ output_to_all e size (shares size r xs)) (goes.output ∙ append-nil (front ++ filled x)) it.after
    ∙ append_assoc front (filled x) later)) in
    let gap_long : o.place + length front ≡ at = first_gap e size o.place x words put.room.0 in
    let out_long : o.place + length (front ++ filled x) ≡ end = first_out e size o.place x words put.room.0 in
    let here : (b + o.place) + length front ≡ b + at = omega (arith, gap_long) in
    let node = node_is (b + o.place) (b + at) front x later here in
    let found : bytes_at (b + o.place) out (p.addr, p.totlen) ≡ x =
    ap₂ (λ (a n : ℕ). bytes_at (b + o.place) out (a, n)) addr long ∙ (ap (λ (l : List ℕ). bytes_at (b + o.place) l (b + at, len)) bytes ∙ node.0) in
    let within : (b + at) - (b + o.place) + len ≤ length out = subst (λ (l : List ℕ). (b + at) - (b + o.place) + len ≤ length l) (sym bytes) node.1 in
    let rest_is : drop (end - o.place) out ≡ later =
    ap (drop (end - o.place)) (bytes ∙ sym (append_assoc front (filled x) later)) ∙ drop_at (front ++ filled x) later (end - o.place) (omega (arith, out_long)) in
    record {
      x = x;
      xs = xs;
      opening = o;
      rest = it.rest;
      forms_are = refl;
      after = it.after;
      block = block;
      reached = ap (λ (n : ℕ). from_block n row) block ∙ reached_block size 0 flash.count len row o it.rest put.upwards it.is;
      addr = addr;
      long = long;
      is_open = is_open;
      up = up;
      ends = moved.0.inside;
      low = low;
      first = record {
        up = omega (arith, addr, up);
        within = omega (arith, within, addr, long);
        low = omega (arith, addr, long, inside, low);
        node = subst (IsWrittenForm e) (sym found) put.written.0;
      };
      told = standings_next e size row x xs o it.rest it.is
          ∙ ap (λ (s : Standing). s ∷ standings_in_shares e size (shares size next xs)) (same_standing e b at p.addr x _ addr found);
      passes = omega (arith, ap length bytes, length-append front (filled x ++ later), length-append (filled x) later, length-append front (filled x), out_long);
      next = record {
        writable = put.writable;
        upwards = reached_upwards size 0 flash.count len row o it.rest put.upwards it.is;
        each = moved;
        room = put.room.1;
        written = put.written.1;
        fits = it.later;
        bytes = rest_is;
        placed = ps_are;
      };
    }
  where
    same_standing : (e : Endian) (b at a : ℕ) (x y : List ℕ) → a ≡ b + at → y ≡ x
        → (let s : Standing = record { addr = b + at; totlen = length x; stands_from = b + (at + whole_len x); weak = least_weak e x } in s) ≡ standing_at e a y
    same_standing e b at a x y a_is y_is =
        let sum : b + (at + whole_len x) ≡ (b + at) + whole_len x = omega arith in
        ap (λ (n : ℕ). (let s : Standing = record { addr = b + at; totlen = length x; stands_from = n; weak = least_weak e x } in s)) sum
        ∙ sym (ap₂ (standing_at e) a_is y_is)

-- ---- several forms

-- What is left of forms where a walk is, and of their bytes and places; and from where on those stand
-- that were passed.
pub record Walked (e : Endian) (flash : Blocks) (row : List Opening) (forms : List (List ℕ)) (now : List Opening) (out : List ℕ) (places : List Place) (told : List Standing) : Type 0 where
  pub left : List (List ℕ)
  pub put : ArePutIn e flash now left out places
  pub told_is : told ++ standings_in_shares e flash.size (shares flash.size now left) ≡ standings_in_shares e flash.size (shares flash.size row forms)
  pub ends : row_after_all flash.size now left ≡ row_after_all flash.size row forms

pub none_walked : (e : Endian) (flash : Blocks) (row : List Opening) (forms : List (List ℕ)) (out : List ℕ) (places : List Place) → ArePutIn e flash row forms out places → Walked e flash row forms row out places []
none_walked e flash row forms out places put = record { left = forms; put = put; told_is = refl; ends = refl }

-- the form at the next place
pub walked_to : (e : Endian) (flash : Blocks) (row : List Opening) (forms : List (List ℕ)) (now : List Opening) (out : List ℕ) (places : List Place) (told : List Standing) (i : ℕ) (p d : Place)
    → i < length places → p ≡ get_or places i d → (w : Walked e flash row forms now out (drop i places) told) → NextForm e flash now w.left out p (drop (suc i) places)
walked_to e flash row forms now out places told i p d below p_is w =
    let at : drop i places ≡ p ∷ drop (suc i) places = drop-cons places i d below ∙ ap (λ (q : Place). q ∷ drop (suc i) places) (sym p_is) in
    next_form e flash now w.left out p (drop (suc i) places) (subst (ArePutIn e flash now w.left out) at w.put)

pub walked_on : (e : Endian) (flash : Blocks) (row : List Opening) (forms : List (List ℕ)) (now next : List Opening) (out rest : List ℕ) (p : Place) (ps : List Place) (told all : List Standing) (old : List Place)
    → (w : Walked e flash row forms now out old told) → (it : NextForm e flash now w.left out p ps)
    → next ≡ moved_opening flash.size it.opening it.x ∷ it.rest → rest ≡ drop (end_after flash.size it.opening.place (length it.x) - it.opening.place) out
    → all ≡ told ++ standing_in e (it.opening.block * flash.size + it.opening.place) out p ∷ []
    → Walked e flash row forms next rest ps all
walked_on e flash row forms now next out rest p ps told all old w it next_is rest_is all_is =
    let size : ℕ = flash.size in
    let moved : List Opening = moved_opening size it.opening it.x ∷ it.rest in
    let one : Standing = standing_in e (it.opening.block * size + it.opening.place) out p in
    let later : List Standing = standings_in_shares e size (shares size moved it.xs) in
    record {
      left = it.xs;
      put = subst (λ (r : List Opening). ArePutIn e flash r it.xs rest ps) (sym next_is) (subst (λ (l : List ℕ). ArePutIn e flash moved it.xs l ps) (sym rest_is) it.next);
      told_is = ap₂ (λ (l : List Standing) (r : List Opening). l ++ standings_in_shares e size (shares size r it.xs)) all_is next_is
          ∙ (append_assoc told (one ∷ []) later ∙ (ap (λ (l : List Standing). told ++ l) (sym it.told) ∙ w.told_is));
      ends = ap (λ (r : List Opening). row_after_all size r it.xs) (next_is ∙ sym it.after)
          ∙ (ap (row_after_all size now) (sym it.forms_are) ∙ w.ends);
    }

empty_is_not : (q : Place) (qs : List Place) → [] ≡ q ∷ qs → ⊥
empty_is_not q qs same = cc

-- all were passed
pub all_walked : (e : Endian) (flash : Blocks) (row : List Opening) (forms : List (List ℕ)) (now : List Opening) (out : List ℕ) (places : List Place) (told : List Standing) (i : ℕ)
    → i ≡ length places → Walked e flash row forms now out (drop i places) told
    → (told ≡ standings_in_shares e flash.size (shares flash.size row forms)) × (now ≡ row_after_all flash.size row forms)
all_walked e flash row forms now out places told i all w = by w.left w.put w.told_is w.ends
  where
    none : drop i places ≡ []
    none = drop_all i places (omega (arith, all))

    by : (left : List (List ℕ)) → ArePutIn e flash now left out (drop i places) → told ++ standings_in_shares e flash.size (shares flash.size now left) ≡ standings_in_shares e flash.size (shares flash.size row forms)
        → row_after_all flash.size now left ≡ row_after_all flash.size row forms
        → (told ≡ standings_in_shares e flash.size (shares flash.size row forms)) × (now ≡ row_after_all flash.size row forms)
    by [] put told_is ends = (sym (append-nil told) ∙ (ap (λ (l : List Standing). told ++ l) (sym (no_standings e flash.size now)) ∙ told_is), ends)
    by (x ∷ xs) put told_is ends =
        let it = first_form e flash.size now x xs put.fits in
        let goes = goes_to e flash.size now x it.opening it.rest it.is in
        let some : drop i places ≡ map shown_place (places_in flash.size (shares flash.size now (x ∷ [])) ++ places_in flash.size (shares flash.size (row_after flash.size now x) xs)) =
        put.placed ∙ ap (map shown_place) (places_step flash.size now x xs) in
        let more : drop i places ≡ map shown_place ((it.opening.block * flash.size + place_after flash.size it.opening.place (length x), length x) ∷ places_in flash.size (shares flash.size (row_after flash.size now x) xs)) =
        some ∙ ap (λ (l : List (ℕ × ℕ)). map shown_place (l ++ places_in flash.size (shares flash.size (row_after flash.size now x) xs))) goes.places in
        let no : [] ≡ map shown_place ((it.opening.block * flash.size + place_after flash.size it.opening.place (length x), length x) ∷ places_in flash.size (shares flash.size (row_after flash.size now x) xs)) = sym none ∙ more in
        absurd (empty_is_not _ _ no)
